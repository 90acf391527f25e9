-- A flush, packet by packet.
use Rattle.std.proofs.Common.{◌≡◌, ℕ, zero, suc, ◌+◌, ◌-◌, ◌<◌, ◌≤◌, ⊎_elim, Bool, true, false, not, ◌||◌, ◌==◌, cond}
use Rattle.std.proofs.Common.{find, Option, Some, None, refl, sym, ap, ◌∙◌, subst, arith}
use Rattle.std.specs.Prelude.{option_map, option_and_then}
use Rattle.std.proofs.lemmas.Bool.{cases_lt}
use Rattle.std.proofs.lemmas.Bool.Decides.{nat_tests}
use Rattle.std.proofs.lemmas.Option.{same_Some}
use Rattle.byz_world.proofs.Exported.{after_gives-none, after_gives-next, after_gives-pool}
use Rattle.byz_world.specs.Settled.{after_gives}
use Rattle.lab_scripts.specs.inside.Flags.{NoneFrom, with_many, gave_on, GivesOn}
use Rattle.lab_scripts.proofs.FlagLemmas.{find-range, with_number-kept}
use Rattle.lab_scripts.proofs.StepLemmas.{given-found}
use Rattle.std.specs.Option.{option_map_or}
use Rattle.std.specs.List.{range_with_len}
use Rattle.byz_world.specs.declared.step.Step.TheVariants.{Give}
use Rattle.lab_scripts.specs.Labs.{Lab, pool_length, with_number, next_number, after_doing, flush_within, flush}

pub flush_within-over : (count : ℕ) (lab : Lab) → flush_within 0 count lab ≡ record { count = count; lab = lab }
unfolding flush_within
flush_within-over count lab = refl

pub flush_within-none : (times count : ℕ) (lab : Lab) → next_number lab ≡ None
    → flush_within times count lab ≡ record { count = count; lab = lab }
unfolding flush_within
flush_within-none zero count lab none = refl
flush_within-none (suc times) count lab none =
    ap (λ o. option_map_or (λ number. flush_within times (count + 1) (after_doing lab (Give number))) o
    (record { count = count; lab = lab })) none

pub flush_within-some : (times count : ℕ) (lab : Lab) (number : ℕ) → next_number lab ≡ Some number
    → flush_within (suc times) count lab ≡ flush_within times (count + 1) (after_doing lab (Give number))
unfolding flush_within
flush_within-some times count lab number some =
    ap (λ o. option_map_or (λ number. flush_within times (count + 1) (after_doing lab (Give number))) o
    (record { count = count; lab = lab })) some

-- so many packets were given, and the rest of the flush is due
pub record Goes (first : Lab) (limit count : ℕ) (lab : Lab) : Type 0 where
  pub rest : flush_within (limit - count) count lab ≡ flush first
  pub within : count ≤ limit

pub goes-first : (first : Lab) (limit : ℕ) → limit ≡ first.world.config.limit → Goes first limit 0 first
goes-first first limit is = record {
  rest = ap (λ n. flush_within n 0 first) (all limit ∙ is);
  within = omega arith;
}
  where
    all : (n : ℕ) → n - 0 ≡ n
    all n = omega arith

pub goes-on : {first lab : Lab} {limit count : ℕ} (number : ℕ) (after : Lab) → Goes first limit count lab →
    count < limit
    → next_number lab ≡ Some number → after ≡ after_doing lab (Give number) → Goes first limit (count + 1) after
goes-on {first} {lab} {limit} {count} number after goes more some is = record {
  rest =
      ap (flush_within (limit - (count + 1)) (count + 1)) is
      ∙ sym (flush_within-some (limit - (count + 1)) count lab number some)
      ∙ ap (λ n. flush_within n count lab) one ∙ goes.rest;
  within = omega arith;
}
  where
    one : suc (limit - (count + 1)) ≡ limit - count
    one = omega arith

-- the flush ends where none is left, or after so many
pub goes-none : {first lab : Lab} {limit count : ℕ} → Goes first limit count lab → next_number lab ≡ None
    → record { count = count; lab = lab } ≡ flush first
goes-none {first} {lab} {limit} {count} goes none =
    sym (flush_within-none (limit - count) count lab none) ∙ goes.rest

pub goes-over : {first lab : Lab} {limit count : ℕ} → Goes first limit count lab → limit ≤ count
    → record { count = limit; lab = lab } ≡ flush first
goes-over {first} {lab} {limit} {count} goes over =
    let e : limit ≡ count = omega (arith, goes.within) in
    let none : limit - count ≡ 0 = omega arith in
    ap (λ n. record { count = n; lab = lab }) e ∙ sym (flush_within-over count lab)
    ∙ ap (λ n. flush_within n count lab) (sym none) ∙ goes.rest

-- what is found is the next number
pub next_number-found : (lab : Lab) (given : ℕ → Bool) (end : ℕ) (found : Option ℕ) → given ≡ lab.given
    → end ≡ pool_length lab.world → found ≡ find (λ k. not (given k)) (range_with_len 0 end) → next_number lab ≡ found
unfolding next_number
next_number-found lab given end found same all is =
    sym (is ∙ (λ i. find (λ k. not (same i k)) (range_with_len 0 (all i))))

-- Many at once.

found_before : (p : ℕ → Bool) (from n m : ℕ) → find p (range_with_len from n) ≡ Some m → (j : ℕ) → from ≤ j → j < m →
    p j ≡ false
found_before p from zero m e j over under = absurd cc
found_before p from (suc n) m e j over under = by (p from) refl e (found_before p (from + 1) n m)
  where
    by : (b : Bool) → p from ≡ b → cond b (Some from) (find p (range_with_len (from + 1) n)) ≡ Some m →
        (find p (range_with_len (from + 1) n) ≡ Some m → (j : ℕ) → from + 1 ≤ j → j < m → p j ≡ false) → p j ≡ false
    by true is e rest = let same : from ≡ m = same_Some from m e in absurd (omega (arith, same, over, under))
    by false is e rest =
        ⊎_elim
        (λ (early : j < from + 1). let same : from ≡ j = omega (arith, over, early) in ap p (sym same) ∙ is)
        (λ (late : from + 1 ≤ j). rest e j late under)
        (cases_lt j (from + 1))

not_false : (b : Bool) → not b ≡ false → b ≡ true
not_false true e = refl
not_false false e = absurd cc

-- all numbers below the next one were given
next_is_least : (lab : Lab) (number : ℕ) → next_number lab ≡ Some number → (j : ℕ) → j < number → lab.given j ≡ true
unfolding next_number
next_is_least lab number e j h =
    not_false (lab.given j)
    (found_before (λ k. not (lab.given k)) 0 (pool_length lab.world) number e j (omega arith) h)

with_many-kept : (given : ℕ → Bool) (first count j : ℕ) → given j ≡ true → with_many given first count j ≡ true
unfolding with_many
with_many-kept given first zero j was = was
with_many-kept given first (suc count) j was =
    with_number-kept (with_many given first count) (first + count) j (with_many-kept given first count j was)

pub with_many-inside : (given : ℕ → Bool) (first count j : ℕ) → first ≤ j → j < first + count →
    with_many given first count j ≡ true
unfolding with_many
with_many-inside given first zero j over under = absurd (omega (arith, over, under))
with_many-inside given first (suc count) j over under =
    ⊎_elim
    (λ (early : j < first + count).
    with_number-kept (with_many given first count) (first + count) j (with_many-inside given first count j over early))
    (λ (last : first + count ≤ j).
    let same : (j == first + count) ≡ true = grind (arith, nat_tests) in
    ap (λ b. b || with_many given first count j) same)
    (cases_lt j (first + count))

with_many-beyond : (given : ℕ → Bool) (first count j : ℕ) → given j ≡ false → first + count ≤ j →
    with_many given first count j ≡ false
unfolding with_many
with_many-beyond given first zero j none h = none
with_many-beyond given first (suc count) j none h =
    let other : (j == first + count) ≡ false = grind (arith, nat_tests) in
    let rest = with_many-beyond given first count j none (omega (arith, h)) in
    (λ i. other i || rest i)

pub with_many-none : (given : ℕ → Bool) (first : ℕ) → with_many given first 0 ≡ given
unfolding with_many
with_many-none given first = refl

pub with_many-next : (given : ℕ → Bool) (first count : ℕ) →
    with_number (with_many given first count) (first + count) ≡ with_many given first (count + 1)
unfolding with_many
with_many-next given first count = ap (with_many given first) next
  where
    next : suc count ≡ count + 1
    next = omega arith

-- the cluster after so many packets from this one on
abbrev pub after_many : Lab → ℕ → ℕ → Lab
after_many lab first count = record {
  world = after_gives lab.world first count;
  given = with_many lab.given first count;
}

gave_next : (count : ℕ) (lab next : Lab) (number : ℕ) → gave_on count lab ≡ Some next → next_number next ≡ Some number →
    gave_on (suc count) lab ≡ Some (after_doing next (Give number))
unfolding gave_on
gave_next count lab next number was some =
    ap (option_and_then (λ x. option_map (λ k. after_doing x (Give k)) (next_number x))) was
    ∙ ap (option_map (λ k. after_doing next (Give k))) some

gave_none : (lab : Lab) → gave_on 0 lab ≡ Some lab
unfolding gave_on
gave_none lab = refl

-- one packet is the least number that was not given
pub gives_one : (lab : Lab) (number : ℕ) (after : Lab) → next_number lab ≡ Some number →
    after ≡ after_doing lab (Give number) → GivesOn lab 1 after
gives_one lab number after some is = gave_next 0 lab lab number (gave_none lab) some ∙ ap Some (sym is)

-- where none from a number on was given, so are those that come after it, one after another
gave_many : (lab : Lab) (packet : ℕ) → next_number lab ≡ Some packet → NoneFrom lab.given packet → (count : ℕ) →
    packet + count ≤ pool_length lab.world → gave_on count lab ≡ Some (after_many lab packet count)
unfolding next_number
gave_many lab packet some none zero h =
    gave_none lab
    ∙ (λ i. Some (record {
      world = sym (after_gives-none lab.world packet) i;
      given = sym (with_many-none lab.given packet) i;
    }))
gave_many lab packet some none (suc count) h =
    let was = gave_many lab packet some none count (omega (arith, h)) in
    let now : Lab = after_many lab packet count in
    let number : ℕ = packet + count in
    let inside : number < pool_length now.world = omega (arith, h, after_gives-pool lab.world packet count) in
    let least : find (λ k. not (now.given k)) (range_with_len 0 (pool_length now.world)) ≡ Some number =
    find-range (λ k. not (now.given k)) 0 (pool_length now.world) number
    (λ j _ early. ap not (before j early)) (omega arith) (omega (arith, inside))
    (ap not (with_many-beyond lab.given packet count number (none number (omega arith)) (omega arith))) in
    let next : suc count ≡ count + 1 = omega arith in
    gave_next count lab now number was least
    ∙ ap (λ (x : Lab). Some x)
    (λ i. record {
      world = (after_gives-next lab.world packet count ∙ ap (after_gives lab.world packet) (sym next)) i;
      given = (given-found now number inside ∙ with_many-next lab.given packet count
          ∙ ap (with_many lab.given packet) (sym next)) i;
    })
  where
    before : (j : ℕ) → j < packet + count → with_many lab.given packet count j ≡ true
    before j early =
        ⊎_elim
        (λ (below : j < packet). with_many-kept lab.given packet count j (next_is_least lab packet some j below))
        (λ (over : packet ≤ j). with_many-inside lab.given packet count j over early)
        (cases_lt j packet)

pub gives_many : (lab : Lab) (packet count : ℕ) (after : Lab) → next_number lab ≡ Some packet →
    NoneFrom lab.given packet →
    packet + count ≤ pool_length lab.world → after.world ≡ after_gives lab.world packet count →
    after.given ≡ with_many lab.given packet count → GivesOn lab count after
gives_many lab packet count after some none h world given =
    gave_many lab packet some none count h
    ∙ (λ i. Some (record { world = sym world i; given = sym given i }))

-- so a flush goes on by as many
goes_many : {first : Lab} {limit done : ℕ} (count : ℕ) (lab after : Lab) → Goes first limit done lab →
    done + count ≤ limit → gave_on count lab ≡ Some after → Goes first limit (done + count) after
unfolding gave_on
goes_many {first} {limit} {done} zero lab after goes h e =
    let same : lab ≡ after = cc in
    let number : done ≡ done + 0 = omega arith in
    subst (λ k. Goes first limit k after) number (subst (Goes first limit done) same goes)
goes_many {first} {limit} {done} (suc count) lab after goes h e =
    by (gave_on count lab) refl e (λ next was. goes_many count lab next goes (omega (arith, h)) was)
  where
    last : (next : Lab) (o : Option ℕ) → next_number next ≡ o → gave_on count lab ≡ Some next →
        option_map (λ k. after_doing next (Give k)) o ≡ Some after → Goes first limit (done + count) next →
        Goes first limit (done + suc count) after
    last next None some was e before = absurd cc
    last next (Some number) some was e before =
        let is : after_doing next (Give number) ≡ after = cc in
        let index : done + count + 1 ≡ done + suc count = omega arith in
        subst (λ k. Goes first limit k after) index
        (goes-on number after before (omega (arith, h)) some (sym is))

    by : (o : Option Lab) → gave_on count lab ≡ o →
        option_and_then (λ next. option_map (λ k. after_doing next (Give k)) (next_number next)) o ≡ Some after →
        ((next : Lab) → gave_on count lab ≡ Some next → Goes first limit (done + count) next) →
        Goes first limit (done + suc count) after
    by None was e rest = absurd cc
    by (Some next) was e rest = last next (next_number next) refl was e (rest next was)

pub goes-many : {first : Lab} {limit done : ℕ} (count : ℕ) (lab after : Lab) → Goes first limit done lab →
    done + count ≤ limit → GivesOn lab count after → Goes first limit (done + count) after
goes-many count lab after goes h gives = goes_many count lab after goes h gives
