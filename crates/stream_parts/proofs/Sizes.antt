-- How many pairs hold: a set of pairs within another has no more, and commands make no more hold than they name.
use Rattle.std.proofs.Common.{◌≡◌, ℕ, zero, suc, ◌+◌, ◌-◌, ◌≤◌, Bool, true, false, not, ◌||◌}
use Rattle.std.proofs.Common.{List, [], ◌∷◌, length, Option, Some, None, refl, sym, ap, ◌∙◌, subst, arith, cond}
use Rattle.std.specs.Prelude.{if◌then◌else◌}
use Rattle.std.specs.FinSet as sets
use Rattle.std.specs.List.{list_any}
use Rattle.std.specs.Option.{option_map_or}
use Rattle.std.specs.Ordering.{eq_by_cmp}
use Rattle.std.proofs.lemmas.Bool.{and_parts, and_from}
use Rattle.role_commands.specs.declared.command.Command.{Command}
use Rattle.role_commands.specs.declared.command.Command.TheVariants.{Assign, Deassign, Grant, Revoke, Clear}
use Rattle.part_lives.specs.Holding.{Pair, Assigned, Granted, Pairs, pair_cmp, pair_of, after_command}
use Rattle.part_lives.specs.Lives.{has_effect, obeyed, held_from}
use Rattle.part_lives.specs.Parts.{Plan}
use Rattle.part_lives.proofs.Saying.{ordered, one_pair, cleared, tied_is, itself}

pub or_cases : (a b : Bool) {C : Type 0} → (a || b) ≡ true → (a ≡ true → C) → (b ≡ true → C) → C
or_cases true b is left right = left refl
or_cases false b is left right = right is

pub or_left : (a b : Bool) → a ≡ true → (a || b) ≡ true
or_left a b is = ap (λ c. c || b) is

pub or_right : (a b : Bool) → b ≡ true → (a || b) ≡ true
or_right true b is = refl
or_right false b is = is

-- A set within another.

abbrev pub IsWithin : Pairs → Pairs → Type 0
IsWithin a b = (q : Pair) → sets.contains a q ≡ true → sets.contains b q ≡ true

some_there : (b : Pairs) (k : Pair) → sets.contains b k ≡ true → 1 ≤ sets.len b
some_there b k there = by (sets.len b) refl
  where
    by : (n : ℕ) → sets.len b ≡ n → 1 ≤ n
    by zero is =
        let clash : false ≡ true =
        sym (sets.contains-empty pair_cmp k) ∙ sym (ap (λ s. sets.contains s k) (sets.empty_of_len b is)) ∙ there in
        absurd cc
    by (suc n) is = omega arith

abbrev set_of : List Pair → Pairs
set_of ks = sets.from_list ks

fewer_by : (ks : List Pair) (k : Pair) (b : Pairs) (there : Bool) → sets.contains (set_of ks) k ≡ there →
    ((c : Pairs) → ((q : Pair) → list_any (eq_by_cmp pair_cmp q) ks ≡ true → sets.contains c q ≡ true) →
    sets.len (set_of ks) ≤ sets.len c) →
    ((q : Pair) → (eq_by_cmp pair_cmp q k || list_any (eq_by_cmp pair_cmp q) ks) ≡ true → sets.contains b q ≡ true) →
    cond there (sets.len (set_of ks)) (sets.len (set_of ks) + 1)
    ≤ sets.len b
fewer_by ks k b true is rest within =
    rest b (λ q one. within q (or_right (eq_by_cmp pair_cmp q k) (list_any (eq_by_cmp pair_cmp q) ks) one))
fewer_by ks k b false is rest within =
    let here : sets.contains b k ≡ true =
    within k (or_left (eq_by_cmp pair_cmp k k) (list_any (eq_by_cmp pair_cmp k) ks) (itself k)) in
    let less : sets.len (sets.remove b k) ≡ sets.len b - 1 =
    sets.len-remove ordered b k ∙ ap (λ c. cond c (sets.len b - 1) (sets.len b)) here in
    let few = rest (sets.remove b k) (λ q one.
    sets.contains-remove ordered b k q
    ∙ and_from (not (eq_by_cmp pair_cmp q k)) (sets.contains b q) (apart q one (eq_by_cmp pair_cmp q k) refl)
    (within q (or_right (eq_by_cmp pair_cmp q k) (list_any (eq_by_cmp pair_cmp q) ks) one))) in
    omega (arith, few, less, some_there b k here)
  where
    apart : (q : Pair) → list_any (eq_by_cmp pair_cmp q) ks ≡ true → (b : Bool) → eq_by_cmp pair_cmp q k ≡ b →
        not b ≡ true
    apart q one false tied = refl
    apart q one true tied =
        let same : q ≡ k = tied_is q k tied in
        let clash : false ≡ true =
        sym is ∙ sets.contains-from_list ordered ks k
        ∙ subst (λ p. list_any (eq_by_cmp pair_cmp p) ks ≡ true) same one in
        absurd cc

few_of : (ks : List Pair) (b : Pairs) →
    ((q : Pair) → list_any (eq_by_cmp pair_cmp q) ks ≡ true → sets.contains b q ≡ true) →
    sets.len (set_of ks) ≤ sets.len b
few_of [] b within = omega (arith, sets.len-empty pair_cmp)
few_of (k ∷ ks) b within =
    let more = sets.len-insert ordered (set_of ks) k in
    let few = fewer_by ks k b (sets.contains (set_of ks) k) refl (few_of ks) within in
    omega (arith, more, few)

pub no_more : (a b : Pairs) → IsWithin a b → sets.len a ≤ sets.len b
no_more a b within =
    let same : a ≡ set_of (sets.items a) =
    sets.same_set ordered one_pair a (set_of (sets.items a))
    (λ q. sets.contains-items a q ∙ sym (sets.contains-from_list ordered (sets.items a) q)) in
    let few = few_of (sets.items a) b (λ q one. within q (sets.contains-items a q ∙ one)) in
    omega (arith, ap sets.len same, few)

-- What commands may make hold beside what does.

abbrev pub with_pair : Pairs → Command → Pairs
with_pair pairs c = option_map_or (λ p. sets.insert pairs p) (pair_of c) pairs

abbrev pub cover : Pairs → List Command → Pairs
cover pairs [] = pairs
cover pairs (c ∷ cs) = cover (with_pair pairs c) cs

-- the command names the pair
abbrev pub makes : Pair → Command → Bool
makes q c = option_map_or (eq_by_cmp pair_cmp q) (pair_of c) false

with_by : (pairs : Pairs) (q : Pair) (o : Option Pair) →
    sets.contains (option_map_or (λ p. sets.insert pairs p) o pairs) q
    ≡ (option_map_or (eq_by_cmp pair_cmp q) o false || sets.contains pairs q)
with_by pairs q None = refl
with_by pairs q (Some p) = sets.contains-insert ordered pairs p q

with-contains : (pairs : Pairs) (c : Command) (q : Pair) →
    sets.contains (with_pair pairs c) q ≡ (makes q c || sets.contains pairs q)
with-contains pairs c q = with_by pairs q (pair_of c)

swapped : (a b c : Bool) → ((a || b) || c) ≡ (b || (a || c))
swapped true true c = refl
swapped true false c = refl
swapped false b c = refl

pub cover-contains : (pairs : Pairs) (cs : List Command) (q : Pair) →
    sets.contains (cover pairs cs) q ≡ (sets.contains pairs q || list_any (makes q) cs)
cover-contains pairs [] q = or-false (sets.contains pairs q)
  where
    or-false : (a : Bool) → a ≡ (a || false)
    or-false true = refl
    or-false false = refl
cover-contains pairs (c ∷ cs) q =
    cover-contains (with_pair pairs c) cs q ∙ ap (λ b. b || list_any (makes q) cs) (with-contains pairs c q)
    ∙ swapped (makes q c) (sets.contains pairs q) (list_any (makes q) cs)

with_more : (pairs : Pairs) (o : Option Pair) →
    sets.len (option_map_or (λ p. sets.insert pairs p) o pairs) ≤ sets.len pairs + 1
with_more pairs None = omega arith
with_more pairs (Some p) = by (sets.contains pairs p) (sets.len-insert ordered pairs p)
  where
    by : (b : Bool) → sets.len (sets.insert pairs p) ≡ cond b (sets.len pairs) (sets.len pairs + 1) →
        sets.len (sets.insert pairs p) ≤ sets.len pairs + 1
    by true is = omega (arith, is)
    by false is = omega (arith, is)

pub cover_few : (pairs : Pairs) (cs : List Command) → sets.len (cover pairs cs) ≤ sets.len pairs + length cs
cover_few pairs [] = omega arith
cover_few pairs (c ∷ cs) = omega (arith, cover_few (with_pair pairs c) cs, with_more pairs (pair_of c))

-- What holds after commands is among that.

after_in : (pairs : Pairs) (c : Command) (q : Pair) → sets.contains (after_command pairs c) q ≡ true →
    (sets.contains pairs q || makes q c) ≡ true
after_in pairs (Assign u r) q is =
    or_cases (eq_by_cmp pair_cmp q (Assigned u r)) (sets.contains pairs q)
    (sym (sets.contains-insert ordered pairs (Assigned u r) q) ∙ is)
    (λ made. or_right (sets.contains pairs q) (eq_by_cmp pair_cmp q (Assigned u r)) made)
    (λ had. or_left (sets.contains pairs q) (eq_by_cmp pair_cmp q (Assigned u r)) had)
after_in pairs (Grant r p b) q is =
    or_cases (eq_by_cmp pair_cmp q (Granted p b r)) (sets.contains pairs q)
    (sym (sets.contains-insert ordered pairs (Granted p b r) q) ∙ is)
    (λ made. or_right (sets.contains pairs q) (eq_by_cmp pair_cmp q (Granted p b r)) made)
    (λ had. or_left (sets.contains pairs q) (eq_by_cmp pair_cmp q (Granted p b r)) had)
after_in pairs (Deassign u r) q is =
    or_left (sets.contains pairs q) false
    (and_parts (not (eq_by_cmp pair_cmp q (Assigned u r))) (sets.contains pairs q)
    (sym (sets.contains-remove ordered pairs (Assigned u r) q) ∙ is)).1
after_in pairs (Revoke r p b) q is =
    or_left (sets.contains pairs q) false
    (and_parts (not (eq_by_cmp pair_cmp q (Granted p b r))) (sets.contains pairs q)
    (sym (sets.contains-remove ordered pairs (Granted p b r) q) ∙ is)).1
after_in pairs (Clear r) q is =
    or_left (sets.contains pairs q) false (and_parts (sets.contains pairs q) _ (sym (cleared pairs r q) ∙ is)).0

module _ (plan : Plan) (owner : ℕ) where
  obeyed_in : (pairs : Pairs) (c : Command) (q : Pair) → sets.contains (obeyed plan owner pairs c) q ≡ true →
      (sets.contains pairs q || makes q c) ≡ true
  obeyed_in pairs c q is = by (has_effect plan owner pairs c) is
    where
      by : (b : Bool) → sets.contains (if b then after_command pairs c else pairs) q ≡ true →
          (sets.contains pairs q || makes q c) ≡ true
      by true is = after_in pairs c q is
      by false is = or_left (sets.contains pairs q) (makes q c) is

  pub held_in : (pairs : Pairs) (cs : List Command) (q : Pair) →
      sets.contains (held_from plan owner pairs cs) q ≡ true →
      (sets.contains pairs q || list_any (makes q) cs) ≡ true
  unfolding held_from
  held_in pairs [] q is = or_left (sets.contains pairs q) false is
  held_in pairs (c ∷ cs) q is =
      or_cases (sets.contains (obeyed plan owner pairs c) q) (list_any (makes q) cs)
      (held_in (obeyed plan owner pairs c) cs q is)
      (λ now.
      or_cases (sets.contains pairs q) (makes q c) (obeyed_in pairs c q now)
      (λ had. or_left (sets.contains pairs q) (makes q c || list_any (makes q) cs) had)
      (λ made.
      or_right (sets.contains pairs q) (makes q c || list_any (makes q) cs)
      (or_left (makes q c) (list_any (makes q) cs) made)))
      (λ later.
      or_right (sets.contains pairs q) (makes q c || list_any (makes q) cs)
      (or_right (makes q c) (list_any (makes q) cs) later))
