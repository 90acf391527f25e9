-- A cluster that settles: how many events that adds, and which packets were given.
use Rattle.lab_scripts.specs.inside.Flags.{AreSet, with_many}
use Rattle.std.proofs.Common.{◌≡◌, ℕ, zero, suc, ◌+◌, ◌<◌, ◌≤◌, ⊎_elim, Bool, true, false, ◌||◌, ◌==◌, length, sym, ap}
use Rattle.std.proofs.Common.{◌∙◌, arith}
use Rattle.std.specs.Prelude.{nat_lt, max}
use Rattle.std.proofs.lemmas.Bool.{cases_lt}
use Rattle.std.proofs.lemmas.Bool.Decides.{nat_tests}
use Rattle.byz_world.specs.Settled.{settled}
use Rattle.byz_world.specs.Worlds.{WorldValue}
use Rattle.lab_scripts.specs.Labs.{Lab, pool_length, with_number, with_all_below, after_settling, settling_adds}

below_both : (k m n : ℕ) (g : Bool) → (nat_lt k (max m n) || g) ≡ (nat_lt k n || (nat_lt k m || g))
below_both k m n g =
    ⊎_elim
    (λ (first : k < n).
    let now : nat_lt k (max m n) ≡ true = grind (arith, nat_tests) in
    let too : nat_lt k n ≡ true = grind (arith, nat_tests) in
    ap (λ b. b || g) now ∙ sym (ap (λ b. b || (nat_lt k m || g)) too))
    (λ (past : n ≤ k).
    let none : nat_lt k n ≡ false = grind (arith, nat_tests) in
    let same : nat_lt k (max m n) ≡ nat_lt k m =
    ⊎_elim
    (λ (below : k < m).
    let now : nat_lt k (max m n) ≡ true = grind (arith, nat_tests) in
    let was : nat_lt k m ≡ true = grind (arith, nat_tests) in
    now ∙ sym was)
    (λ (behind : m ≤ k).
    let now : nat_lt k (max m n) ≡ false = grind (arith, nat_tests) in
    let was : nat_lt k m ≡ false = grind (arith, nat_tests) in
    now ∙ sym was)
    (cases_lt k m) in
    ap (λ b. b || g) same ∙ sym (ap (λ b. b || (nat_lt k m || g)) none))
    (cases_lt k n)

-- all below either of two numbers are all below the greater
pub below_max : (given : ℕ → Bool) (m n : ℕ) →
    with_all_below given (max m n) ≡ with_all_below (with_all_below given m) n
below_max given m n = λ i k. below_both k m n (given k) i

one_more : (k n : ℕ) (g : Bool) → ((k == n) || (nat_lt k n || g)) ≡ (nat_lt k (n + 1) || g)
one_more k n g =
    ⊎_elim
    (λ (before : k < n).
    let other : (k == n) ≡ false = grind (arith, nat_tests) in
    let was : nat_lt k n ≡ true = grind (arith, nat_tests) in
    let now : nat_lt k (n + 1) ≡ true = grind (arith, nat_tests) in
    (λ i. other i || (was i || g)) ∙ sym (ap (λ b. b || g) now))
    (λ (past : n ≤ k).
    ⊎_elim
    (λ (last : k < n + 1).
    let same : (k == n) ≡ true = grind (arith, nat_tests) in
    let now : nat_lt k (n + 1) ≡ true = grind (arith, nat_tests) in
    ap (λ b. b || (nat_lt k n || g)) same ∙ sym (ap (λ b. b || g) now))
    (λ (later : n + 1 ≤ k).
    let other : (k == n) ≡ false = grind (arith, nat_tests) in
    let was : nat_lt k n ≡ false = grind (arith, nat_tests) in
    let now : nat_lt k (n + 1) ≡ false = grind (arith, nat_tests) in
    (λ i. other i || (was i || g)) ∙ sym (ap (λ b. b || g) now))
    (cases_lt k (n + 1)))
    (cases_lt k n)

pub below_more : (given : ℕ → Bool) (n : ℕ) → with_number (with_all_below given n) n ≡ with_all_below given (n + 1)
below_more given n = λ i k. one_more k n (given k) i

-- what the code keeps is the cluster after it has settled
pub settled_lab : (first last : Lab) (end : ℕ) → last.world ≡ settled first.world → end ≡ pool_length last.world →
    last.given ≡ with_all_below first.given end → last ≡ after_settling first
settled_lab first last end world all given =
    let number : end ≡ pool_length (settled first.world) = all ∙ ap pool_length world in
    λ i. record { world = world i; given = (given ∙ ap (with_all_below first.given) number) i }

-- .. and so many events were added
pub settled_count : (first : Lab) {world : WorldValue} {count : ℕ} → world ≡ settled first.world →
    length world.run ≡ length first.world.run + count → count ≡ settling_adds first
settled_count first {world} {count} is added =
    let long : length (settled first.world).run ≡ length first.world.run + count =
    ap (λ (w : WorldValue). length w.run) (sym is) ∙ added in
    omega (arith, long)

-- A number given out of turn; numbers that are passed over; numbers in turn.

swapped : (a b c : Bool) → (a || (b || c)) ≡ (b || (a || c))
swapped true true c = λ i. true
swapped true false c = λ i. true
swapped false b c = λ i. b || c

pub below_swapped : (given : ℕ → Bool) (end n : ℕ) →
    with_all_below (with_number given n) end ≡ with_number (with_all_below given end) n
below_swapped given end n = λ i k. swapped (nat_lt k end) (k == n) (given k) i

pub below_set : (given : ℕ → Bool) (from end k : ℕ) → AreSet given from end → k < end →
    with_all_below given from k ≡ true
below_set given from end k set h =
    ⊎_elim
    (λ (early : k < from).
    let was : nat_lt k from ≡ true = grind (arith, nat_tests) in λ i. was i || given k)
    (λ (over : from ≤ k).
    let was : nat_lt k from ≡ false = grind (arith, nat_tests) in (λ i. was i || given k) ∙ set k over h)
    (cases_lt k from)

pub below_unset : (given : ℕ → Bool) (from k : ℕ) → from ≤ k → given k ≡ false → with_all_below given from k ≡ false
below_unset given from k h none =
    let was : nat_lt k from ≡ false = grind (arith, nat_tests) in (λ i. was i || none i)

pub below_many : (given : ℕ → Bool) (first count : ℕ) →
    with_all_below given (first + count) ≡ with_many (with_all_below given first) first count
unfolding with_many
below_many given first zero =
    let same : first + 0 ≡ first = omega arith in ap (with_all_below given) same
below_many given first (suc count) =
    let next : first + suc count ≡ first + count + 1 = omega arith in
    ap (with_all_below given) next ∙ sym (below_more given (first + count))
    ∙ ap (λ g. with_number g (first + count)) (below_many given first count)
