-- The map of an owner's instances against the places that hold them.
use Rattle.std.proofs.Common.{◌≡◌, ◌≢◌, ℕ, zero, suc, ◌+◌, ◌<◌, true, false, cond}
use Rattle.std.proofs.Common.{List, [], ◌∷◌, Option, Some, None, refl, ap, ◌∙◌, arith}
use Rattle.std.specs.Ordering.{nat_cmp, eq_by_cmp}
use Rattle.std.specs.Cmp.{nat_cmp_total}
use Rattle.std.specs.FinMap as maps
use Rattle.std.proofs.lemmas.Bool.Decides.{nat_tests}
use Rattle.bracha_instance.specs.States.{State}
use Rattle.owner_streams.specs.Values.{Instances}
use Rattle.owner_streams.specs.inside.Slots.{slot_at, put_some, instances_from}

same_key : (q k : ℕ) → q ≡ k → eq_by_cmp nat_cmp q k ≡ true
same_key q k e = grind (arith, nat_tests)

other_key : (q k : ℕ) → q ≢ k → eq_by_cmp nat_cmp q k ≡ false
other_key q k e = grind (arith, nat_tests)

get-put_same : (m : Instances) (k : ℕ) (slot : Option State) → maps.get m k ≡ None
    → maps.get (put_some m k slot) k ≡ slot
get-put_same m k None e = e
get-put_same m k (Some st) e =
    maps.get-insert nat_cmp_total m k st k ∙ ap (λ b. cond b (Some st) (maps.get m k)) (same_key k k refl)

get-put_other : (m : Instances) (k q : ℕ) (slot : Option State) → q ≢ k → maps.get (put_some m k slot) q ≡ maps.get m q
get-put_other m k q None apart = refl
get-put_other m k q (Some st) apart =
    maps.get-insert nat_cmp_total m k st q ∙ ap (λ b. cond b (Some st) (maps.get m q)) (other_key q k apart)

-- no instance is before the first place
none_before : (first : ℕ) (places : List (Option State)) (q : ℕ) → q < first
    → maps.get (instances_from first places) q ≡ None
unfolding instances_from
none_before first [] q h = maps.get-empty nat_cmp q
none_before first (slot ∷ places) q h =
    get-put_other (instances_from (first + 1) places) first q slot (λ e. omega arith)
    ∙ none_before (first + 1) places q (omega arith)

from_first : (first : ℕ) (places : List (Option State)) (place : ℕ)
    → maps.get (instances_from first places) (first + place) ≡ slot_at places place
unfolding instances_from
from_first first [] place = maps.get-empty nat_cmp (first + place)
from_first first (slot ∷ places) zero =
    let e : first + 0 ≡ first = omega arith in
    ap (λ q. maps.get (put_some (instances_from (first + 1) places) first slot) q) e
    ∙ get-put_same (instances_from (first + 1) places) first slot (none_before (first + 1) places first (omega arith))
from_first first (slot ∷ places) (suc place) =
    let e : first + suc place ≡ first + 1 + place = omega arith in
    let apart : first + suc place ≢ first = λ same. omega arith in
    get-put_other (instances_from (first + 1) places) first (first + suc place) slot apart
    ∙ ap (λ q. maps.get (instances_from (first + 1) places) q) e ∙ from_first (first + 1) places place

-- the map has what the places hold
pub get-instances_from : (places : List (Option State)) (place : ℕ)
    → maps.get (instances_from 0 places) place ≡ slot_at places place
get-instances_from places place =
    let e : place ≡ 0 + place = omega arith in ap (λ q. maps.get (instances_from 0 places) q) e
    ∙ from_first 0 places place
