-- Lists in ascending order: of numbers below an end, of two parts, of the keys of a map.
use Rattle.std.proofs.Common.{◌≡◌, ℕ, ◌+◌, ◌<◌, Bool, true, false, List, []}
use Rattle.std.proofs.Common.{◌∷◌, ◌++◌, get_or, map, filter, refl, ◌∙◌, arith}
use Rattle.std.specs.Prelude.{IsTrue, ◌↔◌, Contains, All, T}
use Rattle.std.specs.FinMap.{is_sorted}
use Rattle.std.specs.FinMap.Entries.{below_all}
use Rattle.std.specs.declared.cmp.Ordering.{Ordering}
use Rattle.std.specs.declared.cmp.Ordering.TheVariants.{Less, Equal, Greater}
use Rattle.std.specs.List.{range_with_len, AllByRecursion}
use Rattle.std.specs.List.Sorted.{IsStrictlySortedBy}
use Rattle.std.specs.Ordering.{nat_cmp, is_lt}
use Rattle.std.specs.Cmp.{first_so, second_so}
use Rattle.std.proofs.lemmas.List.Elements.{All-append, All-weaker, All-contains_itself}
use Rattle.std.proofs.lemmas.List.Elements.{Contains-append_right, recursion_from_All, All-from_recursion}
use Rattle.std.proofs.lemmas.List.FromFn.{length-range_with_len, get_or-range_with_len}
use Rattle.std.proofs.lemmas.List.Kept.{IsStrictlySortedBy-filter}
use Rattle.std.proofs.lemmas.Map.Keys.{sorted_from_strictly_increasing}
use Rattle.rbac_state.proofs.Exported.{contains_head, in_filter, into_filter}
use Rattle.role_node.specs.Listed.{those_below}

-- what holds of each member of a list
pub all_by_members : {X : Type 0} (P : X → Type 0) (xs : List X) → ((x : X) → Contains xs x → P x) → All P xs
all_by_members P xs given = All-weaker (Contains xs) P given xs (All-contains_itself xs)

pub range_sorted : (n : ℕ) → IsStrictlySortedBy nat_cmp (range_with_len 0 n)
range_sorted n = sorted_from_strictly_increasing (range_with_len 0 n) (λ k below.
    let long = length-range_with_len 0 n in
    let this : get_or (range_with_len 0 n) k 0 ≡ 0 + k = get_or-range_with_len 0 n k 0 (omega arith) in
    let next : get_or (range_with_len 0 n) (k + 1) 0 ≡ 0 + (k + 1) =
    get_or-range_with_len 0 n (k + 1) 0 (omega arith) in
    omega arith)

pub range_members : (n x : ℕ) → Contains (range_with_len 0 n) x ↔ x < n
range_members n x = (
  λ (k, below, is).
      let long = length-range_with_len 0 n in
      let at : get_or (range_with_len 0 n) k x ≡ 0 + k = get_or-range_with_len 0 n k x (omega arith) in
      omega arith,
  λ below.
      let long = length-range_with_len 0 n in
      (x, omega arith, get_or-range_with_len 0 n x x below ∙ omega arith),
)

-- a filter keeps what passes
pub picked : (p : ℕ → Bool) (xs : List ℕ) (x : ℕ) → Contains (filter p xs) x ↔ Contains xs x × IsTrue (p x)
picked p xs x = (in_filter p xs x, λ h. into_filter p xs x h.0 h.1)

pub those_members : (end : ℕ) (holds : ℕ → Bool) (x : ℕ)
    → Contains (those_below end holds) x ↔ (x < end) × IsTrue (holds x)
unfolding those_below
those_members end holds x = (
  λ h. let kept = (picked holds (range_with_len 0 end) x).0 h in ((range_members end x).0 kept.0, kept.1),
  λ h. (picked holds (range_with_len 0 end) x).1 ((range_members end x).1 h.0, h.1),
)

pub those_sorted : (end : ℕ) (holds : ℕ → Bool) → IsStrictlySortedBy nat_cmp (those_below end holds)
unfolding those_below
those_sorted end holds = IsStrictlySortedBy-filter nat_cmp holds (range_with_len 0 end) (range_sorted end)

-- what stands in order before what stands in order
pub sorted_append : {K : Type 0} (R : K → K → Ordering) (xs ys : List K) → IsStrictlySortedBy R xs
    → IsStrictlySortedBy R ys →
    ((x y : K) → Contains xs x → Contains ys y → R x y ≡ Less) → IsStrictlySortedBy R (xs ++ ys)
unfolding IsStrictlySortedBy
sorted_append R [] ys up rises before = rises
sorted_append R (x ∷ xs) ys up rises before = (
  recursion_from_All (λ z. R x z ≡ Less) (xs ++ ys) (All-append (λ z. R x z ≡ Less) xs ys
      (All-from_recursion (λ z. R x z ≡ Less) xs up.0)
      (all_by_members (λ z. R x z ≡ Less) ys (λ y. before x y (contains_head x xs x refl)))),
  sorted_append R xs ys up.1 rises (λ z y there. before z y (Contains-append_right (x ∷ []) xs z there)),
)

-- the keys of a map of numbers
pub keys_ascend : {X : Type 0} (es : List (ℕ × X)) → IsTrue (is_sorted nat_cmp es)
    → IsStrictlySortedBy nat_cmp (map (λ e. e.0) es)
unfolding IsStrictlySortedBy
keys_ascend [] h = tt
keys_ascend {X} (e ∷ es) h = (below es (first_so _ _ h), keys_ascend es (second_so _ _ h))
  where
    is_less : (o : Ordering) → IsTrue (is_lt o) → o ≡ Less
    is_less Less _ = refl
    is_less Equal h = cc
    is_less Greater h = cc

    below : (fs : List (ℕ × X)) → IsTrue (below_all nat_cmp e.0 fs) →
        AllByRecursion (λ k. nat_cmp e.0 k ≡ Less) (map (λ f. f.0) fs)
    below [] h = tt
    below (f ∷ fs) h = (is_less _ (first_so _ _ h), below fs (second_so _ _ h))

pub told : (b : Bool) → T b → IsTrue b
told true h = refl
told false h = absurd h
