-- Ascending lists of pairs of numbers.
use Rattle.std.proofs.Common.{◌≡◌, ℕ, ◌<◌, Bool, inl, inr, List, [], ◌∷◌, map, refl, sym, ap, ◌∙◌, subst, arith}
use Rattle.std.specs.Prelude.{IsTrue, ◌↔◌, Contains, All}
use Rattle.std.specs.declared.cmp.Ordering.TheVariants.{Less}
use Rattle.std.specs.List.{range_with_len, flat_map}
use Rattle.std.specs.List.Sorted.{IsStrictlySortedBy}
use Rattle.std.specs.Ordering.{nat_cmp, ordering_then}
use Rattle.std.proofs.lemmas.Cmp.{nat_cmp_total, tied_itself}
use Rattle.std.proofs.lemmas.List.{length-map, get_or-map}
use Rattle.std.proofs.lemmas.List.Elements.{All-nil, All-map, All-append, All-weaker, All-contains}
use Rattle.std.proofs.lemmas.List.Elements.{Contains-append_left, Contains-append_right}
use Rattle.std.proofs.lemmas.List.Elements.{recursion_from_All, All-from_recursion}
use Rattle.rbac_state.specs.Policies.{permission_cmp}
use Rattle.rbac_state.proofs.Exported.{contains_head, contains_cases, contains_none}
use Rattle.role_node.specs.Listed.{those_below, pairs_below}
use Rattle.role_node.proofs.AscendingLemmas.{all_by_members, range_sorted, range_members}
use Rattle.role_node.proofs.AscendingLemmas.{those_members, those_sorted, sorted_append}

-- pairs of one number with each of these
abbrev pairs_with : ℕ → List ℕ → List (ℕ × ℕ)
pairs_with a bs = map (λ b. (a, b)) bs

-- pairs of each of these numbers with each of its own
abbrev pairs_of : (ℕ → List ℕ) → List ℕ → List (ℕ × ℕ)
pairs_of f firsts = flat_map (λ a. pairs_with a (f a)) firsts

with_members : (a : ℕ) (bs : List ℕ) (b : ℕ) → Contains bs b → Contains (pairs_with a bs) (a, b)
with_members a bs b (k, below, is) = (
  k,
  omega (arith, length-map {B = ℕ × ℕ} bs (λ b. (a, b))),
  get_or-map (λ b. (a, b)) bs k b (a, b) below ∙ ap (λ b. (a, b)) is,
)

with_sorted : (a : ℕ) (bs : List ℕ) → IsStrictlySortedBy nat_cmp bs
    → IsStrictlySortedBy permission_cmp (pairs_with a bs)
unfolding IsStrictlySortedBy
with_sorted a [] up = tt
with_sorted a (b ∷ bs) up =
    let second = λ (c : ℕ) (less : nat_cmp b c ≡ Less).
    ap (λ o. ordering_then o (nat_cmp b c)) (tied_itself nat_cmp_total a) ∙ less in (
      recursion_from_All (λ q. permission_cmp (a, b) q ≡ Less) (pairs_with a bs)
          (All-map (λ q. permission_cmp (a, b) q ≡ Less) (λ c. (a, c)) bs
          (All-weaker (λ c. nat_cmp b c ≡ Less) (λ c. permission_cmp (a, b) (a, c) ≡ Less) second bs
          (All-from_recursion (λ c. nat_cmp b c ≡ Less) bs up.0))),
      with_sorted a bs up.1,
    )

-- what holds of each of the pairs
all_pairs : (P : ℕ × ℕ → Type 0) (f : ℕ → List ℕ) (firsts : List ℕ) →
    ((a b : ℕ) → Contains firsts a → Contains (f a) b → P (a, b)) → All P (pairs_of f firsts)
all_pairs P f [] given = All-nil P
all_pairs P f (a ∷ firsts) given =
    All-append P (pairs_with a (f a)) (pairs_of f firsts)
    (All-map P (λ b.
    (a, b)) (f a) (all_by_members (λ b. P (a, b)) (f a) (λ b. given a b (contains_head a firsts a refl))))
    (all_pairs P f firsts (λ c b there. given c b (Contains-append_right (a ∷ []) firsts c there)))

pairs_from : (f : ℕ → List ℕ) (firsts : List ℕ) (p : ℕ × ℕ) →
    Contains (pairs_of f firsts) p → Contains firsts p.0 × Contains (f p.0) p.1
pairs_from f firsts p h =
    All-contains (λ q. Contains firsts q.0 × Contains (f q.0) q.1) (pairs_of f firsts) p
    (all_pairs (λ q. Contains firsts q.0 × Contains (f q.0) q.1) f firsts (λ a b here there. (here, there))) h

pairs_into : (f : ℕ → List ℕ) (firsts : List ℕ) (a b : ℕ) →
    Contains firsts a → Contains (f a) b → Contains (pairs_of f firsts) (a, b)
pairs_into f [] a b here there = contains_none a _ here
pairs_into f (c ∷ firsts) a b here there =
    elim (contains_cases c firsts a here) [
      | inl same ↦
          Contains-append_left (pairs_with c (f c)) (pairs_of f firsts) (a, b)
          (subst (λ d. Contains (pairs_with d (f d)) (a, b)) (sym same) (with_members a (f a) b there))
      | inr later ↦
          Contains-append_right (pairs_with c (f c)) (pairs_of f firsts) (a, b) (pairs_into f firsts a b later there)
    ]

pairs_sorted : (f : ℕ → List ℕ) (firsts : List ℕ) →
    IsStrictlySortedBy nat_cmp firsts → ((a : ℕ) → IsStrictlySortedBy nat_cmp (f a)) →
    IsStrictlySortedBy permission_cmp (pairs_of f firsts)
unfolding IsStrictlySortedBy
pairs_sorted f [] up each = tt
pairs_sorted f (a ∷ firsts) up each =
    sorted_append permission_cmp (pairs_with a (f a)) (pairs_of f firsts)
    (with_sorted a (f a) (each a)) (pairs_sorted f firsts up.1 each)
    (λ p q here there.
    let first : p.0 ≡ a = All-contains (λ r. r.0 ≡ a) (pairs_with a (f a)) p
    (All-map (λ r. r.0 ≡ a) (λ b. (a, b)) (f a) (all_by_members (λ b. a ≡ a) (f a) (λ b _. refl))) here in
    let less : nat_cmp a q.0 ≡ Less =
    All-contains (λ c. nat_cmp a c ≡ Less) firsts q.0
    (All-from_recursion (λ c. nat_cmp a c ≡ Less) firsts up.0) (pairs_from f firsts q there).0 in
    ap (λ o. ordering_then o (nat_cmp p.1 q.1)) (ap (λ c. nat_cmp c q.0) first ∙ less))

pub pairs_members : (first second : ℕ) (holds : ℕ → ℕ → Bool) (p : ℕ × ℕ) →
    Contains (pairs_below first second holds) p ↔ ((p.0 < first) × (p.1 < second)) × IsTrue (holds p.0 p.1)
unfolding pairs_below
pairs_members first second holds p =
    let f : ℕ → List ℕ = λ a. those_below second (holds a) in (
      λ h.
          let parts = pairs_from f (range_with_len 0 first) p h in
          let own = (those_members second (holds p.0) p.1).0 parts.1 in
          (((range_members first p.0).0 parts.0, own.0), own.1),
      λ h.
          pairs_into f (range_with_len 0 first) p.0 p.1
          ((range_members first p.0).1 h.0.0) ((those_members second (holds p.0) p.1).1 (h.0.1, h.1)),
    )

pub permissions_sorted : (first second : ℕ) (holds : ℕ → ℕ → Bool) →
    IsStrictlySortedBy permission_cmp (pairs_below first second holds)
unfolding pairs_below
permissions_sorted first second holds =
    pairs_sorted (λ a. those_below second (holds a)) (range_with_len 0 first) (range_sorted first)
    (λ a. those_sorted second (holds a))
