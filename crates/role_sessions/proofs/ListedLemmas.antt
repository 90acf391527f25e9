-- The open sessions in the order of their ids, as the sorted list of the code's table.
use Rattle.std.proofs.Common.{◌≡◌, ℕ, ◌+◌, ◌<◌, Bool, true, false, nat_eq, List, [], ◌∷◌, map, filter, length, get_or}
use Rattle.std.proofs.Common.{refl, sym, ap, subst, ◌∙◌, inl, inr, arith}
use Rattle.std.specs.Prelude.{IsTrue, Contains, T}
use Rattle.std.specs.FinMap as finite
use Rattle.std.specs.FinMap.{is_sorted}
use Rattle.std.specs.FinMap.Entries.{below_all}
use Rattle.std.specs.Map.{lookup, keys_of}
use Rattle.std.specs.List.{IsDistinct, AllByRecursion}
use Rattle.std.specs.List.Sorted.{IsPermutation, IsSorted, IsStrictlySortedBy}
use Rattle.std.specs.Option.{option_map}
use Rattle.std.specs.Ordering.{nat_cmp, is_lt, ordering_then}
use Rattle.std.specs.declared.cmp.Ordering.{Ordering}
use Rattle.std.specs.declared.cmp.Ordering.TheVariants.{Less, Equal, Greater}
use Rattle.std.specs.Cmp.{first_so, second_so, nat_eq_equiv, unsigned_tied}
use Rattle.std.proofs.lemmas.Bool.{cases_lt}
use Rattle.std.proofs.lemmas.Bool.Decides.{nat_tests}
use Rattle.std.proofs.lemmas.List.{get_or-map, length-map}
use Rattle.std.proofs.lemmas.List.Kept.{IsStrictlySortedBy-filter}
use Rattle.std.proofs.lemmas.List.Sorted.{Contains-permutation, IsPermutation-map, IsPermutation-sym}
use Rattle.std.proofs.lemmas.Map.Keys.{IsDistinct-from_sorted, IsDistinct-IsPermutation, apart_from_distinct}
use Rattle.std.proofs.lemmas.Map.Keys.{sorted_from_all_adjacent}
use Rattle.std.proofs.lemmas.Map.Made.{lookup-map_values, IsDistinct-keys_filter}
use Rattle.std.proofs.lemmas.Map.Views.{Contains-from_lookup, lookup-from_Contains, exact_unsigned_eq}
use Rattle.std.proofs.lemmas.Simd.{map-map}
use Rattle.rbac_state.specs.Policies.{permission_cmp}
use Rattle.rbac_state.proofs.Exported.{permissions_total, one_list, in_filter, into_filter}
use Rattle.role_sessions.specs.Sessions.{Session}
use Rattle.role_sessions.specs.Listed.{ids_and_users}
use Rattle.role_sessions.specs.declared.open_session.OpenSession.{OpenSession}
use Rattle.role_sessions.specs.inside.Remembered as table
use Rattle.role_sessions.specs.inside.Remembered.{sessions_in}
use Rattle.role_sessions.proofs.OpenLemmas.{map_of, get-map_of, find-lookup}

abbrev Entries : Type 0
Entries = List (ℕ × Session)

-- each id beside its session's user
abbrev users : Entries → List (ℕ × ℕ)
users es = map (λ e. (e.0, e.1.user)) es

-- ---- the map's entries ascend

is_less : (o : Ordering) → IsTrue (is_lt o) → o ≡ Less
is_less Less _ = refl
is_less Equal h = cc
is_less Greater h = cc

told : (b : Bool) → T b → IsTrue b
told true h = refl
told false h = absurd h

-- what is read of each entry ascends with the ids
module _ {Y : Type 0} (R : Y → Y → Ordering) (read : ℕ × Session → Y)
    (with_ids : (d e : ℕ × Session) → nat_cmp d.0 e.0 ≡ Less → R (read d) (read e) ≡ Less) where
  above : (d : ℕ × Session) (es : Entries) → IsTrue (below_all nat_cmp d.0 es)
      → AllByRecursion (λ y. R (read d) y ≡ Less) (map read es)
  above d [] h = tt
  above d (e ∷ es) h = (with_ids d e (is_less _ (first_so _ _ h)), above d es (second_so _ _ h))

  ascends : (es : Entries) → IsTrue (is_sorted nat_cmp es) → IsStrictlySortedBy R (map read es)
  unfolding IsStrictlySortedBy
  ascends [] h = tt
  ascends (e ∷ es) h = (above e es (first_so _ _ h), ascends es (second_so _ _ h))

module _ (m : finite.FinMap nat_cmp Session) where
  in_order : IsTrue (is_sorted nat_cmp (finite.entries m))
  in_order = told (is_sorted nat_cmp (finite.entries m)) (finite.entries_sorted m)

  listed_ascend : IsStrictlySortedBy permission_cmp (ids_and_users m)
  listed_ascend =
      ascends permission_cmp (λ e. (e.0, e.1.user))
      (λ d e less. ap (λ o. ordering_then o (nat_cmp d.1.user e.1.user)) less) (finite.entries m) in_order

  listed_apart : IsDistinct nat_eq (keys_of (ids_and_users m))
  listed_apart =
      subst (λ eq. IsDistinct eq (keys_of (ids_and_users m))) (λ i x y. unsigned_tied x y i)
      (IsDistinct-from_sorted nat_cmp (keys_of (ids_and_users m))
      (subst (IsStrictlySortedBy nat_cmp)
      (sym (map-map (λ (p : ℕ × ℕ). p.0) (λ (e : ℕ × Session). (e.0, e.1.user)) (finite.entries m)))
      (ascends nat_cmp (λ e. e.0) (λ d e less. less) (finite.entries m) in_order)))

-- ---- the members

same_look_ups : (es : Entries) (q : ℕ) → lookup (nat_eq q) (ids_and_users (map_of es)) ≡ lookup (nat_eq q) (users es)
same_look_ups es q =
    let user : Session → ℕ = λ s. s.user in
    let m = map_of es in
    lookup-map_values user (nat_eq q) (finite.entries m)
    ∙ ap (option_map user) (sym (find-lookup q (finite.entries m)) ∙ sym (finite.get-entries m q) ∙ get-map_of es q)
    ∙ sym (lookup-map_values user (nat_eq q) es)

-- two lists at whose keys the same stands have the same members
same_members : (xs ys : List (ℕ × ℕ)) → IsDistinct nat_eq (keys_of xs)
    → ((q : ℕ) → lookup (nat_eq q) xs ≡ lookup (nat_eq q) ys) → (p : ℕ × ℕ) → Contains xs p → Contains ys p
same_members xs ys apart same p within =
    Contains-from_lookup exact_unsigned_eq p.0 p.1 ys
    (sym (same p.0) ∙ lookup-from_Contains nat_eq_equiv p.0 p.1 xs apart within)

-- ---- the order

-- what is not above another pair, and begins with another number, is below it
below : (x y : ℕ × ℕ) → is_lt (permission_cmp y x) ≡ false → nat_eq x.0 y.0 ≡ false → permission_cmp x y ≡ Less
below x y not_above other =
    elim (cases_lt x.0 y.0) [
      | inl less ↦ grind (arith, nat_tests)
      | inr more ↦ grind (arith, nat_tests)
    ]

-- a sorted list of pairs that begin with different numbers ascends
risen : (ps : List (ℕ × ℕ)) → IsDistinct nat_eq (keys_of ps) → IsSorted permission_cmp ps
    → IsStrictlySortedBy permission_cmp ps
risen ps apart sorted =
    sorted_from_all_adjacent permissions_total ps (0, 0) (λ k next.
    let first : ℕ × ℕ → ℕ = λ p. p.0 in
    let this : k < length ps = omega arith in
    let more : k + 1 < length (map first ps) = omega (arith, length-map ps first) in
    let other : nat_eq (get_or (map first ps) k 0) (get_or (map first ps) (k + 1) 0) ≡ false =
    apart_from_distinct nat_eq (map first ps) k (k + 1) 0 apart (omega arith) more in
    below (get_or ps k (0, 0)) (get_or ps (k + 1) (0, 0)) (sorted k (0, 0) (omega arith) next)
    ((λ i. nat_eq (sym (get_or-map first ps k (0, 0) 0 this) i) (sym (get_or-map first ps (k + 1) (0, 0) 0 next) i))
    ∙ other))

-- the sorted list of those that pass is what passes of the map's entries
pub sorted_is_listed : (es : Entries) (passes : ℕ × ℕ → Bool) (ps : List (ℕ × ℕ)) → IsDistinct nat_eq (keys_of es)
    → IsPermutation (filter passes (users es)) ps → IsSorted permission_cmp ps
    → ps ≡ filter passes (ids_and_users (map_of es))
sorted_is_listed es passes ps apart moved sorted =
    let first : ℕ × ℕ → ℕ = λ p. p.0 in
    let listed : List (ℕ × ℕ) = ids_and_users (map_of es) in
    let users_apart : IsDistinct nat_eq (keys_of (users es)) =
    subst (IsDistinct nat_eq) (sym (map-map first (λ (e : ℕ × Session). (e.0, e.1.user)) es)) apart in
    let kept_apart = IsDistinct-keys_filter nat_eq passes (users es) users_apart in
    let ps_apart : IsDistinct nat_eq (keys_of ps) =
    IsDistinct-IsPermutation nat_eq nat_eq_equiv.symm (keys_of (filter passes (users es))) (keys_of ps)
    (IsPermutation-map first (filter passes (users es)) ps moved) kept_apart in
    one_list permissions_total ps (filter passes listed) (risen ps ps_apart sorted)
    (IsStrictlySortedBy-filter permission_cmp passes listed (listed_ascend (map_of es))) (λ p. (
      λ h.
          let kept = in_filter passes (users es) p
          (Contains-permutation ps (filter passes (users es)) p
          (IsPermutation-sym (filter passes (users es)) ps moved) h) in
          into_filter passes listed p
          (same_members (users es) listed users_apart (λ q. sym (same_look_ups es q)) p kept.0) kept.1,
      λ h.
          let kept = in_filter passes listed p h in
          Contains-permutation (filter passes (users es)) ps p moved
          (into_filter passes (users es) p
          (same_members listed (users es) (listed_apart (map_of es)) (same_look_ups es) p kept.0) kept.1),
    ))

-- the same of the code's table, of which was gathered what passes
pub gathered_is_listed : (es : table.Entries) (passes : ℕ × ℕ → Bool) (gathered ps : List (ℕ × ℕ))
    → IsDistinct nat_eq (keys_of es) → gathered ≡ filter passes (map (λ e. (e.0, e.1.session.user)) es)
    → IsPermutation gathered ps → IsSorted permission_cmp ps
    → ps ≡ filter passes (ids_and_users (map_of (sessions_in es)))
gathered_is_listed es passes gathered ps apart is moved sorted =
    let session : ℕ × OpenSession → ℕ × Session = λ e. (e.0, e.1.session) in
    let same : gathered ≡ filter passes (users (sessions_in es)) =
    is ∙ ap (filter passes) (sym (map-map (λ (e : ℕ × Session). (e.0, e.1.user)) session es)) in
    sorted_is_listed (sessions_in es) passes ps
    (subst (IsDistinct nat_eq) (sym (map-map (λ (e : ℕ × Session). e.0) session es)) apart)
    (subst (λ before. IsPermutation before ps) same moved) sorted
