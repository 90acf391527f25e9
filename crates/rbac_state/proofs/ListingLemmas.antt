-- The members of the listings that the review functions make.
use Rattle.std.proofs.Common.{◌≡◌, ℕ, Bool, ◌==◌, ◌<◌, ◌+◌, inl, inr, true≢false, List, [], ◌∷◌, ◌++◌}
use Rattle.std.proofs.Common.{length, get_or, take, refl, sym, ap, ◌∙◌, subst, filter, map}
use Rattle.std.specs.Prelude.{IsTrue, ◌↔◌, Contains}
use Rattle.std.specs.declared.cmp.Ordering.{Ordering}
use Rattle.std.specs.List.{flat_map}
use Rattle.std.specs.Ordering.{eq_by_cmp, nat_cmp}
use Rattle.std.specs.Cmp.{nat_eq_equiv}
use Rattle.std.specs.FinSet as set
use Rattle.std.proofs.lemmas.Bool.{cases_lt}
use Rattle.std.proofs.lemmas.Cmp.{nat_cmp_total}
use Rattle.std.proofs.lemmas.List.{take_more, flat_map_more}
use Rattle.std.proofs.lemmas.List.Elements.{Contains-append_left, Contains-append_right, Contains-append_cases}
use Rattle.std.proofs.lemmas.Map.Lookups.{exact_unsigned}
use Rattle.std.proofs.lemmas.Map.Views.{exact_unsigned_eq}
use Rattle.sorted_pairs.specs.Blocks.{items_in}
use Rattle.rbac_state.specs.declared.relation.Relation.{Relation}
use Rattle.rbac_state.specs.Listings.{IsListing}
use Rattle.rbac_state.specs.Policies.{PolicyValue, assignment_cmp, permission_cmp}
use Rattle.rbac_state.specs.Policies.{grant_cmp, assigned_in, granted_in, RoleMay}
use Rattle.rbac_state.specs.inside.PermissionNumbers.{permission_number, permission_of, grant_of}
use Rattle.sorted_pairs.specs.Pairs.{number_cmp}
use Rattle.sorted_pairs.specs.Lists.{is_among}
use Rattle.rbac_state.specs.inside.Relations.{IsKeptBothWays}
use Rattle.sorted_pairs.proofs.Exported.{contains_head, contains_more, contains_cases}
use Rattle.sorted_pairs.proofs.Exported.{contains_none, picked_from, picked_into, mapped_from, mapped_into}
use Rattle.rbac_state.proofs.PairLemmas.{assignments_total, grants_total}
use Rattle.rbac_state.proofs.GrantLemmas.{grant_is, grant_not, small_object, number_again, permission_again}
use Rattle.rbac_state.proofs.GrantLemmas.{permissions_ascend}
use Rattle.sorted_pairs.proofs.Exported.{seconds_ascend, seconds_members}

-- a listing of a set is one of the same set said in other words
pub listing_of : {X : Type 0} {cmp : X → X → Ordering} {P Q : X → Type 0} {xs : List X} → IsListing cmp P xs →
    ((x : X) → P x ↔ Q x) → IsListing cmp Q xs
listing_of listing same = record {
  ascending = listing.ascending;
  exact = λ x. (λ h. (same x).0 ((listing.exact x).0 h), λ h. (listing.exact x).1 ((same x).1 h));
}

pub iff_trans : {A B C : Type 0} → A ↔ B → B ↔ C → A ↔ C
iff_trans ab bc = (λ a. bc.0 (ab.0 a), λ c. ab.1 (bc.1 c))

iff_same : (a b : Bool) → a ≡ b → IsTrue a ↔ IsTrue b
iff_same a b e = (λ h. sym e ∙ h, λ h. e ∙ h)

-- the members of lists that are joined
pub contains_flat_map : {X Y : Type 0} (f : X → List Y) (xs : List X) (y : Y) →
    Contains (flat_map f xs) y ↔ ((x : X) × Contains xs x × Contains (f x) y)
contains_flat_map f [] y = (λ h. contains_none y _ h, λ (x, within, _). contains_none x _ within)
contains_flat_map f (x ∷ xs) y = (
  λ h. elim (Contains-append_cases (f x) (flat_map f xs) y h) [
    | inl here ↦ (x, contains_head x xs x refl, here)
    | inr later ↦
        let z = (contains_flat_map f xs y).0 later in
        (z.0, contains_more x xs z.0 z.1, z.2)
  ],
  λ (z, within, gives). elim (contains_cases x xs z within) [
    | inl here ↦ Contains-append_left (f x) (flat_map f xs) y (subst (λ w. Contains (f w) y) (sym here) gives)
    | inr later ↦ Contains-append_right (f x) (flat_map f xs) y ((contains_flat_map f xs y).1 (z, later, gives))
  ],
)

-- one more list that is joined, in a loop
pub joined_more : {X Y : Type 0} (f : X → List Y) (xs : List X) (i : ℕ) (d : X) (old new : List Y) → i < length xs →
    old ≡ flat_map f (take i xs) → new ≡ old ++ f (get_or xs i d) → new ≡ flat_map f (take (i + 1) xs)
joined_more f xs i d old new within was is =
    is ∙ ap (λ l. l ++ f (get_or xs i d)) was
    ∙ flat_map_more f [] (take i xs) (get_or xs i d)
    ∙ ap (flat_map f) (sym (take_more xs i d within))

module _ {k : ℕ} (value : PolicyValue) (users : Relation k)
    (is : set.from_list {R = assignment_cmp} (items_in users.by_first.items) ≡ value.assignments)
    (kept : IsKeptBothWays users) where
  pub assigned_is : (user role : ℕ) →
      is_among number_cmp (items_in users.by_first.items) (user, role) ≡ assigned_in value user role
  assigned_is user role =
      sym (set.contains-from_list assignments_total (items_in users.by_first.items) (user, role))
      ∙ ap (λ a. set.contains a (user, role)) is

  pub roles_listing : (user : ℕ) → IsListing nat_cmp (λ role. IsTrue (assigned_in value user role))
      (map (λ p. p.1) (filter (λ p. eq_by_cmp nat_cmp user p.0) (items_in users.by_first.items)))
  roles_listing user = record {
    ascending = seconds_ascend nat_cmp nat_cmp_total user (items_in users.by_first.items) kept.by_first;
    exact = λ role.
        iff_trans
        (seconds_members nat_cmp_total nat_cmp_total exact_unsigned exact_unsigned (items_in users.by_first.items)
        user role)
        (iff_same _ _ (assigned_is user role));
  }

  pub users_listing : (role : ℕ) → IsListing nat_cmp (λ user. IsTrue (assigned_in value user role))
      (map (λ p. p.1) (filter (λ p. eq_by_cmp nat_cmp role p.0) (items_in users.by_second.items)))
  users_listing role = record {
    ascending = seconds_ascend nat_cmp nat_cmp_total role (items_in users.by_second.items) kept.by_second;
    exact = λ user.
        iff_trans
        (seconds_members nat_cmp_total nat_cmp_total exact_unsigned exact_unsigned (items_in users.by_second.items)
        role user)
        (iff_same _ _ (kept.same user role ∙ assigned_is user role));
  }

module _ {k : ℕ} (value : PolicyValue) (grants : Relation k)
    (is : set.from_list {R = grant_cmp} (map grant_of (items_in grants.by_first.items)) ≡ value.grants)
    (kept : IsKeptBothWays grants) where
  among_is : (p : ℕ × ℕ) (role : ℕ) →
      is_among grant_cmp (map grant_of (items_in grants.by_first.items)) (p, role) ≡ granted_in value p.0 p.1 role
  among_is p role =
      sym (set.contains-from_list grants_total (map grant_of (items_in grants.by_first.items)) (p, role))
      ∙ ap (λ g. set.contains g (p, role)) is

  pub may_is : (p : ℕ × ℕ) (role : ℕ) → p.1 < 4294967296 →
      is_among number_cmp (items_in grants.by_first.items) (permission_number p, role) ≡ granted_in value p.0 p.1 role
  may_is p role small = sym (grant_is (items_in grants.by_first.items) p role small) ∙ among_is p role

  granted_is : (p : ℕ × ℕ) (role : ℕ) → p.1 < 4294967296 →
      is_among number_cmp (items_in grants.by_second.items) (role, permission_number p) ≡ granted_in value p.0 p.1 role
  granted_is p role small = kept.same (permission_number p) role ∙ may_is p role small

  abbrev of_role : ℕ → List (ℕ × ℕ)
  of_role role = filter (λ g. eq_by_cmp nat_cmp role g.0) (items_in grants.by_second.items)

  of_role_among : (role n : ℕ) → Contains (map (λ g. g.1) (of_role role)) n
      ↔ IsTrue (is_among number_cmp (items_in grants.by_second.items) (role, n))
  of_role_among role n =
      seconds_members nat_cmp_total nat_cmp_total exact_unsigned exact_unsigned (items_in grants.by_second.items) role n

  role_may : (role : ℕ) (p : ℕ × ℕ) →
      Contains (map (λ g. permission_of g.1) (of_role role)) p ↔ IsTrue (granted_in value p.0 p.1 role)
  role_may role p = (
    λ h.
        let g = mapped_from (λ (g : ℕ × ℕ). permission_of g.1) (of_role role) p h in
        let n : ℕ = g.0.1 in
        let among = (of_role_among role n).0 (mapped_into (λ (g : ℕ × ℕ). g.1) (of_role role) g.0 g.1) in
        subst (λ q. IsTrue (granted_in value q.0 q.1 role)) g.2
        (sym (granted_is (permission_of n) role (small_object n)) ∙ ap (λ m. is_among number_cmp (items_in
        grants.by_second.items) (role, m)) (number_again n) ∙ among),
    λ h.
        let small : p.1 < 4294967296 = small_of p role h in
        let m = mapped_from (λ (g : ℕ × ℕ). g.1) (of_role role) (permission_number p)
        ((of_role_among role (permission_number p)).1 (granted_is p role small ∙ h)) in
        subst (Contains (map (λ g. permission_of g.1) (of_role role)))
        (ap permission_of m.2 ∙ permission_again p small)
        (mapped_into (λ (g : ℕ × ℕ). permission_of g.1) (of_role role) m.0 m.1),
  )
    where
      small_of : (p : ℕ × ℕ) (role : ℕ) → IsTrue (granted_in value p.0 p.1 role) → p.1 < 4294967296
      small_of p role h =
          elim (cases_lt p.1 4294967296) [
            | inl small ↦ small
            | inr large ↦
                absurd (true≢false (sym h ∙ sym (among_is p role)
                ∙ grant_not (items_in grants.by_first.items) p role large))
          ]

  pub permissions_listing : (role : ℕ) → IsListing permission_cmp (λ p. IsTrue (granted_in value p.0 p.1 role))
      (map (λ g. permission_of g.1) (of_role role))
  permissions_listing role = record {
    ascending =
        permissions_ascend (λ (g : ℕ × ℕ). g.1) (of_role role)
        (seconds_ascend nat_cmp nat_cmp_total role (items_in grants.by_second.items) kept.by_second);
    exact = role_may role;
  }

  -- of some role of these
  pub permissions_members : (roles : List ℕ) (p : ℕ × ℕ) →
      Contains (flat_map (λ role. map (λ g. permission_of g.1) (of_role role)) roles) p
      ↔ ((role : ℕ) × Contains roles role × RoleMay value p.0 p.1 role)
  permissions_members roles p =
      iff_trans (contains_flat_map (λ role. map (λ g. permission_of g.1) (of_role role)) roles p) (
        λ (role, within, h). (role, within, (role_may role p).0 h),
        λ (role, within, h). (role, within, (role_may role p).1 h),
      )

  operation_may : (object role operation : ℕ) →
      Contains (map (λ g. (permission_of g.1).0) (filter (λ g. (permission_of g.1).1 == object) (of_role role)))
      operation
      ↔ IsTrue (granted_in value operation object role)
  operation_may object role operation = (
    λ h.
        let g = picked_from (λ (g : ℕ × ℕ). (permission_of g.1).1 == object) (λ g. (permission_of g.1).0)
        (of_role role) operation h in
        let is : permission_of g.0.1 ≡ (operation, object) =
        λ i. (g.3 i, exact_unsigned_eq (permission_of g.0.1).1 object g.2 i) in
        (role_may role (operation, object)).0
        (subst (Contains (map (λ g. permission_of g.1) (of_role role))) is
        (mapped_into (λ (g : ℕ × ℕ). permission_of g.1) (of_role role) g.0 g.1)),
    λ h.
        let g = mapped_from (λ (g : ℕ × ℕ). permission_of g.1) (of_role role) (operation, object)
        ((role_may role (operation, object)).1 h) in
        subst (Contains (map (λ g. (permission_of g.1).0) (filter (λ g. (permission_of g.1).1 == object)
        (of_role role)))) (ap (λ p. p.0) g.2)
        (picked_into (λ (g : ℕ × ℕ). (permission_of g.1).1 == object) (λ g. (permission_of g.1).0) (of_role role) g.0
        g.1 (ap (λ p. p.1 == object) g.2 ∙ nat_eq_equiv.refl object)),
  )

  pub operations_members : (object : ℕ) (roles : List ℕ) (operation : ℕ) →
      Contains (flat_map (λ role. map (λ g. (permission_of g.1).0) (filter (λ g. (permission_of g.1).1 == object)
      (of_role role))) roles) operation
      ↔ ((role : ℕ) × Contains roles role × RoleMay value operation object role)
  operations_members object roles operation =
      iff_trans
      (contains_flat_map (λ role. map (λ g. (permission_of g.1).0) (filter (λ g. (permission_of g.1).1 == object)
      (of_role role))) roles operation) (
        λ (role, within, h). (role, within, (operation_may object role operation).0 h),
        λ (role, within, h). (role, within, (operation_may object role operation).1 h),
      )

-- of a lone role
pub lone : (role : ℕ) (P : ℕ → Type 0) → ((r : ℕ) × Contains (role ∷ []) r × P r) ↔ P role
lone role P = (
  λ (r, within, h). elim (contains_cases role [] r within) [
    | inl is ↦ subst P (sym is) h
    | inr none ↦ contains_none r _ none
  ],
  λ h. (role, contains_head role [] role refl, h),
)

-- of all roles of a user
pub of_users_roles : (value : PolicyValue) (user : ℕ) (roles : List ℕ) (P : ℕ → Type 0) →
    IsListing nat_cmp (λ role. IsTrue (assigned_in value user role)) roles →
    ((role : ℕ) × Contains roles role × P role) ↔ ((role : ℕ) × IsTrue (assigned_in value user role) × P role)
of_users_roles value user roles P listing = (
  λ (role, within, h). (role, (listing.exact role).0 within, h),
  λ (role, assigned, h). (role, (listing.exact role).1 assigned, h),
)
