-- Permissions as numbers: grants in a list of numbers with roles.
use Rattle.std.proofs.Common.{◌≡◌, ℕ, ◌+◌, ◌*◌, ◌/◌, ◌%◌, ◌<◌, ◌≤◌, ◌&&◌, ◌||◌, not, inl, inr, Bool, false}
use Rattle.std.proofs.Common.{List, [], ◌∷◌}
use Rattle.std.proofs.Common.{map, refl, sym, ap, ◌∙◌, arith}
use Rattle.std.specs.declared.cmp.Ordering.TheVariants.{Less, Greater}
use Rattle.std.specs.List.{AllByRecursion, list_any}
use Rattle.std.specs.List.Sorted.{IsStrictlySortedBy}
use Rattle.std.specs.Ordering.{eq_by_cmp, is_eq, nat_cmp, ordering_then}
use Rattle.std.proofs.lemmas.Bool.{cases_lt}
use Rattle.rbac_state.specs.Policies.{permission_cmp, grant_cmp}
use Rattle.rbac_state.specs.inside.PermissionNumbers.{permission_number, permission_of, grant_of}
use Rattle.sorted_pairs.specs.Pairs.{number_cmp, back}
use Rattle.sorted_pairs.specs.Lists.{is_among}
use Rattle.rbac_state.proofs.FirstLemmas.{and_false}
use Rattle.sorted_pairs.proofs.Exported.{cmp_is, digits, parts_cmp}
use Rattle.sorted_pairs.proofs.Exported.{pair_tied}

pub small_object : (n : ℕ) → (permission_of n).1 < 4294967296
small_object n = omega arith

-- a permission and its number come back from one another
pub number_again : (n : ℕ) → permission_number (permission_of n) ≡ n
number_again n = back n 4294967296

again_first : (a b : ℕ) → b < 4294967296 → (a * 4294967296 + b) / 4294967296 ≡ a
again_first a b small = omega arith

again_second : (a b : ℕ) → b < 4294967296 → (a * 4294967296 + b) % 4294967296 ≡ b
again_second a b small = omega arith

pub permission_again : (p : ℕ × ℕ) → p.1 < 4294967296 → permission_of (permission_number p) ≡ p
permission_again p small = λ i. (again_first p.0 p.1 small i, again_second p.0 p.1 small i)

any_map : {X Y : Type 0} (q : Y → Bool) (f : X → Y) (xs : List X) → list_any q (map f xs) ≡ list_any (λ x. q (f x)) xs
any_map q f [] = refl
any_map q f (x ∷ xs) = ap (λ b. q (f x) || b) (any_map q f xs)

any_none : {X : Type 0} (q : X → Bool) (xs : List X) → ((x : X) → q x ≡ false) → list_any q xs ≡ false
any_none q [] never = refl
any_none q (x ∷ xs) never = rw (never x) (any_none q xs never)

-- a grant of the list, by its permission's number
grant_here : (p g : ℕ × ℕ) (role : ℕ) → p.1 < 4294967296 →
    eq_by_cmp grant_cmp (p, role) (grant_of g) ≡ eq_by_cmp number_cmp (permission_number p, role) g
grant_here p g role small =
    ap (λ u. is_eq (ordering_then u (nat_cmp role g.1)))
    ((λ i. permission_cmp (sym (permission_again p small) i) (permission_of g.0))
    ∙ sym (parts_cmp (permission_number p) g.0 4294967296 (omega arith)))

pub grant_is : (gs : List (ℕ × ℕ)) (p : ℕ × ℕ) (role : ℕ) → p.1 < 4294967296 →
    is_among grant_cmp (map grant_of gs) (p, role) ≡ is_among number_cmp gs (permission_number p, role)
grant_is gs p role small =
    any_map (eq_by_cmp grant_cmp (p, role)) grant_of gs
    ∙ (λ i. list_any (λ g. grant_here p g role small i) gs)

-- an object is below 2 ^ 32
apart : (p q : ℕ × ℕ) → q.1 < 4294967296 → 4294967296 ≤ p.1 → eq_by_cmp permission_cmp p q ≡ false
apart p q small large =
    let above : q.1 < p.1 = omega arith in
    pair_tied (nat_cmp p.0 q.0) (nat_cmp p.1 q.1)
    ∙ ap (λ b. is_eq (nat_cmp p.0 q.0) && b) (ap is_eq (cmp_is p.1 q.1 Greater above))
    ∙ and_false (is_eq (nat_cmp p.0 q.0))

not_here : (p g : ℕ × ℕ) (role : ℕ) → 4294967296 ≤ p.1 → eq_by_cmp grant_cmp (p, role) (grant_of g) ≡ false
not_here p g role large =
    pair_tied (permission_cmp p (permission_of g.0)) (nat_cmp role g.1)
    ∙ ap (λ b. b && is_eq (nat_cmp role g.1)) (apart p (permission_of g.0) (small_object g.0) large)

pub grant_not : (gs : List (ℕ × ℕ)) (p : ℕ × ℕ) (role : ℕ) → 4294967296 ≤ p.1 →
    is_among grant_cmp (map grant_of gs) (p, role) ≡ false
grant_not gs p role large =
    any_map (eq_by_cmp grant_cmp (p, role)) grant_of gs
    ∙ any_none (λ g. eq_by_cmp grant_cmp (p, role) (grant_of g)) gs (λ g. not_here p g role large)

-- permissions ascend as their numbers do
permissions_above : {X : Type 0} (f : X → ℕ) (n : ℕ) (xs : List X) →
    AllByRecursion (λ m. nat_cmp n m ≡ Less) (map f xs) →
    AllByRecursion (λ p. permission_cmp (permission_of n) p ≡ Less) (map (λ x. permission_of (f x)) xs)
permissions_above f n [] above = tt
permissions_above f n (x ∷ xs) above = (
  sym (parts_cmp n (f x) 4294967296 (omega arith)) ∙ above.0,
  permissions_above f n xs above.1,
)

pub permissions_ascend : {X : Type 0} (f : X → ℕ) (xs : List X) → IsStrictlySortedBy nat_cmp (map f xs) →
    IsStrictlySortedBy permission_cmp (map (λ x. permission_of (f x)) xs)
unfolding IsStrictlySortedBy
permissions_ascend f [] up = tt
permissions_ascend f (x ∷ xs) up = (permissions_above f (f x) xs up.0, permissions_ascend f xs up.1)

-- what a change of the numbers is of the permissions
module _ (old new : List (ℕ × ℕ)) (r : ℕ) where
  module _ (x : ℕ × ℕ) (small : x.1 < 4294967296) where
    same_grant : (q : ℕ × ℕ) (role : ℕ) → q.1 < 4294967296 →
        (eq_by_cmp nat_cmp (permission_number q) (permission_number x) && eq_by_cmp nat_cmp role r)
        ≡ (eq_by_cmp permission_cmp q x && eq_by_cmp nat_cmp role r)
    same_grant q role fits =
        ap (λ u. is_eq u && eq_by_cmp nat_cmp role r) (digits 4294967296 q.0 q.1 x.0 x.1 fits small)

    pub put_as_grant :
        ((a c : ℕ) → is_among number_cmp new (a, c)
        ≡ ((eq_by_cmp nat_cmp a (permission_number x) && eq_by_cmp nat_cmp c r) || is_among number_cmp old (a, c))) →
        (q : ℕ × ℕ) (role : ℕ) → is_among grant_cmp (map grant_of new) (q, role)
        ≡ ((eq_by_cmp permission_cmp q x && eq_by_cmp nat_cmp role r)
        || is_among grant_cmp (map grant_of old) (q, role))
    put_as_grant put q role =
        elim (cases_lt q.1 4294967296) [
          | inl fits ↦
              grant_is new q role fits ∙ put (permission_number q) role
              ∙ (λ i. same_grant q role fits i || sym (grant_is old q role fits) i)
          | inr large ↦
              grant_not new q role large
              ∙ sym (λ i. (apart q x small large i && eq_by_cmp nat_cmp role r) || grant_not old q role large i)
        ]

    pub taken_as_grant :
        ((a c : ℕ) → is_among number_cmp new (a, c)
        ≡ (not (eq_by_cmp nat_cmp a (permission_number x) && eq_by_cmp nat_cmp c r)
        && is_among number_cmp old (a, c))) →
        (q : ℕ × ℕ) (role : ℕ) → is_among grant_cmp (map grant_of new) (q, role)
        ≡ (not (eq_by_cmp permission_cmp q x && eq_by_cmp nat_cmp role r)
        && is_among grant_cmp (map grant_of old) (q, role))
    taken_as_grant taken q role =
        elim (cases_lt q.1 4294967296) [
          | inl fits ↦
              grant_is new q role fits ∙ taken (permission_number q) role
              ∙ (λ i. not (same_grant q role fits i) && sym (grant_is old q role fits) i)
          | inr large ↦
              grant_not new q role large
              ∙ sym (λ i. not (apart q x small large i && eq_by_cmp nat_cmp role r) && grant_not old q role large i)
        ]

  pub cleared_as_grant :
      ((a c : ℕ) → is_among number_cmp new (a, c)
      ≡ (not (eq_by_cmp nat_cmp c r) && is_among number_cmp old (a, c))) →
      (q : ℕ × ℕ) (role : ℕ) → is_among grant_cmp (map grant_of new) (q, role)
      ≡ (not (eq_by_cmp nat_cmp role r) && is_among grant_cmp (map grant_of old) (q, role))
  cleared_as_grant cleared q role =
      elim (cases_lt q.1 4294967296) [
        | inl fits ↦
            grant_is new q role fits ∙ cleared (permission_number q) role
            ∙ ap (λ b. not (eq_by_cmp nat_cmp role r) && b) (sym (grant_is old q role fits))
        | inr large ↦
            grant_not new q role large
            ∙ sym (ap (λ b. not (eq_by_cmp nat_cmp role r) && b) (grant_not old q role large)
            ∙ and_false (not (eq_by_cmp nat_cmp role r)))
      ]
