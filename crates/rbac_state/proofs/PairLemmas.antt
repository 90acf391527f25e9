-- Pairs in a list, in any order and perhaps more than once, seen as the set of them.
use Rattle.std.proofs.Common.{◌≡◌, ℕ, Bool, true, false, not, ◌&&◌, ◌||◌, ◌==◌, List, None, Some, unwrap_or}
use Rattle.std.proofs.Common.{refl, sym, ◌∙◌}
use Rattle.std.specs.declared.cmp.Ordering.{Ordering}
use Rattle.std.specs.Prelude.{IsTrue, ◌↔◌, Contains, if◌then◌else◌}
use Rattle.std.specs.Cmp.{IsTotalOrder, both_tied, unsigned_ties}
use Rattle.std.specs.Ordering.{eq_by_cmp, nat_cmp}
use Rattle.std.specs.FinSet as set
use Rattle.std.proofs.lemmas.Cmp.{nat_cmp_total, then_total, on_total, eq_by_cmp_equiv}
use Rattle.std.proofs.lemmas.Map.Lookups.{CmpEqualImpliesEq}
use Rattle.std.proofs.lemmas.Map.Views.{Contains-from_any, list_any-from_Contains, tells_apart}
use Rattle.role_commands.specs.declared.command.Command.TheVariants.{Assign, Deassign, Grant, Revoke, Clear}
use Rattle.rbac_state.specs.Policies.{assignment_cmp, permission_cmp, grant_cmp}
use Rattle.rbac_state.specs.Says.{says_of_user, says_of_permission}
use Rattle.sorted_pairs.specs.Lists.{is_among}

pub assignments_total : IsTotalOrder assignment_cmp
assignments_total = then_total (on_total (λ a. a.0) nat_cmp_total) (on_total (λ a. a.1) nat_cmp_total)

pub permissions_total : IsTotalOrder permission_cmp
permissions_total = then_total (on_total (λ p. p.0) nat_cmp_total) (on_total (λ p. p.1) nat_cmp_total)

pub grants_total : IsTotalOrder grant_cmp
grants_total = then_total (on_total (λ g. g.0) permissions_total) (on_total (λ g. g.1) nat_cmp_total)

-- the set of a list has what is in the list
pub members : {K : Type 0} {R : K → K → Ordering} → IsTotalOrder R → CmpEqualImpliesEq R → (ks : List K) (q : K) →
    IsTrue (set.contains (set.from_list {R = R} ks) q) ↔ Contains ks q
members o exact ks q = (
  λ t. Contains-from_any (tells_apart exact) q ks (sym (set.contains-from_list o ks q) ∙ t),
  λ c. set.contains-from_list o ks q ∙ list_any-from_Contains (eq_by_cmp_equiv o) q ks c,
)

-- the tests of equal numbers and permissions
assignment_ties : (user role u r : ℕ) →
    (eq_by_cmp nat_cmp user u && eq_by_cmp nat_cmp role r) ≡ ((user == u) && (role == r))
assignment_ties user role u r = sym (λ i. unsigned_ties user u i && unsigned_ties role r i)

grant_ties : (operation object role p b r : ℕ) →
    (eq_by_cmp permission_cmp (operation, object) (p, b) && eq_by_cmp nat_cmp role r)
    ≡ ((operation == p) && (object == b) && (role == r))
grant_ties operation object role p b r =
    sym (λ i. both_tied _ _ _ _ (unsigned_ties operation p) (unsigned_ties object b) i && unsigned_ties role r i)

-- what is put is said to be so, and what is taken away not to be
said_yes : (b before : Bool) → (b || before) ≡ unwrap_or (if b then Some true else None) before
said_yes true before = refl
said_yes false before = refl

said_no : (b before : Bool) → (not b && before) ≡ unwrap_or (if b then Some false else None) before
said_no true before = refl
said_no false before = refl

module _ {K : Type 0} {R : K → K → Ordering} (o : IsTotalOrder R) where
  -- after a key is put
  contains-put : (old new : List K) (q : K) (a b : Bool) → a ≡ b → is_among R new q ≡ (a || is_among R old q) →
      set.contains (set.from_list {R = R} new) q
      ≡ unwrap_or (if b then Some true else None) (set.contains (set.from_list {R = R} old) q)
  contains-put old new q a b e put =
      set.contains-from_list o new q ∙ put ∙ (λ i. e i || sym (set.contains-from_list o old q) i)
      ∙ said_yes b (set.contains (set.from_list {R = R} old) q)

  -- after a key is taken away
  contains-take_away : (old new : List K) (q : K) (a b : Bool) → a ≡ b →
      is_among R new q ≡ (not a && is_among R old q) →
      set.contains (set.from_list {R = R} new) q
      ≡ unwrap_or (if b then Some false else None) (set.contains (set.from_list {R = R} old) q)
  contains-take_away old new q a b e taken =
      set.contains-from_list o new q ∙ taken ∙ (λ i. not (e i) && sym (set.contains-from_list o old q) i)
      ∙ said_no b (set.contains (set.from_list {R = R} old) q)

role_ties : (role r : ℕ) → eq_by_cmp nat_cmp role r ≡ (role == r)
role_ties role r = sym (unsigned_ties role r)

-- after all pairs of a role were taken away
pub assigned-clear : (old new : List (ℕ × ℕ)) (r user role : ℕ) →
    is_among assignment_cmp new (user, role)
    ≡ (not (eq_by_cmp nat_cmp role r) && is_among assignment_cmp old (user, role)) →
    set.contains (set.from_list {R = assignment_cmp} new) (user, role)
    ≡ unwrap_or (says_of_user user role (Clear r)) (set.contains (set.from_list {R = assignment_cmp} old) (user, role))
assigned-clear old new r user role taken =
    contains-take_away assignments_total old new (user, role) _ _ (role_ties role r) taken

pub granted-clear : (old new : List ((ℕ × ℕ) × ℕ)) (r operation object role : ℕ) →
    is_among grant_cmp new ((operation, object), role)
    ≡ (not (eq_by_cmp nat_cmp role r) && is_among grant_cmp old ((operation, object), role)) →
    set.contains (set.from_list {R = grant_cmp} new) ((operation, object), role)
    ≡ unwrap_or (says_of_permission operation object role (Clear r))
    (set.contains (set.from_list {R = grant_cmp} old) ((operation, object), role))
granted-clear old new r operation object role taken =
    contains-take_away grants_total old new ((operation, object), role) _ _ (role_ties role r) taken

module _ (old new : List (ℕ × ℕ)) (u r user role : ℕ) where
  abbrev IsSame : Bool
  IsSame = eq_by_cmp nat_cmp user u && eq_by_cmp nat_cmp role r

  pub assigned-put : is_among assignment_cmp new (user, role) ≡ (IsSame || is_among assignment_cmp old (user, role)) →
      set.contains (set.from_list {R = assignment_cmp} new) (user, role)
      ≡ unwrap_or (says_of_user user role (Assign u r))
      (set.contains (set.from_list {R = assignment_cmp} old) (user, role))
  assigned-put put = contains-put assignments_total old new (user, role) IsSame _ (assignment_ties user role u r) put

  pub assigned-take_away :
      is_among assignment_cmp new (user, role) ≡ (not IsSame && is_among assignment_cmp old (user, role)) →
      set.contains (set.from_list {R = assignment_cmp} new) (user, role)
      ≡ unwrap_or (says_of_user user role (Deassign u r))
      (set.contains (set.from_list {R = assignment_cmp} old) (user, role))
  assigned-take_away taken =
      contains-take_away assignments_total old new (user, role) IsSame _ (assignment_ties user role u r) taken

module _ (old new : List ((ℕ × ℕ) × ℕ)) (p b r operation object role : ℕ) where
  abbrev grant : (ℕ × ℕ) × ℕ
  grant = ((operation, object), role)

  abbrev IsSameGrant : Bool
  IsSameGrant = eq_by_cmp permission_cmp (operation, object) (p, b) && eq_by_cmp nat_cmp role r

  pub granted-put : is_among grant_cmp new grant ≡ (IsSameGrant || is_among grant_cmp old grant) →
      set.contains (set.from_list {R = grant_cmp} new) grant
      ≡ unwrap_or (says_of_permission operation object role (Grant r p b))
      (set.contains (set.from_list {R = grant_cmp} old) grant)
  granted-put put = contains-put grants_total old new grant IsSameGrant _ (grant_ties operation object role p b r) put

  pub granted-take_away : is_among grant_cmp new grant ≡ (not IsSameGrant && is_among grant_cmp old grant) →
      set.contains (set.from_list {R = grant_cmp} new) grant
      ≡ unwrap_or (says_of_permission operation object role (Revoke r p b))
      (set.contains (set.from_list {R = grant_cmp} old) grant)
  granted-take_away taken =
      contains-take_away grants_total old new grant IsSameGrant _ (grant_ties operation object role p b r) taken
