-- The roles of a session that count.
use Rattle.std.proofs.Common.{◌≡◌, ℕ, Bool, true, false, cond, ◌==◌, ◌&&◌, ◌||◌, not, if◌then◌else◌, List}
use Rattle.std.proofs.Common.{[], ◌∷◌, filter, find, length, Option, Some, refl, sym, ap, ◌∙◌, eq-eqb, arith}
use Rattle.std.proofs.lemmas.Bool.Decides.{nat_tests}
use Rattle.std.specs.List.{list_any}
use Rattle.role_sessions.specs.declared.verdict.Rule.TheVariants.{NotYours, NoActiveRole, NoneAssigned}
use Rattle.role_sessions.specs.declared.verdict.Verdict.{Verdict}
use Rattle.role_sessions.specs.declared.verdict.Verdict.TheVariants.{Deny}
use Rattle.role_sessions.specs.Sessions.{Session}
use Rattle.role_sessions.specs.Decisions.{Relations, counted_roles, allowed, verdict}

-- to find among those that pass is to find what passes both
pub find-filter : (p q : ℕ → Bool) (xs : List ℕ) → find p (filter q xs) ≡ find (λ x. q x && p x) xs
find-filter p q [] = refl
find-filter p q (x ∷ xs) = by (q x) (find-filter p q xs)
  where
    by : (b : Bool) → find p (filter q xs) ≡ find (λ x. q x && p x) xs →
        find p (if b then x ∷ filter q xs else filter q xs) ≡ (if b && p x then Some x else find (λ x. q x && p x) xs)
    by true e = ap (λ o. if p x then Some x else o) e
    by false e = e

-- none passes exactly where the filter keeps none
pub none-filter : (q : ℕ → Bool) (xs : List ℕ) → (length (filter q xs) == 0) ≡ not (list_any q xs)
none-filter q [] = refl
none-filter q (x ∷ xs) = by (q x) (none-filter q xs)
  where
    by : (b : Bool) → (length (filter q xs) == 0) ≡ not (list_any q xs) →
        (length (if b then x ∷ filter q xs else filter q xs) == 0) ≡ not (b || list_any q xs)
    by true e = grind (arith, nat_tests)
    by false e = e

-- what passes both passes the first
pub found_passes : (p q : ℕ → Bool) (xs : List ℕ) (x : ℕ) → find (λ x. p x && q x) xs ≡ Some x → list_any p xs ≡ true
found_passes p q [] x h = absurd (cc)
found_passes p q (y ∷ xs) x h = by (p y) h (found_passes p q xs x)
  where
    by : (b : Bool) → cond (b && q y) (Some y) (find (λ x. p x && q x) xs) ≡ Some x
        → (find (λ x. p x && q x) xs ≡ Some x → list_any p xs ≡ true) → (b || list_any p xs) ≡ true
    by true e rest = refl
    by false e rest = rest e

-- the verdict in an open session, from what its code knows of it
module _ (relations : Relations) (inside session : Session) (view : inside ≡ session) (user operation object : ℕ)
    (theirs : inside.user ≡ user) (some : (length inside.active == 0) ≡ false) where
  passed : (counts : Bool) (rest : Verdict) → list_any (relations.assigned session.user) session.active ≡ counts →
      (if counts then rest else Deny NoneAssigned)
      ≡ (if not (session.user == user) then Deny NotYours
      else (if length session.active == 0 then Deny NoActiveRole
      else (if length (counted_roles relations session) == 0 then Deny NoneAssigned
      else rest)))
  passed counts rest are =
      let yours : (session.user == user) ≡ true = eq-eqb _ _ (ap (λ s. s.user) (sym view) ∙ theirs) in
      let active : (length session.active == 0) ≡ false = ap (λ s. length s.active == 0) (sym view) ∙ some in
      let none : (length (counted_roles relations session) == 0) ≡ not counts =
      none-filter (relations.assigned session.user) session.active ∙ ap not are in
      rw (yours, active, none) (elim counts as (λ b. (if b then rest else Deny NoneAssigned)
      ≡ (if not b then Deny NoneAssigned else rest)) [ true ↦ refl | false ↦ refl ])

  pub none_counts : list_any (relations.assigned session.user) session.active ≡ false
      → Deny NoneAssigned ≡ verdict relations (Some session) user operation object
  none_counts are =
      passed false (allowed (find (relations.granted operation object) (counted_roles relations session))) are

  pub some_counts : list_any (relations.assigned session.user) session.active ≡ true →
      (found : Option ℕ) → found ≡ find (λ role. relations.assigned session.user role
      && relations.granted operation object role) session.active →
      allowed found ≡ verdict relations (Some session) user operation object
  some_counts are found is =
      ap allowed (is
      ∙ sym (find-filter (relations.granted operation object) (relations.assigned session.user) session.active))
      ∙ passed true (allowed (find (relations.granted operation object) (counted_roles relations session))) are
