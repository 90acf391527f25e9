-- The laws of the decision on an access, and of the relations that it goes by.
use Rattle.std.proofs.Common.{◌≡◌, ℕ, ◌<◌, Bool, true, false, cond, not, ◌&&◌, ◌==◌, if◌then◌else◌}
use Rattle.std.proofs.Common.{◌⊎◌, List, [], ◌∷◌, find, length, Option, Some, None, unwrap_or}
use Rattle.std.proofs.Common.{Contains, refl, sym, ap, subst, ◌∙◌, inl, inr, eq-eqb, eqb-true, arith}
use Rattle.std.proofs.lemmas.Bool.{true≢false, and_parts}
use Rattle.std.proofs.lemmas.List.Elements.{filter_agree, Contains-append_right}
use Rattle.std.specs.FinSet as set
use Rattle.rbac_state.specs.Assignments.{owns}
use Rattle.rbac_state.specs.Policies.{assigned_in}
use Rattle.rbac_state.proofs.Exported.{contains_head, contains_cases, in_filter, into_filter}
use Rattle.role_sessions.specs.declared.verdict.Rule.{Rule}
use Rattle.role_sessions.specs.declared.verdict.Rule.TheVariants.{NotYours, NoActiveRole, NoneAssigned}
use Rattle.role_sessions.specs.declared.verdict.Verdict.TheVariants.{Allow, Deny}
use Rattle.role_sessions.specs.Decisions.{relations_of, counted_roles, allowed}
use Rattle.role_sessions.specs.Laws.{AllowedInARole, DeniedForWantOfARole, CountedAreAssigned}
use Rattle.role_sessions.specs.Laws.{DeassignedCountsNoMore, ReassignedCountsAgain, RelationsStay}

not_empty : (xs : List ℕ) (x : ℕ) → Contains xs x → (length xs == 0) ≡ true → ⊥
not_empty xs x h none =
    let empty : length xs ≡ 0 = eqb-true _ _ none in
    let within : h.0 < length xs = h.1 in
    omega arith

find_found : (p : ℕ → Bool) (xs : List ℕ) (x : ℕ) → find p xs ≡ Some x → (p x ≡ true) × Contains xs x
find_found p [] x h = absurd (cc)
find_found p (y ∷ xs) x h = by (p y) refl h (find_found p xs x)
  where
    by : (b : Bool) → p y ≡ b → cond b (Some y) (find p xs) ≡ Some x
        → (find p xs ≡ Some x → (p x ≡ true) × Contains xs x)
        → (p x ≡ true) × Contains (y ∷ xs) x
    by true e is further =
        let same : y ≡ x = cc in
        (subst (λ z. p z ≡ true) same e, subst (Contains (y ∷ xs)) same (contains_head y xs y refl))
    by false e is further =
        let rest = further is in
        (rest.0, Contains-append_right (y ∷ []) xs x rest.1)

find_missing : (p : ℕ → Bool) (xs : List ℕ) → find p xs ≡ None → (x : ℕ) → Contains xs x → p x ≡ true → ⊥
find_missing p [] h x there passes = let below : there.0 < 0 = there.1 in omega arith
find_missing p (y ∷ xs) h x there passes =
    by (p y) refl h (contains_cases y xs x there) (λ none rest. find_missing p xs none x rest passes)
  where
    by : (b : Bool) → p y ≡ b → cond b (Some y) (find p xs) ≡ None → (y ≡ x) ⊎ Contains xs x
        → (find p xs ≡ None → Contains xs x → ⊥) → ⊥
    by true e is either further = cc
    by false e is (inl same) further = true≢false (sym passes ∙ ap p (sym same) ∙ e)
    by false e is (inr rest) further = further is rest

-- ---- the decision

allowed_from : (yours none uncounted : Bool) (o : Option ℕ) (role : ℕ) →
    (if not yours then Deny NotYours
    else (if none then Deny NoActiveRole else (if uncounted then Deny NoneAssigned else allowed o))) ≡ Allow role →
    (yours ≡ true) × (o ≡ Some role)
allowed_from false none uncounted o role e = absurd (cc)
allowed_from true true uncounted o role e = absurd (cc)
allowed_from true false true o role e = absurd (cc)
allowed_from true false false None role e = absurd (cc)
allowed_from true false false (Some r) role e = (refl, cc)

denied_from : (yours none uncounted : Bool) (o : Option ℕ) (rule : Rule) →
    (if not yours then Deny NotYours
    else (if none then Deny NoActiveRole else (if uncounted then Deny NoneAssigned else allowed o))) ≡ Deny rule →
    yours ≡ true → (none ≡ true → ⊥) → (uncounted ≡ true → ⊥) → o ≡ None
denied_from false none uncounted o rule e yours some counted = absurd (cc)
denied_from true true uncounted o rule e yours some counted = absurd (some refl)
denied_from true false true o rule e yours some counted = absurd (counted refl)
denied_from true false false None rule e yours some counted = refl
denied_from true false false (Some r) rule e yours some counted = absurd (cc)

pub allowed_in_a_role : AllowedInARole
allowed_in_a_role relations None user operation object role e = absurd (cc)
allowed_in_a_role relations (Some session) user operation object role e =
    let h =
    allowed_from (session.user == user) (length session.active == 0) (length (counted_roles relations session) == 0)
    (find (relations.granted operation object) (counted_roles relations session)) role e in
    let yours : session.user ≡ user = eqb-true _ _ h.0 in
    let found = find_found (relations.granted operation object) (counted_roles relations session) role h.1 in
    let counted = in_filter (relations.assigned session.user) session.active role found.1 in (
      yours,
      counted.0,
      (ap (λ u. relations.assigned u role) (sym yours) ∙ counted.1, found.0),
    )

pub denied_for_want_of_a_role : DeniedForWantOfARole
denied_for_want_of_a_role relations None user operation object rule e = tt
denied_for_want_of_a_role relations (Some session) user operation object rule e = λ yours role active permits.
    let counts : Contains (counted_roles relations session) role =
    into_filter (relations.assigned session.user) session.active role active (ap (λ u. relations.assigned u role) yours
    ∙ permits.0) in
    let missing =
    denied_from (session.user == user) (length session.active == 0) (length (counted_roles relations session) == 0)
    (find (relations.granted operation object) (counted_roles relations session)) rule e (eq-eqb _ _ yours)
    (not_empty session.active role active) (not_empty (counted_roles relations session) role counts) in
    find_missing (relations.granted operation object) (counted_roles relations session) missing role counts permits.1

pub counted_are_assigned : CountedAreAssigned
counted_are_assigned relations session role h = in_filter (relations.assigned session.user) session.active role h

-- ---- the relations

pub deassigned_counts_no_more : DeassignedCountsNoMore
deassigned_counts_no_more node user role old new session applied owned yours counts =
    let same_user : (user == user) ≡ true = eq-eqb user user refl in
    let same_role : (role == role) ≡ true = eq-eqb role role refl in
    let gone : assigned_in new user role ≡ false =
    applied.assigned user role
    ∙ (λ i. if owned i then unwrap_or (if same_user i && same_role i then Some false
    else None) (assigned_in old user role) else assigned_in old user role) in
    let has : assigned_in new session.user role ≡ true =
    (in_filter ((relations_of new).assigned session.user) session.active role counts).1 in
    true≢false (sym has ∙ ap (λ u. assigned_in new u role) yours ∙ gone)

back_again : (owned named had : Bool) → (named ≡ true → had ≡ true) →
    (let between = if owned then unwrap_or (if named then Some false else None) had else had in
    (if owned then unwrap_or (if named then Some true else None) between else between) ≡ had)
back_again true true had h = sym (h refl)
back_again true false had h = refl
back_again false named had h = refl

pub reassigned_counts_again : ReassignedCountsAgain
reassigned_counts_again node user role old between new session had taken given =
    filter_agree ((relations_of new).assigned session.user) ((relations_of old).assigned session.user) same
    session.active
  where
    was_had : (u r : ℕ) → ((u == user) && (r == role)) ≡ true → assigned_in old u r ≡ true
    was_had u r named =
        let parts = and_parts (u == user) (r == role) named in
        (λ i. assigned_in old (eqb-true u user parts.0 i) (eqb-true r role parts.1 i)) ∙ had

    same : (r : ℕ) → assigned_in new session.user r ≡ assigned_in old session.user r
    same r =
        given.assigned session.user r
        ∙ (λ i. let before = taken.assigned session.user r i in
        if owns (taken.table i) node role
        then unwrap_or (if (session.user == user) && (r == role) then Some true else None) before else before)
        ∙ back_again (owns old.table node role) ((session.user == user)
        && (r == role)) (assigned_in old session.user r) (was_had session.user r)

pub relations_stay : RelationsStay
relations_stay old new same =
    λ i. record {
      assigned = λ user role. set.contains (same.assignments i) (user, role);
      granted = λ operation object role. set.contains (same.grants i) ((operation, object), role);
    }
