-- That the answer to a question is the one list that it is said to be.
use Rattle.std.proofs.Common.{◌≡◌, ℕ, ◌^◌, ◌<◌, Bool, true, false, List, [], filter}
use Rattle.std.proofs.Common.{Option, Some, None, is_some, refl, sym, ap, subst, ◌∙◌}
use Rattle.std.specs.Prelude.{IsTrue, IsSomeAnd, ◌↔◌, Contains}
use Rattle.std.specs.FinMap as finite
use Rattle.std.specs.FinMap.{is_sorted}
use Rattle.std.specs.List.{AllByRecursion}
use Rattle.std.specs.Option.{option_map_or}
use Rattle.std.specs.Ordering.{nat_cmp}
use Rattle.std.proofs.lemmas.Cmp.{nat_cmp_total}
use Rattle.std.proofs.lemmas.List.Elements.{All-contains, All-from_recursion}
use Rattle.std.proofs.lemmas.List.Folds.{Any-from_list_any, list_any-from_Any}
use Rattle.std.proofs.lemmas.List.Kept.{IsStrictlySortedBy-filter}
use Rattle.std.proofs.lemmas.Map.Lookups.{exact_unsigned}
use Rattle.std.proofs.lemmas.Map.Views.{Contains-from_any, tells_apart}
use Rattle.role_commands.specs.Tables.{Table}
use Rattle.role_commands.specs.declared.command.Command.{Command}
use Rattle.rbac_state.specs.Assignments.{owner_said, last_said}
use Rattle.rbac_state.specs.Listings.{IsListing}
use Rattle.rbac_state.specs.Says.{says_of_user}
use Rattle.rbac_state.specs.Policies.{permission_cmp}
use Rattle.rbac_state.proofs.Exported.{permissions_total, listing_of, one_list}
use Rattle.role_sessions.specs.Sessions.{Session, SessionState}
use Rattle.role_sessions.specs.Decisions.{Relations, counted_roles, SessionMay}
use Rattle.role_node.specs.Access.{relations_at, sessions_at, stream_at}
use Rattle.role_node.specs.Questions.{IsAnswerUnder, SomeRoleMay}
use Rattle.role_node.specs.Listed.{those_below, pairs_below, operations_where, permissions_where}
use Rattle.role_node.specs.Listed.{roles_of, one_may, answer_under, IsWithin, HasOneAnswer}
use Rattle.role_node.specs.declared.question.Answer.{Answer}
use Rattle.role_node.specs.declared.question.Answer.TheVariants.{Verdict, Users, Roles, Permissions, Operations}
use Rattle.role_node.specs.declared.question.Question.{Question}
use Rattle.role_node.specs.declared.question.Question.TheVariants.{Check, AssignedUsers, AssignedRoles}
use Rattle.role_node.specs.declared.question.Question.TheVariants.{RolePermissions, UserPermissions, RoleOperations}
use Rattle.role_node.specs.declared.question.Question.TheVariants.{UserOperations, SessionRoles, SessionPermissions}
use Rattle.role_node.proofs.AscendingLemmas.{picked, those_members, those_sorted, keys_ascend, told}
use Rattle.role_node.proofs.PairLemmas.{pairs_members, permissions_sorted}

-- The one list of each kind.

pub one_of_numbers : (end : ℕ) (holds : ℕ → Bool) (xs : List ℕ) →
    IsListing nat_cmp (λ x. IsTrue (holds x)) xs → AllByRecursion (λ x. x < end) xs → xs ≡ those_below end holds
one_of_numbers end holds xs listing within =
    one_list nat_cmp_total xs (those_below end holds) listing.ascending (those_sorted end holds) (λ x. (
      λ h.
          let below : x < end = All-contains (λ y. y < end) xs x (All-from_recursion (λ y. y < end) xs within) h in
          (those_members end holds x).1 (below, (listing.exact x).0 h),
      λ h. (listing.exact x).1 ((those_members end holds x).0 h).1,
    ))

pub one_of_permissions : (first second : ℕ) (holds : ℕ → ℕ → Bool) (ps : List (ℕ × ℕ)) →
    IsListing permission_cmp (λ p. IsTrue (holds p.0 p.1)) ps →
    AllByRecursion (λ p. (p.0 < first) × (p.1 < second)) ps → ps ≡ pairs_below first second holds
one_of_permissions first second holds ps listing within =
    let up = permissions_sorted first second holds in
    one_list permissions_total ps (pairs_below first second holds) listing.ascending up (λ p. (
      λ h.
          let inside = All-contains (λ q. (q.0 < first) × (q.1 < second)) ps p
          (All-from_recursion (λ q. (q.0 < first) × (q.1 < second)) ps within) h in
          (pairs_members first second holds p).1 (inside, (listing.exact p).0 h),
      λ h. (listing.exact p).1 ((pairs_members first second holds p).0 h).1,
    ))

-- of the numbers that are keys of a map
pub one_of_keys : {X : Type 0} (m : finite.FinMap nat_cmp X) (holds : ℕ → Bool) (xs : List ℕ) →
    ((x : ℕ) → IsTrue (holds x) → Contains (finite.keys m) x) →
    IsListing nat_cmp (λ x. IsTrue (holds x)) xs → xs ≡ filter holds (finite.keys m)
one_of_keys m holds xs known listing =
    let ordered = told (is_sorted nat_cmp (finite.entries m)) (finite.entries_sorted m) in
    let up = IsStrictlySortedBy-filter nat_cmp holds (finite.keys m) (keys_ascend (finite.entries m) ordered) in
    one_list nat_cmp_total xs (filter holds (finite.keys m)) listing.ascending up (λ x. (
      λ h. let passes = (listing.exact x).0 h in (picked holds (finite.keys m) x).1 (known x passes, passes),
      λ h. (listing.exact x).1 ((picked holds (finite.keys m) x).0 h).1,
    ))

-- Under relations of which only the table's roles are assigned

one_may_is : (relations : Relations) (rs : List ℕ) (operation object : ℕ) →
    IsTrue (one_may relations rs operation object)
    ↔ ((role : ℕ) × Contains rs role × IsTrue (relations.granted operation object role))
one_may_is relations rs operation object = (
  λ h. let found = Any-from_list_any (relations.granted operation object) rs h in
      (found.1, (found.0, found.2, found.3), found.4),
  λ h. list_any-from_Any (relations.granted operation object) rs (h.1.0, h.0, h.1.1, h.1.2, h.2),
)

back : {A B : Type 0} → A ↔ B → B ↔ A
back h = (h.1, h.0)

session_permissions : (relations : Relations) (found : Option Session) (ps : List (ℕ × ℕ)) →
    IsSomeAnd found (λ session. IsListing permission_cmp (λ p. SessionMay relations session p.0 p.1) ps) →
    AllByRecursion (λ p. (p.0 < 2 ^ 16) × (p.1 < 2 ^ 32)) ps →
    ps ≡ option_map_or (λ session. permissions_where (one_may relations (counted_roles relations session))) found []
session_permissions relations None ps is within = absurd is
session_permissions relations (Some session) ps is within =
    let may = one_may relations (counted_roles relations session) in
    one_of_permissions (2 ^ 16) (2 ^ 32) may ps
    (listing_of is
    (λ p. back (one_may_is relations (counted_roles relations session) p.0 p.1))) within

session_roles : (relations : Relations) (found : Option Session) (rs : List ℕ) →
    IsSomeAnd found (λ session. rs ≡ counted_roles relations session)
    → rs ≡ option_map_or (counted_roles relations) found []
session_roles relations None rs is = absurd is
session_roles relations (Some session) rs is = is

module _ (roles : Table) (relations : Relations)
    (known : (user role : ℕ) → IsTrue (relations.assigned user role) → Contains (finite.keys roles.owners) role) where
  some_may : (user operation object : ℕ) →
      SomeRoleMay relations user operation object
      ↔ IsTrue (one_may relations (roles_of roles relations user) operation object)
  some_may user operation object =
      let may = one_may_is relations (roles_of roles relations user) operation object in
      let kept = picked (relations.assigned user) (finite.keys roles.owners) in (
        λ (role, assigned, granted). may.1 (role, (kept role).1 (known user role assigned, assigned), granted),
        λ h. let found = may.0 h in (found.0, ((kept found.0).0 found.1).1, found.2),
      )

  user_permissions : (user : ℕ) (ps : List (ℕ × ℕ))
      → IsListing permission_cmp (λ p. SomeRoleMay relations user p.0 p.1) ps →
      AllByRecursion (λ p. (p.0 < 2 ^ 16) × (p.1 < 2 ^ 32)) ps →
      ps ≡ permissions_where (one_may relations (roles_of roles relations user))
  user_permissions user ps is within =
      let may = one_may relations (roles_of roles relations user) in
      one_of_permissions (2 ^ 16) (2 ^ 32) may ps
      (listing_of is
      (λ p. some_may user p.0 p.1)) within

  user_operations : (user object : ℕ) (os : List ℕ) →
      IsListing nat_cmp (λ operation. SomeRoleMay relations user operation object) os →
      AllByRecursion (λ operation. operation < 2 ^ 16) os →
      os ≡ operations_where (λ operation. one_may relations (roles_of roles relations user) operation object)
  user_operations user object os is within =
      let may : ℕ → Bool = λ operation. one_may relations (roles_of roles relations user) operation object in
      one_of_numbers (2 ^ 16) may os
      (listing_of is
      (λ operation. some_may user operation object)) within

  pub one_under : (sessions : SessionState) (question : Question) (answer : Answer) →
      IsAnswerUnder relations sessions question answer → IsWithin answer
      → answer ≡ answer_under roles relations sessions question
  one_under sessions (Check id user operation object) answer (decision, same, is) within = same ∙ ap Verdict is
  one_under sessions (AssignedUsers role) answer (users, same, is) within =
      same ∙ ap Users
      (one_of_numbers (2 ^ 32) (λ user. relations.assigned user role) users is (subst IsWithin same within))
  one_under sessions (AssignedRoles user) answer (rs, same, is) within =
      same ∙ ap Roles (one_of_keys roles.owners (relations.assigned user) rs (known user) is)
  one_under sessions (RolePermissions role) answer (ps, same, is) within =
      same ∙ ap Permissions
      (one_of_permissions (2 ^ 16) (2 ^ 32) (λ operation object. relations.granted operation object role) ps is
      (subst IsWithin same within))
  one_under sessions (UserPermissions user) answer (ps, same, is) within =
      same ∙ ap Permissions (user_permissions user ps is (subst IsWithin same within))
  one_under sessions (RoleOperations role object) answer (os, same, is) within =
      same ∙ ap Operations
      (one_of_numbers (2 ^ 16) (λ operation. relations.granted operation object role) os is
      (subst IsWithin same within))
  one_under sessions (UserOperations user object) answer (os, same, is) within =
      same ∙ ap Operations (user_operations user object os is (subst IsWithin same within))
  one_under sessions (SessionRoles id) answer (rs, same, is) within =
      same ∙ ap Roles (session_roles relations (finite.get sessions.open_sessions id) rs is)
  one_under sessions (SessionPermissions id) answer (ps, same, is) within =
      same ∙ ap Permissions
      (session_permissions relations (finite.get sessions.open_sessions id) ps is (subst IsWithin same within))

-- After a history.

known_if_said : {X : Type 0} (found : Option X) (holds : X → Bool) →
    IsTrue (option_map_or holds found false) → is_some found ≡ true
known_if_said None holds h = cc
known_if_said (Some x) holds h = refl

said_in_table : (table : Table) (streams : ℕ → List Command) (role : ℕ) (says : Command → Option Bool) →
    IsTrue (owner_said table streams role says) → Contains (finite.keys table.owners) role
said_in_table table streams role says h =
    Contains-from_any (tells_apart exact_unsigned) role (finite.keys table.owners)
    (sym (finite.contains_key-keys table.owners role)
    ∙ known_if_said (finite.get table.owners role) (λ owner. last_said says (streams owner)) h)

pub one_answer : HasOneAnswer
one_answer roles history question answer is within =
    one_under roles (relations_at roles history)
    (λ user role h. said_in_table roles (stream_at roles.sizes history) role (says_of_user user role) h)
    (sessions_at history) question answer is within
