-- The answer to a question as the one list that it is: of each review, every user, role, permission or operation that
-- belongs to it, in ascending order. Users and objects have 32 bits, operations 16.
use Rattle.std.specs.Prelude.{◌≡◌, ℕ, ◌<◌, ◌^◌, Bool, List, [], filter, map, ⊤}
use Rattle.std.specs.List.{range_with_len, list_any, flat_map, AllByRecursion}
use Rattle.std.specs.Option.{option_map_or}
use Rattle.std.specs.FinMap as finite
use Rattle.role_commands.specs.Tables.{Table}
use Rattle.role_sessions.specs.Sessions.{SessionState}
use Rattle.role_sessions.specs.Decisions.{Relations, counted_roles, verdict}
use Rattle.role_node.specs.Access.{relations_at, sessions_at}
use Rattle.role_node.specs.Questions.{IsAnswerTo}
use Rattle.role_node.specs.declared.event.Event.{Event}
use Rattle.role_node.specs.declared.question.Answer.{Answer}
use Rattle.role_node.specs.declared.question.Answer.TheVariants.{Verdict, Users, Roles, Permissions, Operations}
use Rattle.role_node.specs.declared.question.Question.{Question}
use Rattle.role_node.specs.declared.question.Question.TheVariants.{Check, AssignedUsers, AssignedRoles}
use Rattle.role_node.specs.declared.question.Question.TheVariants.{RolePermissions, UserPermissions, RoleOperations}
use Rattle.role_node.specs.declared.question.Question.TheVariants.{UserOperations, SessionRoles, SessionPermissions}

-- the numbers below `end` of which this holds, in ascending order
unfoldable pub those_below : ℕ → (ℕ → Bool) → List ℕ
those_below end holds = filter holds (range_with_len 0 end)

-- the pairs of numbers below these ends of which this holds, by the first and then by the second
unfoldable pub pairs_below : ℕ → ℕ → (ℕ → ℕ → Bool) → List (ℕ × ℕ)
pairs_below first second holds =
    flat_map (λ a. map (λ b. (a, b)) (those_below second (holds a))) (range_with_len 0 first)

abbrev pub users_where : (ℕ → Bool) → List ℕ
users_where = those_below (2 ^ 32)

abbrev pub operations_where : (ℕ → Bool) → List ℕ
operations_where = those_below (2 ^ 16)

-- of an operation and an object
abbrev pub permissions_where : (ℕ → ℕ → Bool) → List (ℕ × ℕ)
permissions_where = pairs_below (2 ^ 16) (2 ^ 32)

-- the roles of the table that the user is assigned to
abbrev pub roles_of : Table → Relations → ℕ → List ℕ
roles_of roles relations user = filter (relations.assigned user) (finite.keys roles.owners)

-- one of these roles may do the operation on the object
abbrev pub one_may : Relations → List ℕ → ℕ → ℕ → Bool
one_may relations roles operation object = list_any (relations.granted operation object) roles

-- the answer under these relations and sessions; of a session that is not open nothing is listed
abbrev pub answer_under : Table → Relations → SessionState → Question → Answer
answer_under roles relations sessions (Check id user operation object) =
    Verdict (verdict relations (finite.get sessions.open_sessions id) user operation object)
answer_under roles relations sessions (AssignedUsers role) = Users (users_where (λ user. relations.assigned user role))
answer_under roles relations sessions (AssignedRoles user) = Roles (roles_of roles relations user)
answer_under roles relations sessions (RolePermissions role) =
    Permissions (permissions_where (λ operation object. relations.granted operation object role))
answer_under roles relations sessions (UserPermissions user) =
    Permissions (permissions_where (one_may relations (roles_of roles relations user)))
answer_under roles relations sessions (RoleOperations role object) =
    Operations (operations_where (λ operation. relations.granted operation object role))
answer_under roles relations sessions (UserOperations user object) =
    Operations (operations_where (λ operation. one_may relations (roles_of roles relations user) operation object))
answer_under roles relations sessions (SessionRoles id) =
    Roles (option_map_or (counted_roles relations) (finite.get sessions.open_sessions id) [])
answer_under roles relations sessions (SessionPermissions id) =
    Permissions (option_map_or (λ found. permissions_where (one_may relations (counted_roles relations found)))
    (finite.get sessions.open_sessions id) [])

-- the answer after a history
abbrev pub answer_after : Table → List Event → Question → Answer
answer_after roles history = answer_under roles (relations_at roles history) (sessions_at history)

-- the users, operations and objects of an answer are within their widths
abbrev pub IsWithin : Answer → Type 0
IsWithin (Users users) = AllByRecursion (λ user. user < 2 ^ 32) users
IsWithin (Permissions permissions) = AllByRecursion (λ p. (p.0 < 2 ^ 16) × (p.1 < 2 ^ 32)) permissions
IsWithin (Operations operations) = AllByRecursion (λ operation. operation < 2 ^ 16) operations
IsWithin answer = ⊤

-- there is one answer to a question
abbrev pub HasOneAnswer : Type 0
HasOneAnswer =
    (roles : Table) (history : List Event) (question : Question) (answer : Answer) →
    IsAnswerTo roles history question answer → IsWithin answer → answer ≡ answer_after roles history question
