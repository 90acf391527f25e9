-- What a client line asks. `request_of` is the table of operations: a row reads the members of its operation in their
-- order, and the first that is absent or out of its range is the fault.
use Rattle.std.specs.Prelude.{ℕ, ◌-◌, ◌^◌, ◌<◌, ⊤, nat_lt, if◌then◌else◌, List, length}
use Rattle.std.specs.Prelude.{Option, Some, None, option_and_then, is_some, Result, Ok, Err}
use Rattle.serde_json.specs.Data.{Data}
use Rattle.serde_json.specs.Find.{as_object, as_str}
use Rattle.quorum_sizes.specs.Sizes.{Counts}
use Rattle.role_commands.specs.declared.command.Command.TheVariants as command
use Rattle.role_sessions.specs.declared.event.ClientEvent.TheVariants as act
use Rattle.role_node.specs.declared.question.Question.TheVariants as question
use Rattle.link_frames.specs.frames.Packets.{place_count}
use Rattle.client_lines.specs.Results.{◌>>=◌}
use Rattle.client_lines.specs.Members.{member_of, member_number}
use Rattle.client_lines.specs.Json.{json_of}
use Rattle.client_lines.specs.Operations.{operation_named}
use Rattle.client_lines.specs.declared.member.Member.{Member}
use Rattle.client_lines.specs.declared.member.Member.TheVariants.{Op, User, Role, Operation}
use Rattle.client_lines.specs.declared.member.Member.TheVariants.{Object, Session, Owner, Place}
use Rattle.client_lines.specs.declared.member.MemberFault.{MemberFault}
use Rattle.client_lines.specs.declared.member.MemberFault.TheVariants as member
use Rattle.client_lines.specs.declared.operation.Operation as operations
use Rattle.client_lines.specs.declared.operation.Operation.TheVariants as operation
use Rattle.client_lines.specs.declared.fault.LineFault.{LineFault}
use Rattle.client_lines.specs.declared.fault.LineFault.TheVariants.{NotJson, NotObject, NoOp}
use Rattle.client_lines.specs.declared.fault.LineFault.TheVariants.{UnknownOp, Missing, OutOfRange}
use Rattle.client_lines.specs.declared.request.Request.{Request}
use Rattle.client_lines.specs.declared.request.Request.TheVariants.{Issue, Client, Ask, Reach, Again, Stop}

-- the most bytes of a line, its end not counted
abbrev pub most_line_bytes : ℕ
most_line_bytes = 4096

-- a line's fault names the member
abbrev pub or_line_fault : Member → Result ℕ MemberFault → Result ℕ LineFault
or_line_fault m (Ok n) = Ok n
or_line_fault m (Err member.Missing) = Err (Missing m)
or_line_fault m (Err member.OutOfRange) = Err (OutOfRange m)

unfoldable pub number_of : Member → ℕ → Data → Result ℕ LineFault
number_of m most line = or_line_fault m (member_number m most line)

-- users and objects have 32 bits
abbrev pub user_of : Data → Result ℕ LineFault
user_of = number_of User (2 ^ 32 - 1)

abbrev pub object_of : Data → Result ℕ LineFault
object_of = number_of Object (2 ^ 32 - 1)

-- roles and operations have 16
abbrev pub role_of : Data → Result ℕ LineFault
role_of = number_of Role (2 ^ 16 - 1)

abbrev pub operation_of : Data → Result ℕ LineFault
operation_of = number_of Operation (2 ^ 16 - 1)

-- places are those of a stream
abbrev pub place_of : Data → Result ℕ LineFault
place_of = number_of Place (place_count - 1)

-- sessions have 64
abbrev pub session_of : Data → Result ℕ LineFault
session_of = number_of Session (2 ^ 64 - 1)

-- an owner is one of the nodes
abbrev pub node_named : Counts → ℕ → Result ℕ LineFault
node_named s n = if nat_lt n s.nodes then Ok n else Err (OutOfRange Owner)

unfoldable pub owner_of : Counts → Data → Result ℕ LineFault
owner_of s line = do
  n ← number_of Owner (2 ^ 8 - 1) line
  node_named s n

unfoldable pub user_and_role : Data → Result (ℕ × ℕ) LineFault
user_and_role line = do
  user ← user_of line
  role ← role_of line
  Ok (user, role)

unfoldable pub role_operation_and_object : Data → Result (ℕ × ℕ × ℕ) LineFault
role_operation_and_object line = do
  role ← role_of line
  operation ← operation_of line
  object ← object_of line
  Ok (role, operation, object)

unfoldable pub session_user_and_role : Data → Result (ℕ × ℕ × ℕ) LineFault
session_user_and_role line = do
  session ← session_of line
  user ← user_of line
  role ← role_of line
  Ok (session, user, role)

-- what a line asks that names the operation
unfoldable pub request_of : Counts → operations.Operation → Data → Result Request LineFault
request_of s operation.Assign line = do
  m ← user_and_role line
  Ok (Issue (command.Assign m.0 m.1))
request_of s operation.Deassign line = do
  m ← user_and_role line
  Ok (Issue (command.Deassign m.0 m.1))
request_of s operation.Grant line = do
  m ← role_operation_and_object line
  Ok (Issue (command.Grant m.0 m.1 m.2))
request_of s operation.Revoke line = do
  m ← role_operation_and_object line
  Ok (Issue (command.Revoke m.0 m.1 m.2))
request_of s operation.Clear line = do
  role ← role_of line
  Ok (Issue (command.Clear role))
request_of s operation.Open line = do
  user ← user_of line
  Ok (Client (act.Open user))
request_of s operation.Activate line = do
  m ← session_user_and_role line
  Ok (Client (act.Activate m.0 m.1 m.2))
request_of s operation.Drop line = do
  m ← session_user_and_role line
  Ok (Client (act.DropRole m.0 m.1 m.2))
request_of s operation.Close line = do
  session ← session_of line
  user ← user_of line
  Ok (Client (act.Close session user))
request_of s operation.Check line = do
  session ← session_of line
  user ← user_of line
  operation ← operation_of line
  object ← object_of line
  Ok (Ask (question.Check session user operation object))
request_of s operation.AssignedUsers line = do
  role ← role_of line
  Ok (Ask (question.AssignedUsers role))
request_of s operation.AssignedRoles line = do
  user ← user_of line
  Ok (Ask (question.AssignedRoles user))
request_of s operation.RolePermissions line = do
  role ← role_of line
  Ok (Ask (question.RolePermissions role))
request_of s operation.UserPermissions line = do
  user ← user_of line
  Ok (Ask (question.UserPermissions user))
request_of s operation.RoleOperations line = do
  role ← role_of line
  object ← object_of line
  Ok (Ask (question.RoleOperations role object))
request_of s operation.UserOperations line = do
  user ← user_of line
  object ← object_of line
  Ok (Ask (question.UserOperations user object))
request_of s operation.SessionRoles line = do
  session ← session_of line
  Ok (Ask (question.SessionRoles session))
request_of s operation.SessionPermissions line = do
  session ← session_of line
  Ok (Ask (question.SessionPermissions session))
request_of s operation.Reach line = do
  owner ← owner_of s line
  Ok (Reach owner)
request_of s operation.Again line = do
  owner ← owner_of s line
  place ← place_of line
  Ok (Again owner place)
request_of s operation.Stop line = Ok Stop

abbrev pub request_if_known : Counts → Option operations.Operation → Data → Result Request LineFault
request_if_known s None line = Err UnknownOp
request_if_known s (Some operation) line = request_of s operation line

abbrev pub request_if_named : Counts → Option (List ℕ) → Data → Result Request LineFault
request_if_named s None line = Err NoOp
request_if_named s (Some name) line = request_if_known s (operation_named name) line

-- what a line asks that is this value
unfoldable pub request_of_value : Counts → Data → Result Request LineFault
request_of_value s line =
    if is_some (as_object line) then request_if_named s (option_and_then as_str (member_of Op line)) line
    else Err NotObject

abbrev pub request_if_json : Counts → Option Data → Result Request LineFault
request_if_json s None = Err NotJson
request_if_json s (Some line) = request_of_value s line

-- what a line of these bytes asks of a node of these sizes, or the first fault that holds
unfoldable pub request_due : Counts → List ℕ → Result Request LineFault
request_due s bytes = if nat_lt most_line_bytes (length bytes) then Err NotJson else request_if_json s (json_of bytes)

-- an owner that it names is a node
abbrev pub NamesNodes : Counts → Request → Type 0
NamesNodes s (Issue command) = ⊤
NamesNodes s (Client event) = ⊤
NamesNodes s (Ask question) = ⊤
NamesNodes s (Reach owner) = owner < s.nodes
NamesNodes s (Again owner place) = owner < s.nodes
NamesNodes s Stop = ⊤
