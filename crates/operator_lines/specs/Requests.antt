-- What an operator's line asks, beside the clients' table: an object whose `op` is one of five names. An operation
-- reads its members in their order, and the first that is absent or out of its range is the fault.
use Rattle.std.specs.Prelude.{ℕ, ◌-◌, ◌^◌, ◌<◌, ⊤, nat_lt, if◌then◌else◌, List, length, codes}
use Rattle.std.specs.Prelude.{Option, Some, None, option_and_then, Result, Ok, Err}
use Rattle.std.specs.Option.{option_map_or}
use Rattle.std.specs.List.{AllByRecursion}
use Rattle.std.specs.Str.{bytes_eq}
use Rattle.serde_json.specs.Data.{Data}
use Rattle.serde_json.specs.Find.{get, as_str}
use Rattle.quorum_sizes.specs.Sizes.{Counts}
use Rattle.client_lines.specs.Results.{◌>>=◌}
use Rattle.client_lines.specs.Members.{member_of, number_in}
use Rattle.client_lines.specs.Json.{json_of}
use Rattle.client_lines.specs.Requests.{most_line_bytes}
use Rattle.client_lines.specs.declared.member.Member.TheVariants.{Op}
use Rattle.client_lines.specs.declared.member.MemberFault.{MemberFault}
use Rattle.client_lines.specs.declared.member.MemberFault.TheVariants as member
use Rattle.operator_lines.specs.Members.{member_name}
use Rattle.operator_lines.specs.declared.member.OperatorMember.{OperatorMember}
use Rattle.operator_lines.specs.declared.member.OperatorMember.TheVariants.{Owner, Place, From, User, Operation}
use Rattle.operator_lines.specs.declared.member.OperatorMember.TheVariants.{Object, Asked}
use Rattle.operator_lines.specs.declared.fault.OperatorFault.{OperatorFault}
use Rattle.operator_lines.specs.declared.fault.OperatorFault.TheVariants.{Missing, OutOfRange}
use Rattle.operator_lines.specs.declared.request.OperatorRequest.{OperatorRequest}
use Rattle.operator_lines.specs.declared.request.OperatorRequest.TheVariants.{Status, Command, Sessions, Decide}
use Rattle.operator_lines.specs.declared.request.OperatorRequest.TheVariants.{DecideAll}
use Rattle.operator_lines.specs.declared.decision.Access as accesses
use Rattle.operator_lines.specs.Rows.{rows_of}

-- the greatest number that a line may name as a place
abbrev pub most_place : ℕ
most_place = 2 ^ 53

-- a line's fault names the member
abbrev pub or_fault : OperatorMember → Result ℕ MemberFault → Result ℕ OperatorFault
or_fault m (Ok n) = Ok n
or_fault m (Err member.Missing) = Err (Missing m)
or_fault m (Err member.OutOfRange) = Err (OutOfRange m)

-- the whole number of the member, where it is no more than `most`
unfoldable pub number_of : OperatorMember → ℕ → Data → Result ℕ OperatorFault
number_of m most line = or_fault m (number_in most (get (member_name m) line))

-- an owner is one of the nodes
abbrev pub owner_of : Counts → Data → Result ℕ OperatorFault
owner_of s = number_of Owner (s.nodes - 1)

unfoldable pub command_of : Counts → Data → Result OperatorRequest OperatorFault
command_of s line = do
  owner ← owner_of s line
  place ← number_of Place most_place line
  Ok (Command owner place)

unfoldable pub sessions_of : Data → Result OperatorRequest OperatorFault
sessions_of line = do
  from ← number_of From (2 ^ 64 - 1) line
  Ok (Sessions from)

unfoldable pub decide_of : Counts → Data → Result OperatorRequest OperatorFault
decide_of s line = do
  user ← number_of User (2 ^ 32 - 1) line
  owner ← owner_of s line
  operation ← number_of Operation (2 ^ 16 - 1) line
  object ← number_of Object (2 ^ 32 - 1) line
  Ok (Decide (record { user = user; owner = owner; operation = operation; object = object }))

-- the rows of the member, if there are any
abbrev pub rows_in : Counts → Option Data → Result OperatorRequest OperatorFault
rows_in s None = Err (Missing Asked)
rows_in s (Some value) = option_map_or (λ asked. Ok (DecideAll asked)) (rows_of s value) (Err (OutOfRange Asked))

unfoldable pub decide_all_of : Counts → Data → Result OperatorRequest OperatorFault
decide_all_of s line = rows_in s (get (member_name Asked) line)

-- what a line asks whose `op` is this name
abbrev pub request_named : Counts → Data → List ℕ → Option (Result OperatorRequest OperatorFault)
request_named s line name =
    if bytes_eq name (codes "status") then Some (Ok Status)
    else (if bytes_eq name (codes "command") then Some (command_of s line)
    else (if bytes_eq name (codes "sessions") then Some (sessions_of line)
    else (if bytes_eq name (codes "decide") then Some (decide_of s line)
    else (if bytes_eq name (codes "decide_all") then Some (decide_all_of s line)
    else None))))

-- what a line asks that is this value
unfoldable pub request_in : Counts → Data → Option (Result OperatorRequest OperatorFault)
request_in s line = option_and_then (request_named s line) (option_and_then as_str (member_of Op line))

-- what a line of these bytes asks of a node of these sizes, or the first fault that holds; none, if it is no operator's
unfoldable pub operator_due : Counts → List ℕ → Option (Result OperatorRequest OperatorFault)
operator_due s bytes =
    if nat_lt most_line_bytes (length bytes) then None else option_and_then (request_in s) (json_of bytes)

-- each owner that it names is a node
abbrev pub NamesNode : Counts → OperatorRequest → Type 0
NamesNode s Status = ⊤
NamesNode s (Command owner place) = owner < s.nodes
NamesNode s (Sessions from) = ⊤
NamesNode s (Decide asked) = asked.owner < s.nodes
NamesNode s (DecideAll rows) = AllByRecursion (λ (a : accesses.Access). a.owner < s.nodes) rows
