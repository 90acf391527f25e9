-- How an answer is written: a compact JSON object, with its names in ascending order.
use Rattle.std.specs.Prelude.{◌≢◌, ⊤, ℕ, List, ◌++◌, codes, Option, Some, None}
use Rattle.std.specs.Fmt.{decimal}
use Rattle.std.specs.List.{join_by}
use Rattle.role_sessions.specs.Decisions.{rule_code}
use Rattle.role_sessions.specs.declared.verdict.Verdict as verdicts
use Rattle.role_sessions.specs.declared.verdict.Verdict.TheVariants.{Allow, Deny}
use Rattle.client_lines.specs.Members.{member_name}
use Rattle.client_lines.specs.Faults.{line_fault_text, named_member, node_fault_name, IsRefusal}
use Rattle.client_lines.specs.declared.answer.ClientAnswer.{ClientAnswer}
use Rattle.client_lines.specs.declared.answer.ClientAnswer.TheVariants.{Issued, Session, Done, Verdict, Users}
use Rattle.client_lines.specs.declared.answer.ClientAnswer.TheVariants.{Roles, Permissions, Operations, Reach}
use Rattle.client_lines.specs.declared.answer.ClientAnswer.TheVariants.{Again, Stopped, Refused, BadLine}
use Rattle.client_lines.specs.declared.fault.LineFault.TheVariants.{Memory}
use Rattle.client_lines.specs.declared.member.Member.{Member}

abbrev pub issued_text : ℕ → ℕ → List ℕ
issued_text place reach = codes "{\"issued\":" ++ decimal place ++ codes ",\"reach\":" ++ decimal reach ++ codes "}"

-- one number under its name
abbrev pub number_text : List ℕ → ℕ → List ℕ
number_text name n = codes "{\"" ++ name ++ codes "\":" ++ decimal n ++ codes "}"

abbrev pub allow_text : ℕ → ℕ → List ℕ
allow_text at role = codes "{\"allow\":true,\"at\":" ++ decimal at ++ codes ",\"role\":" ++ decimal role ++ codes "}"

abbrev pub deny_text : ℕ → List ℕ → List ℕ
deny_text at code = codes "{\"allow\":false,\"at\":" ++ decimal at ++ codes ",\"rule\":\"" ++ code ++ codes "\"}"

abbrev pub verdict_text : ℕ → verdicts.Verdict → List ℕ
verdict_text at (Allow role) = allow_text at role
verdict_text at (Deny rule) = deny_text at (rule_code rule)

-- a list under its name
abbrev pub list_text : ℕ → List ℕ → List ℕ → List ℕ
list_text at name items = codes "{\"at\":" ++ decimal at ++ codes ",\"" ++ name ++ codes "\":[" ++ items ++ codes "]}"

abbrev pub numbers_text : List ℕ → List ℕ
numbers_text = join_by decimal (codes ",")

abbrev pub permission_text : ℕ × ℕ → List ℕ
permission_text p = codes "[" ++ decimal p.0 ++ codes "," ++ decimal p.1 ++ codes "]"

abbrev pub permissions_text : List (ℕ × ℕ) → List ℕ
permissions_text = join_by permission_text (codes ",")

-- a fault, and the member that it names
abbrev pub error_text : List ℕ → Option Member → List ℕ
error_text fault None = codes "{\"error\":\"" ++ fault ++ codes "\"}"
error_text fault (Some member) =
    codes "{\"error\":\"" ++ fault ++ codes "\",\"name\":\"" ++ member_name member ++ codes "\"}"

abbrev pub answer_text : ClientAnswer → List ℕ
answer_text (Issued place reach) = issued_text place reach
answer_text (Session id) = number_text (codes "session") id
answer_text Done = codes "{\"done\":true}"
answer_text (Verdict at verdict) = verdict_text at verdict
answer_text (Users at users) = list_text at (codes "users") (numbers_text users)
answer_text (Roles at roles) = list_text at (codes "roles") (numbers_text roles)
answer_text (Permissions at permissions) = list_text at (codes "permissions") (permissions_text permissions)
answer_text (Operations at operations) = list_text at (codes "operations") (numbers_text operations)
answer_text (Reach reach) = number_text (codes "reach") reach
answer_text (Again messages) = number_text (codes "again") messages
answer_text Stopped = codes "{\"stopped\":true}"
answer_text (Refused fault) = error_text (node_fault_name fault) None
answer_text (BadLine fault) = error_text (line_fault_text fault) (named_member fault)

-- the answer is not want of memory
abbrev pub IsWritten : ClientAnswer → Type 0
IsWritten (Issued place reach) = ⊤
IsWritten (Session id) = ⊤
IsWritten Done = ⊤
IsWritten (Verdict at verdict) = ⊤
IsWritten (Users at users) = ⊤
IsWritten (Roles at roles) = ⊤
IsWritten (Permissions at permissions) = ⊤
IsWritten (Operations at operations) = ⊤
IsWritten (Reach reach) = ⊤
IsWritten (Again messages) = ⊤
IsWritten Stopped = ⊤
IsWritten (Refused fault) = IsRefusal fault
IsWritten (BadLine fault) = fault ≢ Memory
