-- How an answer is written: a compact JSON object, with its names in ascending order.
use Rattle.std.specs.Prelude.{ℕ, Bool, true, false, List, ◌++◌, codes, Option, Some, None}
use Rattle.std.specs.Fmt.{decimal}
use Rattle.std.specs.List.{join_by}
use Rattle.role_commands.specs.declared.command.Command as commands
use Rattle.role_commands.specs.declared.command.Command.TheVariants as command
use Rattle.role_sessions.specs.Decisions.{rule_code}
use Rattle.role_sessions.specs.declared.verdict.Verdict as verdicts
use Rattle.role_sessions.specs.declared.verdict.Verdict.TheVariants.{Allow, Deny}
use Rattle.owner_shares.specs.Shares.{acts_share}
use Rattle.operator_lines.specs.Members.{member_name}
use Rattle.operator_lines.specs.Faults.{operator_fault_text, serving_fault_text, named_member}
use Rattle.operator_lines.specs.declared.fault.ServingFault.{ServingFault}
use Rattle.operator_lines.specs.declared.member.OperatorMember.{OperatorMember}
use Rattle.operator_lines.specs.declared.standing.NodeStanding.{NodeStanding}
use Rattle.operator_lines.specs.declared.answer.JournalStanding as journals
use Rattle.operator_lines.specs.declared.answer.PeerStanding as peers
use Rattle.operator_lines.specs.declared.answer.Status as statuses
use Rattle.operator_lines.specs.declared.answer.OperatorAnswer.{OperatorAnswer}
use Rattle.operator_lines.specs.declared.answer.OperatorAnswer.TheVariants.{Status, Command, Sessions, Decision}
use Rattle.operator_lines.specs.declared.answer.OperatorAnswer.TheVariants.{Decisions, BadLine}
use Rattle.operator_lines.specs.declared.decision.Decision as decisions

abbrev pub flag_text : Bool → List ℕ
flag_text true = codes "true"
flag_text false = codes "false"

abbrev pub or_null : {A : Type 0} → (A → List ℕ) → Option A → List ℕ
or_null text None = codes "null"
or_null text (Some x) = text x

abbrev pub journal_text : journals.JournalStanding → List ℕ
journal_text j =
    codes "{\"last\":" ++ decimal j.times.last ++ codes ",\"mean\":" ++ decimal j.times.mean
    ++ codes ",\"sound\":" ++ flag_text j.sound ++ codes ",\"syncs\":" ++ decimal j.times.syncs
    ++ codes ",\"worst\":" ++ decimal j.times.worst ++ codes "}"

abbrev pub peer_text : peers.PeerStanding → List ℕ
peer_text p =
    codes "{\"again\":" ++ decimal p.again ++ codes ",\"connected\":" ++ flag_text p.connected
    ++ codes ",\"heard\":" ++ flag_text p.heard ++ codes ",\"lost\":" ++ decimal p.lost
    ++ codes ",\"unopened\":" ++ decimal p.unopened ++ codes ",\"waiting\":" ++ decimal p.waiting ++ codes "}"

-- how many acts clients may do, where there are shares
abbrev pub acts_share_text : List ℕ → List ℕ
acts_share_text places = decimal acts_share

abbrev pub places_text : List ℕ → List ℕ
places_text places = codes "[" ++ join_by decimal (codes ",") places ++ codes "]"

-- what clients have done, and may do
abbrev pub acts_text : NodeStanding → List ℕ
acts_text n =
    codes "{\"acts\":" ++ decimal n.acts ++ codes ",\"acts_share\":" ++ or_null acts_share_text n.shares

-- a node's first members
abbrev pub front_text : NodeStanding → List ℕ
front_text n =
    acts_text n ++ codes ",\"at\":" ++ decimal n.at ++ codes ",\"begun_twice\":" ++ flag_text n.begun_twice
    ++ codes ",\"f\":" ++ decimal n.liars

-- how far streams have come, how many sessions are open, and how many places each node has
abbrev pub streams_text : NodeStanding → List ℕ
streams_text n =
    codes ",\"published\":" ++ decimal n.published
    ++ codes ",\"reaches\":[" ++ join_by decimal (codes ",") n.reaches
    ++ codes "],\"sessions\":" ++ decimal n.sessions
    ++ codes ",\"shares\":" ++ or_null places_text n.shares

abbrev pub status_text : statuses.Status → List ℕ
status_text s =
    front_text s.node
    ++ codes ",\"journal\":" ++ or_null journal_text s.journal
    ++ codes ",\"limit\":" ++ decimal s.node.limit
    ++ codes ",\"peers\":[" ++ join_by (or_null peer_text) (codes ",") s.peers
    ++ codes "]" ++ streams_text s.node
    ++ codes ",\"unopened\":" ++ decimal s.unopened ++ codes "}"

abbrev pub user_text : List ℕ → ℕ → ℕ → List ℕ
user_text op user role =
    codes "{\"op\":\"" ++ op ++ codes "\",\"role\":" ++ decimal role ++ codes ",\"user\":" ++ decimal user
    ++ codes "}"

abbrev pub permission_text : List ℕ → ℕ → ℕ → ℕ → List ℕ
permission_text op role operation object =
    codes "{\"object\":" ++ decimal object ++ codes ",\"op\":\"" ++ op ++ codes "\",\"operation\":"
    ++ decimal operation ++ codes ",\"role\":" ++ decimal role ++ codes "}"

abbrev pub clear_text : ℕ → List ℕ
clear_text role = codes "{\"op\":\"clear\",\"role\":" ++ decimal role ++ codes "}"

abbrev pub command_text : commands.Command → List ℕ
command_text (command.Assign user role) = user_text (codes "assign") user role
command_text (command.Deassign user role) = user_text (codes "deassign") user role
command_text (command.Grant role operation object) = permission_text (codes "grant") role operation object
command_text (command.Revoke role operation object) = permission_text (codes "revoke") role operation object
command_text (command.Clear role) = clear_text role

-- a session and its user
abbrev pub session_text : ℕ × ℕ → List ℕ
session_text s = codes "[" ++ decimal s.0 ++ codes "," ++ decimal s.1 ++ codes "]"

abbrev pub sessions_text : ℕ → List (ℕ × ℕ) → List ℕ
sessions_text at sessions =
    codes "{\"at\":" ++ decimal at ++ codes ",\"sessions\":[" ++ join_by session_text (codes ",") sessions ++ codes "]}"

abbrev pub allows : verdicts.Verdict → Bool
allows (Allow role) = true
allows (Deny rule) = false

-- the role in which is allowed, or the rule that denies
abbrev pub verdict_text : verdicts.Verdict → List ℕ
verdict_text (Allow role) = codes ",\"role\":" ++ decimal role ++ codes "}"
verdict_text (Deny rule) = codes ",\"rule\":\"" ++ rule_code rule ++ codes "\"}"

-- how far the owner's stream reached, and what follows from it
abbrev pub reach_text : decisions.Decision → List ℕ
reach_text d = codes ",\"reach\":" ++ decimal d.reach ++ verdict_text d.verdict

-- a decision, and how many events the node had then
abbrev pub decision_text : ℕ → decisions.Decision → List ℕ
decision_text at d =
    codes "{\"allow\":" ++ flag_text (allows d.verdict) ++ codes ",\"at\":" ++ decimal at ++ reach_text d

-- a decision among several
abbrev pub among_text : decisions.Decision → List ℕ
among_text d = codes "{\"allow\":" ++ flag_text (allows d.verdict) ++ reach_text d

abbrev pub decisions_text : ℕ → List decisions.Decision → List ℕ
decisions_text at ds =
    codes "{\"at\":" ++ decimal at ++ codes ",\"decisions\":[" ++ join_by among_text (codes ",") ds ++ codes "]}"

-- a fault, and the member that it names
abbrev pub error_text : List ℕ → Option OperatorMember → List ℕ
error_text fault None = codes "{\"error\":\"" ++ fault ++ codes "\"}"
error_text fault (Some member) =
    codes "{\"error\":\"" ++ fault ++ codes "\",\"name\":\"" ++ member_name member ++ codes "\"}"

abbrev pub operator_text : OperatorAnswer → List ℕ
operator_text (Status status) = status_text status
operator_text (Command command) = codes "{\"command\":" ++ or_null command_text command ++ codes "}"
operator_text (Sessions at sessions) = sessions_text at sessions
operator_text (Decision at decision) = decision_text at decision
operator_text (Decisions at decisions) = decisions_text at decisions
operator_text (BadLine fault) = error_text (operator_fault_text fault) (named_member fault)

-- a server's refusal of a client's line
abbrev pub refused_text : ServingFault → List ℕ
refused_text fault = error_text (serving_fault_text fault) None
