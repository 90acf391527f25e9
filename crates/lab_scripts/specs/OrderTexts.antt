-- What is written for a line of a cluster, its end left out.
use Rattle.std.specs.Prelude.{ℕ, ◌+◌, ◌-◌, Bool, nat_lt, if◌then◌else◌, List, []}
use Rattle.std.specs.Prelude.{◌++◌, codes, Option, Some, None, Result, Ok, Err}
use Rattle.std.specs.List.{flat_map}
use Rattle.std.specs.Fmt.{decimal}
use Rattle.std.specs.Option.{option_map_or}
use Rattle.role_commands.specs.TableFaults.{table_fault_text}
use Rattle.role_commands.specs.declared.command.Command.{Command}
use Rattle.role_commands.specs.declared.table.TableFault.{TableFault}
use Rattle.link_frames.specs.declared.frames.packet.Message.{Message}
use Rattle.role_sessions.specs.Decisions.{rule_code}
use Rattle.role_sessions.specs.declared.verdict.Verdict as verdicts
use Rattle.role_sessions.specs.declared.verdict.Verdict.TheVariants.{Allow, Deny}
use Rattle.role_node.specs.Access.{reach_at}
use Rattle.role_node.specs.Listed.{answer_after}
use Rattle.role_node.specs.declared.event.Reply.{Reply}
use Rattle.role_node.specs.declared.event.Reply.TheVariants as reply
use Rattle.role_node.specs.declared.question.Answer.{Answer}
use Rattle.role_node.specs.declared.question.Answer.TheVariants.{Verdict, Users, Roles, Permissions, Operations}
use Rattle.role_node.specs.declared.question.Question.{Question}
use Rattle.byz_world.specs.Agreement.{agree_due}
use Rattle.byz_world.specs.Asking.{question_due}
use Rattle.byz_world.specs.Faults.{world_fault_text}
use Rattle.byz_world.specs.Runs.{history_of}
use Rattle.byz_world.specs.Steps.{step_due}
use Rattle.byz_world.specs.Worlds.{WorldValue, is_correct_in, sizes_of}
use Rattle.byz_world.specs.declared.step.StepReply.{StepReply}
use Rattle.byz_world.specs.declared.step.StepReply.TheVariants.{Absorbed, Node}
use Rattle.byz_world.specs.declared.faults.WorldFault.{WorldFault}
use Rattle.byz_world.specs.declared.faults.WorldFault.TheVariants as fault
use Rattle.lab_scripts.specs.Texts.{kind_word}
use Rattle.lab_scripts.specs.Labs.{Lab, flush, settling_adds}
use Rattle.lab_scripts.specs.Rests.{rests}
use Rattle.lab_scripts.specs.declared.orders.ScriptLine.{ScriptLine}
use Rattle.lab_scripts.specs.declared.orders.ScriptLine.TheVariants.{Do, Flush, Settle, Rest, Ask, Reach, Agree}

-- ---- before anything happens

-- `ok`, or the fault of a role
abbrev pub role_text : Option TableFault → List ℕ
role_text None = codes "ok"
role_text (Some fault) = table_fault_text fault

-- `ok`, or the fault of a liar too many
abbrev pub liar_text : Bool → List ℕ
liar_text too_many = if too_many then world_fault_text fault.TooManyLiars else codes "ok"

-- ---- steps

-- `A-B`
abbrev pub between_text : ℕ → ℕ → List ℕ
between_text first last = decimal first ++ codes "-" ++ decimal last

-- the first and the last number of so many packets
abbrev pub range_text : ℕ → ℕ → List ℕ
range_text first count = between_text first (first + count - 1)

-- ` echo A-B` or ` ready A-B` where that was sent
abbrev pub sent_range_text : Option Message → ℕ → ℕ → List ℕ
sent_range_text None first count = []
sent_range_text (Some m) first count = codes " " ++ kind_word m.kind ++ codes " " ++ range_text first count

-- ` delivered` where the step delivered
abbrev pub delivery_text : Option Command → List ℕ
delivery_text None = []
delivery_text (Some c) = codes " delivered"

-- ` reach R` where the stream grew
abbrev pub growth_text : ℕ → ℕ → List ℕ
growth_text from to = if nat_lt from to then codes " reach " ++ decimal to else []

-- what the node replied, and sent as so many packets from this number on
abbrev pub reply_text : Reply → ℕ → ℕ → List ℕ
reply_text reply.Idle first count = codes "idle"
reply_text (reply.Issued m) first count = codes "issued " ++ decimal m.place ++ codes " sent " ++ range_text first count
reply_text (reply.Counted send delivered from to) first count =
    codes "counted" ++ sent_range_text send first count ++ delivery_text delivered ++ growth_text from to
reply_text (reply.Session id) first count = codes "session " ++ decimal id
reply_text reply.Done first count = codes "ok"

abbrev pub step_reply_text : StepReply → List ℕ
step_reply_text Absorbed = codes "absorbed"
step_reply_text (Node r first count) = reply_text r first count

-- the answer to a step, or its fault
abbrev pub step_text : Result StepReply WorldFault → List ℕ
step_text (Ok r) = step_reply_text r
step_text (Err f) = world_fault_text f

-- ---- questions

-- `allow R`, or `deny` and the rule
abbrev pub verdict_text : verdicts.Verdict → List ℕ
verdict_text (Allow role) = codes "allow " ++ decimal role
verdict_text (Deny rule) = codes "deny " ++ rule_code rule

-- `list` and the numbers, a space before each
unfoldable pub numbers_text : List ℕ → List ℕ
numbers_text numbers = codes "list" ++ flat_map (λ n. codes " " ++ decimal n) numbers

-- `list` and the permissions, each as `OPERATION:OBJECT`
unfoldable pub permissions_text : List (ℕ × ℕ) → List ℕ
permissions_text permissions =
    codes "list" ++ flat_map (λ p. codes " " ++ decimal p.0 ++ codes ":" ++ decimal p.1) permissions

abbrev pub answer_text : Answer → List ℕ
answer_text (Verdict verdict) = verdict_text verdict
answer_text (Users users) = numbers_text users
answer_text (Roles roles) = numbers_text roles
answer_text (Permissions permissions) = permissions_text permissions
answer_text (Operations operations) = numbers_text operations

-- the answer, or its fault
abbrev pub asked_text : WorldValue → ℕ → Question → List ℕ
asked_text w node question =
    option_map_or world_fault_text (question_due w node question)
    (answer_text (answer_after w.config.roles (history_of node w.run) question))

abbrev pub reached_text : ℕ → List ℕ
reached_text reach = codes "reach " ++ decimal reach

-- of a node that lies there is none
abbrev pub reach_text : WorldValue → ℕ → ℕ → List ℕ
reach_text w node owner =
    if is_correct_in w node then reached_text (reach_at (sizes_of w) (history_of node w.run) owner)
    else world_fault_text fault.NotCorrect

abbrev pub agreed_text : Option ℕ → List ℕ
agreed_text None = world_fault_text fault.NotCorrect
agreed_text (Some length) = codes "agree " ++ decimal length

abbrev pub rest_text : Bool → List ℕ
rest_text at_rest = if at_rest then codes "rest yes" else codes "rest no"

-- ---- a line

-- what is due for what a line asks: by the answers that are due to the run so far
unfoldable pub order_text : Lab → ScriptLine → List ℕ
order_text lab (Do step) = step_text (step_due lab.world step)
order_text lab Flush = codes "flushed " ++ decimal (flush lab).count
order_text lab Settle = codes "settled " ++ decimal (settling_adds lab)
order_text lab Rest = rest_text (rests lab.world)
order_text lab (Ask node question) = asked_text lab.world node question
order_text lab (Reach node owner) = reach_text lab.world node owner
order_text lab (Agree one other owner) = agreed_text (agree_due lab.world one other owner)
