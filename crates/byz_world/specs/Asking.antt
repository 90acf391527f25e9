-- What is due to those who make a world and who review it.
use Rattle.std.specs.Prelude.{◌≡◌, ℕ, true, false, IsTrue, if◌then◌else◌}
use Rattle.std.specs.Prelude.{Option, Some, None, option_map, Result, Ok, Err}
use Rattle.quorum_sizes.specs.NodeSets.{Nodes}
use Rattle.role_node.specs.Access.{sessions_at}
use Rattle.role_node.specs.Configs.{ConfigValue}
use Rattle.role_node.specs.Questions.{ask_due, takes_memory}
use Rattle.role_node.specs.declared.faults.AskFault.{AskFault}
use Rattle.role_node.specs.declared.faults.AskFault.TheVariants as ask
use Rattle.role_node.specs.declared.question.Answer.{Answer}
use Rattle.role_node.specs.declared.question.Question.{Question}
use Rattle.byz_world.specs.Runs.{history_of}
use Rattle.byz_world.specs.Worlds.{WorldValue, too_many_lie, is_correct_in}
use Rattle.byz_world.specs.declared.faults.WorldFault.{WorldFault}
use Rattle.byz_world.specs.declared.faults.WorldFault.TheVariants.{TooManyLiars, NotCorrect}
use Rattle.byz_world.specs.declared.faults.WorldFault.TheVariants.{NoSession, Memory}

-- a world is refused exactly where more nodes lie than may; then memory can be wanting
abbrev pub IsMade : ConfigValue → Nodes → Result WorldValue WorldFault → Type 0
IsMade config liars (Ok world) = too_many_lie config.roles.sizes liars ≡ false
IsMade config liars (Err TooManyLiars) = too_many_lie config.roles.sizes liars ≡ true
IsMade config liars (Err Memory) = too_many_lie config.roles.sizes liars ≡ false
IsMade config liars (Err fault) = ⊥

abbrev pub of_ask_fault : AskFault → WorldFault
of_ask_fault ask.NoSession = NoSession
of_ask_fault ask.Memory = Memory

-- the refusal that is due to a question: no correct node is asked, or a session is to be listed that is not open there
abbrev pub question_due : WorldValue → ℕ → Question → Option WorldFault
question_due w node question =
    if is_correct_in w node then option_map of_ask_fault (ask_due (sessions_at (history_of node w.run)) question)
    else Some NotCorrect

-- the refusal that is due is answered; where none is, only memory can be wanting, and for a listing alone
abbrev pub IsQuestionAnswer : WorldValue → ℕ → Question → Result Answer WorldFault → Type 0
IsQuestionAnswer w node question (Ok answer) = question_due w node question ≡ None
IsQuestionAnswer w node question (Err NotCorrect) = question_due w node question ≡ Some NotCorrect
IsQuestionAnswer w node question (Err NoSession) = question_due w node question ≡ Some NoSession
IsQuestionAnswer w node question (Err Memory) = (question_due w node question ≡ None) × IsTrue (takes_memory question)
IsQuestionAnswer w node question (Err fault) = ⊥
