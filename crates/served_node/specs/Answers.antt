-- What a client hears of what a node answers.
use Rattle.std.specs.Prelude.{ℕ, ◌+◌, Option, is_some, if◌then◌else◌}
use Rattle.role_commands.specs.declared.command.Command.{Command}
use Rattle.role_node.specs.declared.event.NodeAgain.{NodeAgain}
use Rattle.role_node.specs.declared.question.Answer.{Answer}
use Rattle.role_node.specs.declared.question.Answer.TheVariants as answer
use Rattle.client_lines.specs.declared.answer.ClientAnswer.{ClientAnswer}
use Rattle.client_lines.specs.declared.answer.ClientAnswer.TheVariants.{Verdict, Users, Roles, Permissions, Operations}

-- an answer to a question as a client hears it, after so many events
abbrev pub listed : ℕ → Answer → ClientAnswer
listed at (answer.Verdict verdict) = Verdict at verdict
listed at (answer.Users users) = Users at users
listed at (answer.Roles roles) = Roles at roles
listed at (answer.Permissions permissions) = Permissions at permissions
listed at (answer.Operations operations) = Operations at operations

-- one for each message that there is
abbrev pub one_if : Option Command → ℕ
one_if message = if is_some message then 1 else 0

-- how many messages were sent at the place
abbrev pub sent_count : NodeAgain → ℕ
sent_count again = one_if again.send + one_if again.echo + one_if again.ready
