use Rattle.std.specs.Prelude.{List}
use Rattle.role_commands.specs.Tables.{Table}
use Rattle.role_node.specs.inside.Kept.{IsStateAfter}
use Rattle.role_node.specs.inside.Noting.{AreIssued}
use Rattle.role_node.specs.declared.event.Event.{Event}
use Rattle.role_node.proofs.noted.are_issued.Given as goal

abbrev pub invariant-loop-place : goal.invariant-loop-place
invariant-loop-place l =
    (roles : Table) (history : List Event) → IsStateAfter roles history l.state →
    AreIssued roles.sizes l.me history l.from l.place
