use Rattle.line_pipe.proofs.OpenLemmas.{made_node}
use Rattle.line_pipe.proofs.pipe.make_node.Goals as goal

pub returns-in_ok-new-in-Ok-clause-ok : goal.returns-in_ok-new-in-Ok-clause-ok
returns-in_ok-new-in-Ok-clause-ok c = made_node _ c.in-Ok.setup _ c.in-Ok.ensures.due c.in_ok-new-in-Ok.ensures
