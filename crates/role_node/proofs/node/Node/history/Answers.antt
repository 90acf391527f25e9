use Rattle.role_node.proofs.KeptLemmas.{legal_inside}
use Rattle.role_node.proofs.node.Node.history.Goals as goal

pub returns-clause-legal : goal.returns-clause-legal
returns-clause-legal c = legal_inside c.self.inside c.args.self.now c.self.invariant c.self.view_is
