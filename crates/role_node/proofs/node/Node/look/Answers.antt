use Rattle.role_node.proofs.KeptLemmas.{legal_inside}
use Rattle.role_node.proofs.node.Node.look.Goals as goal

pub returns-in-Ok-Counted-clause-legal : goal.returns-in-Ok-Counted-clause-legal
returns-in-Ok-Counted-clause-legal c = legal_inside c.self.inside c.args.self.now c.self.invariant c.self.view_is

pub returns-in_default-clause-legal : goal.returns-in_default-clause-legal
returns-in_default-clause-legal c = legal_inside c.self.inside c.args.self.now c.self.invariant c.self.view_is

pub returns-in_default-2-clause-legal : goal.returns-in_default-2-clause-legal
returns-in_default-2-clause-legal c = legal_inside c.self.inside c.args.self.now c.self.invariant c.self.view_is

pub returns-in_default-3-clause-legal : goal.returns-in_default-3-clause-legal
returns-in_default-3-clause-legal c = legal_inside c.self.inside c.args.self.now c.self.invariant c.self.view_is
