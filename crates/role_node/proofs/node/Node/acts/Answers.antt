use Rattle.role_node.proofs.FieldLemmas.{acts_are_few}
use Rattle.role_node.proofs.node.Node.acts.Goals as goal

pub returns-clause-most : goal.returns-clause-most
returns-clause-most c = acts_are_few c.self.inside c.self.invariant
