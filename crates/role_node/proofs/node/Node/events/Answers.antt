use Rattle.std.proofs.Common.{length, ap, sym, ◌∙◌}
use Rattle.role_node.proofs.EntryLemmas.{events-length}
use Rattle.role_node.proofs.KeptLemmas.{legal_inside}
use Rattle.role_node.proofs.node.Node.events.Goals as goal

pub returns-clause-count : goal.returns-clause-count
returns-clause-count c =
    c.len.ensures ∙ c.self.inside.entries.ok.0 ∙ sym (events-length c.self.inside.entries.items)
    ∙ ap (λ node. length node.history) c.self.view_is

pub returns-clause-legal : goal.returns-clause-legal
returns-clause-legal c = legal_inside c.self.inside c.args.self.now c.self.invariant c.self.view_is
