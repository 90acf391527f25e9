use Rattle.std.proofs.Common.{◌≡◌, ◌≤◌, length, ap, ◌∙◌, arith}
use Rattle.role_node.specs.Configs.{most_events}
use Rattle.role_node.specs.Histories.{issued}
use Rattle.role_node.specs.inside.Kept.{events}
use Rattle.role_node.proofs.FieldLemmas.{events_are_few}
use Rattle.role_node.proofs.HistoryLemmas.{issued-length}
use Rattle.role_node.proofs.node.Node.published.Goals as goal

counted : (c : goal.After-len) → c.len.result ≡ length (issued (events c.self.inside.entries.items))
counted c = c.len.ensures ∙ c.self.inside.state.issued.ok.0 ∙ ap length c.self.invariant.state.issued

few : (c : goal.After-len) → c.len.result ≤ most_events
few c =
    let same = counted c in
    let within = issued-length (events c.self.inside.entries.items) in
    let most = events_are_few c.self.inside c.self.invariant in
    omega arith

pub overflow_cast-result : goal.overflow_cast-result
overflow_cast-result c = let most = few c in omega arith

pub returns-clause-count : goal.returns-clause-count
returns-clause-count c = counted c ∙ ap (λ node. length (issued node.history)) c.self.view_is

pub returns-clause-most : goal.returns-clause-most
returns-clause-most c = few c
