use Rattle.std.proofs.Common.{◌≡◌, ◌≤◌, ap, ◌∙◌, arith}
use Rattle.std.specs.FinMap as finite
use Rattle.role_sessions.proofs.Exported.{open_are_few}
use Rattle.role_node.specs.Configs.{most_events}
use Rattle.role_node.specs.Access.{sessions_at}
use Rattle.role_node.specs.Histories.{client_events}
use Rattle.role_node.specs.inside.Kept.{events}
use Rattle.role_node.proofs.FieldLemmas.{events_are_few}
use Rattle.role_node.proofs.HistoryLemmas.{client_events-length}
use Rattle.role_node.proofs.node.Node.open_count.Goals as goal

few : (c : goal.After-open_count) → c.open_count.result ≤ most_events
few c =
    let history = events c.self.inside.entries.items in
    let same : c.open_count.result ≡ finite.len (sessions_at history).open_sessions =
    c.open_count.ensures ∙ ap (λ sessions. finite.len sessions.open_sessions) c.self.invariant.state.sessions in
    let open_ones = open_are_few (client_events history) in
    let acts = client_events-length history in
    let most = events_are_few c.self.inside c.self.invariant in
    omega arith

pub overflow_cast-result : goal.overflow_cast-result
overflow_cast-result c = let most = few c in omega arith

pub returns-clause-most : goal.returns-clause-most
returns-clause-most c = few c
