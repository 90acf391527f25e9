use Rattle.std.specs.Prelude.{ℕ, Option, None}
use Rattle.operator_lines.specs.declared.answer.PeerStanding.{PeerStanding}
use Rattle.served_node.specs.Heard.{with_heard, peer_at}
use Rattle.served_node.proofs.Standings.{ChangedBelow}
use Rattle.served_node.proofs.heard.Heard.add_to.Given as goal

abbrev pub invariant-loop-index : goal.invariant-loop-index
invariant-loop-index l =
    ChangedBelow (λ (k : ℕ) (p : Option PeerStanding). with_heard (peer_at l.self.peers k) l.now p) None
    l.index l.initial.peers l.peers
