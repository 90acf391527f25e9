use Rattle.std.specs.Prelude.{◌≡◌, ℕ, is_some, position}
use Rattle.served_node.specs.Heard.{is_of_index, nothing}
use Rattle.served_node.specs.declared.heard.PeerHeard.{PeerHeard}
use Rattle.served_node.proofs.Standings.{ChangedBelow}
use Rattle.served_node.proofs.heard.Heard.note_places.Given as goal

abbrev pub invariant-loop-index : goal.invariant-loop-index
invariant-loop-index l =
    ChangedBelow (λ (k : ℕ) (p : PeerHeard). record p { stands = is_some (position (is_of_index k) l.places) }) nothing
    l.index l.initial.self-inside.peers.items l.self-inside.peers.items
    × (l.self-inside.unopened ≡ l.initial.self-inside.unopened)
