-- Which peers vote ahead of what a node has published. None that follows the rules ever does, unless the node published
-- more than it remembers.
use Rattle.std.specs.Prelude.{ℕ, nat_le, nat_lt, Bool, not, ◌==◌, ◌&&◌, if◌then◌else◌, length, Option, None, Some}
use Rattle.std.specs.FinSet as sets
use Rattle.quorum_sizes.specs.Sizes.{Counts}
use Rattle.link_frames.specs.frames.Packets.{PacketValue}
use Rattle.role_node.specs.Histories.{issued}
use Rattle.role_node.specs.Nodes.{NodeValue}
use Rattle.node_lock.specs.declared.receipt.Call.{Call}
use Rattle.served_node.specs.Served.{taken_by}
use Rattle.server_locks.specs.declared.votes_ahead.VotesAhead.{VotesAhead}

abbrev pub nobody_ahead : Counts → ℕ → VotesAhead
nobody_ahead s me = record { me = me; liars = s.liars; peers = sets.empty }

-- a peer's packet about a place of the node's own stream which the node has not published
abbrev pub is_ahead : NodeValue → ℕ → PacketValue → Bool
is_ahead node me p = (p.owner == me) && not (p.from == me) && nat_le (length (issued node.history)) p.place

abbrev pub with_packet : NodeValue → Option PacketValue → VotesAhead → VotesAhead
with_packet node None a = a
with_packet node (Some p) a = if is_ahead node a.me p then record a { peers = sets.insert a.peers p.from } else a

-- with who sent the packet that a call has the node take, if that one votes ahead
abbrev pub with_vote : NodeValue → Call → VotesAhead → VotesAhead
with_vote node call a = with_packet node (taken_by call) a

-- more peers than may lie
abbrev pub are_enough : VotesAhead → Bool
are_enough a = nat_lt a.liars (sets.len a.peers)
