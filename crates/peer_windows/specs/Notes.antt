-- What the answers to packets and commands change in the pairs.
use Rattle.std.specs.Prelude.{ℕ, Bool, ◌==◌, ◌&&◌, nat_lt, nat_le, if◌then◌else◌, Option, Some, None}
use Rattle.link_frames.specs.frames.Kinds.{same_kind}
use Rattle.link_frames.specs.frames.Packets.{PacketValue}
use Rattle.link_frames.specs.declared.frames.kind.Kind.TheVariants.{Send, Ready}
use Rattle.role_node.specs.declared.event.Reply.TheVariants as reply
use Rattle.role_node.specs.declared.faults.NodeFault.TheVariants as fault
use Rattle.node_lock.specs.Holds.{Held, end_of, count_of}
use Rattle.node_lock.specs.Seats.{Sitting}
use Rattle.node_lock.specs.Views.{node_count}
use Rattle.node_lock.specs.declared.receipt.Outcome.{Outcome}
use Rattle.node_lock.specs.declared.receipt.Outcome.TheVariants as outcome
use Rattle.peer_windows.specs.Sent.{level_at}
use Rattle.peer_windows.specs.Answers.{heard, moved_on, passed, voted_on}
use Rattle.peer_windows.specs.Owners.{PairsValue, pair_at, with_pair_at, grown, is_served, is_still, owed_now}
use Rattle.peer_windows.specs.declared.seen.Level.{Level}
use Rattle.peer_windows.specs.declared.answers.Repeat.{Repeat}

-- the history is not shorter than the seat has seen, and has as many events of the seat as it recorded
abbrev pub seat_fits : Held → Sitting → Bool
seat_fits h s = nat_le s.seen (end_of h) && (count_of h s.number == s.count)

-- how the owner's stream and the peer stand, where both are nodes and the seat fits
abbrev pub level_seen : Held → Sitting → ℕ → ℕ → Option Level
level_seen h s owner peer =
    if (nat_lt owner (node_count h) && nat_lt peer (node_count h)) && seat_fits h s
    then Some (level_at h owner peer) else None

-- a vote of the peer has counted, after which the stream and the peer stand so
abbrev pub vote_noted : ℕ → ℕ → ℕ → Option Level → PairsValue → PairsValue
vote_noted now owner peer None a = a
vote_noted now owner peer (Some level) a =
    owed_now now owner peer (with_pair_at a owner peer (voted_on now level (pair_at a owner peer)))

-- A packet has counted: the owner's stream has grown. Where it is a vote its sender moves on, and where a window went
-- to the sender, it may be owed what is behind that.
abbrev pub counted_noted : Held → Sitting → ℕ → PacketValue → PairsValue → PairsValue
counted_noted h s now packet a =
    let owner = packet.owner in
    let peer = packet.from in
    let larger = grown a owner now in
    let moved = if same_kind packet.kind Send then larger
    else with_pair_at larger owner peer (moved_on now (pair_at larger owner peer)) in
    if is_served (pair_at moved owner peer) then vote_noted now owner peer (level_seen h s owner peer) moved else moved

-- the peer has sent again what changes nothing
abbrev pub repeat_noted : ℕ → ℕ → ℕ → Repeat → Option Level → PairsValue → PairsValue
repeat_noted now owner peer repeat None a = a
repeat_noted now owner peer repeat (Some level) a =
    owed_now now owner peer (with_pair_at a owner peer (heard now level repeat (pair_at a owner peer)))

-- A packet has changed nothing. One of the node itself says nothing.
abbrev pub idle_noted : Held → Sitting → ℕ → PacketValue → PairsValue → PairsValue
idle_noted h s now packet a =
    let repeat : Repeat = record { place = packet.place; is_ready = same_kind packet.kind Ready } in
    if packet.from == a.me then a
    else repeat_noted now packet.owner packet.from repeat (level_seen h s packet.owner packet.from) a

-- the peer is beyond the window, which says something where nothing of the owner's stream has grown for a while
abbrev pub beyond_noted : ℕ → ℕ → ℕ → Option Level → PairsValue → PairsValue
beyond_noted now owner peer None a = a
beyond_noted now owner peer (Some level) a =
    if is_still now owner a
    then owed_now now owner peer (with_pair_at a owner peer (passed now level (pair_at a owner peer))) else a

-- What the node's answer to a packet changes, where there is one: a command that has its place, a packet that counted,
-- one that changed nothing and one beyond the window; nothing else does.
abbrev pub noted : Held → Sitting → ℕ → Option PacketValue → Outcome → PairsValue → PairsValue
noted h s now packet (outcome.Reply (reply.Issued message)) a = grown a message.owner now
noted h s now (Some packet) (outcome.Reply (reply.Counted send delivered from to)) a = counted_noted h s now packet a
noted h s now (Some packet) (outcome.Reply reply.Idle) a = idle_noted h s now packet a
noted h s now (Some packet) (outcome.Refused (fault.Beyond place end)) a =
    beyond_noted now packet.owner packet.from (level_seen h s packet.owner packet.from) a
noted h s now packet outcome a = a
