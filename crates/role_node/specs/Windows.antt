-- What a node sends again to a peer that may lack it: what it has sent at the places of the peer's window, which lies
-- around the last vote that it took of that peer.
use Rattle.std.specs.Prelude.{ℕ, ◌+◌, ◌-◌, ◌<◌, ◌≤◌, Bool, ◌&&◌, nat_le, is_none, List, [], ◌∷◌}
use Rattle.std.specs.Prelude.{Option, Some, None, option_map}
use Rattle.std.specs.List.{filter_map, flat_map, range_with_len, list_all}
use Rattle.quorum_sizes.specs.Sizes.{Counts}
use Rattle.role_commands.specs.declared.command.Command.{Command}
use Rattle.link_frames.specs.declared.frames.kind.Kind.{Kind}
use Rattle.link_frames.specs.declared.frames.kind.Kind.TheVariants.{Send, Echo, Ready}
use Rattle.link_frames.specs.declared.frames.packet.Message.{Message}
use Rattle.owner_streams.specs.LastVotes.{last_vote}
use Rattle.owner_streams.specs.Places.{window}
use Rattle.role_node.specs.Access.{reach_at, sent_at}
use Rattle.role_node.specs.Histories.{packets}
use Rattle.role_node.specs.declared.event.Event.{Event}
use Rattle.role_node.specs.declared.event.NodeAgain.{NodeAgain}

-- the greatest place of the owner's stream at which a vote of the peer stands in the history
abbrev pub last_vote_at : List Event → ℕ → ℕ → Option ℕ
last_vote_at history owner peer = last_vote owner peer (packets history)

-- how many places there are up to a last vote
abbrev pub voted_to : Option ℕ → ℕ
voted_to None = 0
voted_to (Some place) = place + 1

-- the first place of the window of a peer with this last vote, and the first behind it: as many places on each side of
-- the vote as a stream has open
abbrev pub window_from : Option ℕ → ℕ
window_from last = voted_to last - (window + 1)

abbrev pub window_to : Option ℕ → ℕ
window_to last = voted_to last + window

pub record IsInWindow (last : Option ℕ) (place : ℕ) : Type 0 where
  pub from : window_from last ≤ place
  pub to : place < window_to last

-- what is sent of a kind
abbrev pub sent_of_kind : Kind → NodeAgain → Option Command
sent_of_kind Send sent = sent.send
sent_of_kind Echo sent = sent.echo
sent_of_kind Ready sent = sent.ready

-- the messages that a node has sent to all at a place, by what it has sent there
abbrev pub messages_of : ℕ → ℕ → NodeAgain → List Message
messages_of owner place sent =
    filter_map
    (λ kind. option_map (λ command. record { kind = kind; owner = owner; place = place; command = command })
    (sent_of_kind kind sent))
    (Send ∷ Echo ∷ Ready ∷ [])

-- what the node has sent to all from a place of the owner's stream on, at so many places
abbrev pub sent_from : Counts → ℕ → List Event → ℕ → ℕ → ℕ → List Message
sent_from s me history owner place count =
    flat_map (λ at. messages_of owner at (sent_at s me history owner at)) (range_with_len place count)

-- all that the node sends again to the peer about the owner's stream
abbrev pub window_messages : Counts → ℕ → List Event → ℕ → ℕ → List Message
window_messages s me history owner peer =
    let last = last_vote_at history owner peer in
    sent_from s me history owner (window_from last) (window_to last - window_from last)

abbrev pub is_nothing : NodeAgain → Bool
is_nothing sent = is_none sent.send && (is_none sent.echo && is_none sent.ready)

-- the node has sent nothing at the places that are open in the owner's stream
abbrev pub has_nothing_open : Counts → ℕ → List Event → ℕ → Bool
has_nothing_open s me history owner =
    list_all (λ at. is_nothing (sent_at s me history owner at))
    (range_with_len (reach_at s history owner) window)

-- The peer is owed nothing about the owner's stream: it has voted as far as the stream reaches here, and the node has
-- sent nothing from there on.
abbrev pub is_settled : Counts → ℕ → List Event → ℕ → ℕ → Bool
is_settled s me history owner peer =
    nat_le (reach_at s history owner) (voted_to (last_vote_at history owner peer))
    && has_nothing_open s me history owner
