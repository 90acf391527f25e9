-- What a node sends again, read from what is behind its lock.
use Rattle.std.specs.Prelude.{◌≡◌, ℕ, ◌-◌, ◌==◌, ◌⊎◌, max, Bool, if◌then◌else◌, List, [], ◌++◌, length, None}
use Rattle.link_frames.specs.declared.frames.packet.Message.{Message}
use Rattle.owner_streams.specs.Places.{window}
use Rattle.role_node.specs.Access.{reach_at, sent_at}
use Rattle.role_node.specs.Windows.{last_vote_at, voted_to, window_from, window_to}
use Rattle.role_node.specs.Windows.{messages_of, sent_from, window_messages, is_settled}
use Rattle.role_node.specs.declared.event.NodeAgain.{NodeAgain}
use Rattle.node_lock.specs.Holds.{Held, Fits, IsMisfit, seat_after_question}
use Rattle.node_lock.specs.Seats.{Sitting}
use Rattle.node_lock.specs.declared.locked.StepFault.{StepFault}
use Rattle.node_lock.specs.declared.locked.StepFault.TheVariants.{Behind, Strange, Memory}
use Rattle.peer_windows.specs.declared.seen.Level.{Level}
use Rattle.peer_windows.specs.declared.stream_look.StreamLook.{StreamLook}

-- how far the owner's stream reaches
abbrev pub reach_of : Held → ℕ → ℕ
reach_of h owner = reach_at h.node.config.roles.sizes h.node.history owner

-- what the node has sent to all at a place, and from one on and before another
abbrev pub sent_there : Held → ℕ → ℕ → NodeAgain
sent_there h owner place = sent_at h.node.config.roles.sizes h.node.me h.node.history owner place

abbrev pub sent_between : Held → ℕ → ℕ → ℕ → List Message
sent_between h owner from to =
    sent_from h.node.config.roles.sizes h.node.me h.node.history owner from (to - from)

-- how many messages it has sent at the places that are open
abbrev pub outstanding_of : Held → ℕ → ℕ
outstanding_of h owner =
    length (sent_from h.node.config.roles.sizes h.node.me h.node.history owner (reach_of h owner) window)

-- of what was sent the READY alone
abbrev pub ready_alone : NodeAgain → NodeAgain
ready_alone sent = record { send = None; echo = None; ready = sent.ready }

-- the READY at the last place that a stream of this reach goes beyond
abbrev pub probe_at : Held → ℕ → ℕ → List Message
probe_at h owner reach =
    if reach == 0 then [] else messages_of owner (reach - 1) (ready_alone (sent_there h owner (reach - 1)))

-- the READY at the last place that the owner's stream reaches beyond
abbrev pub probe_of : Held → ℕ → List Message
probe_of h owner = probe_at h owner (reach_of h owner)

-- that, and what was sent at the end of the stream
abbrev pub tail_at : Held → ℕ → ℕ → List Message
tail_at h owner reach = probe_at h owner reach ++ messages_of owner reach (sent_there h owner reach)

abbrev pub tail_of : Held → ℕ → List Message
tail_of h owner = tail_at h owner (reach_of h owner)

-- what was sent in the peer's window
abbrev pub window_of : Held → ℕ → ℕ → List Message
window_of h owner peer = window_messages h.node.config.roles.sizes h.node.me h.node.history owner peer

-- what was sent there from a place on
abbrev pub rest_of : Held → ℕ → ℕ → ℕ → List Message
rest_of h owner peer from =
    let last = last_vote_at h.node.history owner peer in
    sent_between h owner (max from (window_from last)) (window_to last)

-- how far the owner's stream reaches, and how far the peer has voted in it
abbrev pub level_at : Held → ℕ → ℕ → Level
level_at h owner peer =
    record { reach = reach_of h owner; voted = voted_to (last_vote_at h.node.history owner peer) }

-- the peer is owed nothing about the owner's stream
abbrev pub is_settled_at : Held → ℕ → ℕ → Bool
is_settled_at h owner peer = is_settled h.node.config.roles.sizes h.node.me h.node.history owner peer

-- the fault of reading: the seat does not fit, and last memory is wanting
abbrev pub IsReadFault : Held → Sitting → StepFault → Type 0
IsReadFault h s (Behind seen found) = IsMisfit h s (Behind seen found)
IsReadFault h s (Strange recorded found) = IsMisfit h s (Strange recorded found)
IsReadFault h s Memory = Fits h s

-- the seat after a reading: as it was, or it fitted and has seen the history
pub record IsSeatAfter (h : Held) (old new : Sitting) : Type 0 where
  pub seat : (new ≡ old) ⊎ (Fits h old × (new ≡ seat_after_question h old))

-- what a look at the owner's stream shows
pub record IsLookAt (h : Held) (owner : ℕ) (look : StreamLook) : Type 0 where
  pub reach : look.reach ≡ reach_of h owner
  pub outstanding : look.outstanding ≡ outstanding_of h owner
