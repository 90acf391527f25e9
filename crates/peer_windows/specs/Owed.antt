-- Messages that go to single peers.
use Rattle.std.specs.Prelude.{◌≡◌, ℕ, Bool, ◌||◌, nat_le, List, [], ◌∷◌, ◌++◌, length, All}
use Rattle.std.specs.List.{flat_map}
use Rattle.link_frames.specs.declared.frames.packet.Message.{Message}
use Rattle.node_lock.specs.Holds.{Held, IsMisfit}
use Rattle.node_lock.specs.Seats.{Sitting}
use Rattle.node_lock.specs.declared.locked.StepFault.{StepFault}
use Rattle.node_lock.specs.declared.locked.StepFault.TheVariants.{Behind, Strange, Memory}
use Rattle.peer_windows.specs.Sent.{probe_of, tail_of, window_of, rest_of}
use Rattle.peer_windows.specs.declared.seen.Step.{Step}
use Rattle.peer_windows.specs.declared.seen.Step.TheVariants.{Nothing, Probe, Tail, Window, Rest}
use Rattle.peer_windows.specs.declared.owed.Share.{Share}

-- what a step has the node send to a peer about an owner's stream
abbrev pub step_messages : Held → ℕ → ℕ → Step → List Message
step_messages h owner peer Nothing = []
step_messages h owner peer Probe = probe_of h owner
step_messages h owner peer Tail = tail_of h owner
step_messages h owner peer Window = window_of h owner peer
step_messages h owner peer (Rest from) = rest_of h owner peer from

abbrev pub share_messages : Held → Share → List Message
share_messages h share = step_messages h share.owner share.peer share.step

-- the messages of all shares, one share after the other
pub record OwedValue : Type 0 where
  pub messages : List Message
  pub shares : List Share

-- Some shares more stand behind the others, each with what its step has the node send, and counts that.
pub record IsGathered (h : Held) (old new : OwedValue) : Type 0 where
  pub added : List Share
  pub shares : new.shares ≡ old.shares ++ added
  pub messages : new.messages ≡ old.messages ++ flat_map (share_messages h) added
  pub counts : All (λ share. share.count ≡ length (share_messages h share)) added

-- the fault of gathering: the seat does not fit, or memory is wanting
abbrev pub IsGatherFault : Held → Sitting → StepFault → Type 0
IsGatherFault h s (Behind seen found) = IsMisfit h s (Behind seen found)
IsGatherFault h s (Strange recorded found) = IsMisfit h s (Strange recorded found)
IsGatherFault h s Memory = Unit {0}

-- one share more
pub record IsPushed (h : Held) (owner peer : ℕ) (step : Step) (count : ℕ) (old new : OwedValue) : Type 0 where
  pub counted : count ≡ length (step_messages h owner peer step)
  pub messages : new.messages ≡ old.messages ++ step_messages h owner peer step
  pub shares : new.shares ≡
      old.shares ++ record { owner = owner; peer = peer; step = step; count = count } ∷ []

-- no more are gathered at once where there are so many messages or shares
abbrev pub many_messages : ℕ
many_messages = 1024

abbrev pub is_full : OwedValue → Bool
is_full owed = nat_le many_messages (length owed.messages) || nat_le many_messages (length owed.shares)
