-- How a cluster heals in which nodes send again what stands in the windows of their peers, whatever liars, clients and
-- other owners do meanwhile.
use Rattle.std.specs.Prelude.{◌≡◌, ℕ, suc, ◌+◌, ◌*◌, ◌<◌, ◌≤◌, ◌⊎◌, ◌++◌, Contains, Some}
use Rattle.quorum_sizes.specs.NodeSets.{Nodes}
use Rattle.link_frames.specs.frames.Packets.{PacketValue}
use Rattle.owner_streams.specs.Places.{window}
use Rattle.role_node.specs.Configs.{ConfigValue}
use Rattle.role_node.specs.Histories.{packets}
use Rattle.role_node.specs.Work.{most_at_place}
use Rattle.role_node.specs.Windows.{last_vote_at, IsInWindow}
use Rattle.byz_world.specs.Progress.{IsWanted, IsComplete}
use Rattle.byz_world.specs.Runs.{Run, history_of, reach_of, IsCorrect, IsClusterRun}

-- A vote of a correct node at a place, wherever it was taken, shows that its stream reaches above that place less what
-- a window has open.
abbrev pub VoteShowsReach : Type 0
VoteShowsReach =
    (config : ConfigValue) (liars : Nodes) (run : Run) (node owner voter place : ℕ) → IsClusterRun config liars run →
    IsCorrect config liars voter → last_vote_at (history_of node run) owner voter ≡ Some place →
    place < reach_of config run voter owner + window

-- the packet stands in its sender's window of its receiver, who lacks it: it would be recorded there now, room apart
pub record IsLacked (config : ConfigValue) (liars : Nodes) (run : Run) (p : PacketValue) : Type 0 where
  pub wanted : IsWanted config liars run p
  pub in_window : IsInWindow (last_vote_at (history_of p.from run) p.owner p.to) p.place

-- no packet of a window about the owner's places before this one is lacked
abbrev pub IsHealed : ConfigValue → Nodes → Run → ℕ → ℕ → Type 0
IsHealed config liars run owner places =
    (p : PacketValue) → IsLacked config liars run p → p.owner ≡ owner → p.place < places → ⊥

-- Where no packet of a window about an owner's first places is lacked, these are one list at all correct nodes, and of
-- a correct owner what it issued.
abbrev pub WindowsSuffice : Type 0
WindowsSuffice =
    (config : ConfigValue) (liars : Nodes) (run : Run) (owner places : ℕ) → IsClusterRun config liars run →
    IsHealed config liars run owner places → IsComplete config liars run owner places

-- an owner's first places are complete, or a packet of a window about them is lacked
abbrev pub IsCompleteOrLacked : Type 0
IsCompleteOrLacked =
    (config : ConfigValue) (liars : Nodes) (run : Run) (owner places : ℕ) → IsClusterRun config liars run →
    IsComplete config liars run owner places
    ⊎ ((p : PacketValue) × IsLacked config liars run p × (p.owner ≡ owner) × (p.place < places))

-- Moments of a run, one after another, between which anything may happen: but between each and the next, of the packets
-- of windows about the owner's first places that were lacked at the first, one is recorded, if there was any.
pub record IsHealing (config : ConfigValue) (liars : Nodes) (moments : ℕ → Run) (owner places : ℕ) : Type 0 where
  pub runs : (k : ℕ) → IsClusterRun config liars (moments k)
  pub goes_on : (k : ℕ) → (more : Run) × (moments (suc k) ≡ moments k ++ more)
  pub given : (k : ℕ) → IsHealed config liars (moments k) owner places
      ⊎ ((p : PacketValue) × IsLacked config liars (moments k) p × (p.owner ≡ owner) × (p.place < places)
      × Contains (packets (history_of p.to (moments (suc k)))) p)

-- So they are complete at one of the first moments, of which there are no more than packets about these places can be
-- recorded.
abbrev pub WindowsHeal : Type 0
WindowsHeal =
    (config : ConfigValue) (liars : Nodes) (moments : ℕ → Run) (owner places : ℕ) →
    IsHealing config liars moments owner places →
    (k : ℕ) × (k ≤ config.roles.sizes.nodes * (places * most_at_place config.roles.sizes))
    × IsComplete config liars (moments k) owner places
