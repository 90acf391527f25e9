-- A cluster whose correct nodes are within their shares goes on, and needs no premise on room for it.
use Rattle.std.specs.Prelude.{◌≡◌, ℕ, ◌<◌, ◌⊎◌, [], ◌∷◌, ◌++◌}
use Rattle.quorum_sizes.specs.NodeSets.{Nodes}
use Rattle.link_frames.specs.frames.Packets.{PacketValue}
use Rattle.role_node.specs.Configs.{ConfigValue, most_events}
use Rattle.role_node.specs.declared.event.Event.TheVariants.{Take}
use Rattle.owner_shares.specs.Laws.{IsWithinShares}
use Rattle.owner_shares.specs.Shares.{share}
use Rattle.byz_world.specs.Progress.{IsWanted, IsComplete}
use Rattle.byz_world.specs.Runs.{Run, history_of, IsCorrect, IsClusterRun}

-- each correct node is within its shares
abbrev pub AreWithinShares : ConfigValue → Nodes → Run → Type 0
AreWithinShares config liars run =
    (node : ℕ) → IsCorrect config liars node → IsWithinShares config.roles node (history_of node run)

-- A run of nodes that may record the most events, and are within their shares.
pub record IsRunWithinShares (config : ConfigValue) (liars : Nodes) (run : Run) : Type 0 where
  pub cluster : IsClusterRun config liars run
  pub most : config.limit ≡ most_events
  pub within : AreWithinShares config liars run

-- What is wanted about a place below its owner's share is recorded when it is given: with it, the run is one of this
-- cluster still, and its nodes are within their shares.
abbrev pub SharesGoOn : Type 0
SharesGoOn =
    (config : ConfigValue) (liars : Nodes) (run : Run) (p : PacketValue) → IsRunWithinShares config liars run →
    IsWanted config liars run p → p.place < share config.roles p.owner →
    IsRunWithinShares config liars (run ++ (p.to, Take p) ∷ [])

-- a packet about the owner's share is wanted, and is recorded when it is given
pub record GoesOnByGiving (config : ConfigValue) (liars : Nodes) (run : Run) (owner : ℕ) : Type 0 where
  pub packet : PacketValue
  pub of_owner : packet.owner ≡ owner
  pub below : packet.place < share config.roles owner
  pub wanted : IsWanted config liars run packet
  pub recorded : IsRunWithinShares config liars (run ++ (packet.to, Take packet) ∷ [])

-- So the places of an owner's share are complete, or what lacks can be given.
abbrev pub OwnersGoOn : Type 0
OwnersGoOn =
    (config : ConfigValue) (liars : Nodes) (run : Run) (owner : ℕ) → IsRunWithinShares config liars run →
    IsComplete config liars run owner (share config.roles owner) ⊎ GoesOnByGiving config liars run owner
