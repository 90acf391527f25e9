-- A cluster at rest.
use Rattle.std.specs.Prelude.{Contains}
use Rattle.quorum_sizes.specs.NodeSets.{Nodes}
use Rattle.link_frames.specs.frames.Packets.{PacketValue}
use Rattle.role_node.specs.Configs.{ConfigValue}
use Rattle.role_node.specs.Histories.{packets}
use Rattle.byz_world.specs.Runs.{Run, history_of, IsCorrect}
use Rattle.byz_world.specs.Pools.{pool}

-- each packet of the pool to a correct node was taken there, counted or idle: an idle packet of a correct node repeats
-- one that counted, so it stands in the receiver's history
abbrev pub IsAtRest : ConfigValue → Nodes → Run → Type 0
IsAtRest config liars run =
    (p : PacketValue) → Contains (pool config run) p → IsCorrect config liars p.to →
    Contains (packets (history_of p.to run)) p
