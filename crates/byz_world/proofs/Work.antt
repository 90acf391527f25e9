-- How much a node of a run records about a place: its history is legal, and each SEND in it is its owner's.
use Rattle.std.proofs.Common.{ℕ, ◌≤◌, List, length, get_or}
use Rattle.std.specs.Prelude.{All}
use Rattle.std.proofs.lemmas.Option.{slice_get-get_or}
use Rattle.quorum_sizes.specs.NodeSets.{Nodes}
use Rattle.link_frames.specs.frames.Packets.{PacketValue, IsSound}
use Rattle.role_node.proofs.Exported as role_node
use Rattle.role_node.specs.Configs.{ConfigValue}
use Rattle.role_node.specs.Histories.{packets}
use Rattle.role_node.specs.Work.{most_at_place}
use Rattle.byz_world.specs.Runs.{Run, history_of, IsClusterRun}
use Rattle.byz_world.proofs.Elements.{contained}
use Rattle.byz_world.proofs.Histories.{taken_by, taken_in_run}

-- each packet that a node of a run took is sound
taken_are_sound : (config : ConfigValue) (liars : Nodes) (run : Run) (node : ℕ) → IsClusterRun config liars run →
    All IsSound (packets (history_of node run))
taken_are_sound config liars run node cluster k d within =
    let taken : List PacketValue = packets (history_of node run) in
    let p : PacketValue = get_or taken k d in
    let from = taken_in_run run node p (contained taken k p (slice_get-get_or taken k d within)) in
    cluster.sound from.0 node p from.2

pub few_at_place : (config : ConfigValue) (liars : Nodes) (run : Run) (node owner place : ℕ) →
    IsClusterRun config liars run → length (taken_by run node owner place) ≤ most_at_place config.roles.sizes
few_at_place config liars run node owner place cluster =
    role_node.few_at_place config node (history_of node run) owner place (cluster.legal node)
    (λ k d within. (taken_are_sound config liars run node cluster k d within).0)
