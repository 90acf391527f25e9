-- Whether a cluster is at rest, as a test. `rests_is_rest` says that the test is true where the cluster is at rest.
use Rattle.std.specs.Prelude.{◌==◌, Bool, not, ◌&&◌, ◌||◌, ◌↔◌, IsTrue}
use Rattle.std.specs.List.{list_all, list_any}
use Rattle.link_frames.specs.frames.Kinds.{same_kind}
use Rattle.link_frames.specs.frames.Packets.{PacketValue}
use Rattle.role_commands.specs.Same.{same_command}
use Rattle.role_node.specs.Histories.{packets}
use Rattle.byz_world.specs.Runs.{history_of}
use Rattle.byz_world.specs.Pools.{pool}
use Rattle.byz_world.specs.Resting.{IsAtRest}
use Rattle.byz_world.specs.Worlds.{WorldValue, is_correct_in}

abbrev pub same_packet : PacketValue → PacketValue → Bool
same_packet p q =
    (p.from == q.from) && (p.to == q.to) && same_kind p.kind q.kind && (p.owner == q.owner) && (p.place == q.place)
    && same_command p.command q.command

-- the packet was taken by its receiver
abbrev pub was_taken : WorldValue → PacketValue → Bool
was_taken w p = list_any (same_packet p) (packets (history_of p.to w.run))

-- each packet of the pool to a correct node was
unfoldable pub rests : WorldValue → Bool
rests w = list_all (λ p. not (is_correct_in w p.to) || was_taken w p) (pool w.config w.run)

abbrev pub RestsIsRest : Type 0
RestsIsRest = (w : WorldValue) → IsTrue (rests w) ↔ IsAtRest w.config w.liars w.run
