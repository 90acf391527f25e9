use Rattle.std.proofs.Common.{◌≡◌}
use Rattle.std.specs.Prelude.{map}
use Rattle.std.specs.List.{range_with_len}
use Rattle.byz_world.specs.Worlds.{new_world, node_due}
use Rattle.byz_world.proofs.members.new_members.Given as goal

abbrev pub invariant-loop-index : goal.invariant-loop-index
invariant-loop-index l = l.members.items ≡ map (node_due (new_world l.config l.liars)) (range_with_len 0 l.index)
