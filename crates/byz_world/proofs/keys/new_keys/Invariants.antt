use Rattle.std.proofs.Common.{◌≡◌}
use Rattle.std.specs.Prelude.{map}
use Rattle.std.specs.List.{range_with_len}
use Rattle.byz_world.specs.LabKeys.{ring_due}
use Rattle.byz_world.proofs.keys.new_keys.Given as goal

abbrev pub invariant-loop-index : goal.invariant-loop-index
invariant-loop-index l = l.keys.items ≡ map (ring_due l.sizes l.liars) (range_with_len 0 l.index)
