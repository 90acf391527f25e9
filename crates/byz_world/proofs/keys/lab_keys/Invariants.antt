use Rattle.std.proofs.Common.{◌≡◌}
use Rattle.std.specs.Prelude.{map}
use Rattle.std.specs.List.{range_with_len}
use Rattle.byz_world.specs.LabKeys.{lab_key}
use Rattle.byz_world.proofs.keys.lab_keys.Given as goal

abbrev pub invariant-loop-index : goal.invariant-loop-index
invariant-loop-index l = l.keys.items ≡ map (lab_key l.me) (range_with_len 0 l.index)
