use Rattle.byz_world.proofs.Passes.{Passes}
use Rattle.byz_world.proofs.world.World.settle.Given as goal

abbrev pub invariant-loop-pass : goal.invariant-loop-pass
invariant-loop-pass l = Passes l.fn.self l._pass-end l._pass l.self
