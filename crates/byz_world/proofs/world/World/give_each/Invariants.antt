use Rattle.byz_world.proofs.Passes.{HasGiven}
use Rattle.byz_world.proofs.world.World.give_each.Given as goal

abbrev pub invariant-loop-packet : goal.invariant-loop-packet
invariant-loop-packet l = HasGiven l.fn.self l.packet-end l.packet l.self
