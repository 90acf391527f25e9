use Rattle.std.proofs.Common.{arith}
use Rattle.peer_windows.proofs.Times.{least_le}
use Rattle.peer_windows.proofs.pairs.least.Goals as goal

pub loop-time-init : goal.loop-time-init
loop-time-init c = record { within = omega arith; rest = omega (arith, least_le c.args.times.now) }
