use Rattle.std.proofs.Common.{◌∙◌}
use Rattle.node_lock.proofs.pool.Pool.run_with_seats.Goals as goal

pub close_with_all-requires : goal.close_with_all-requires
close_with_all-requires g c = c.in_ok-seats.ensures ∙ c.in_ok-shared.ensures.count ∙ c.requires.parts.1
