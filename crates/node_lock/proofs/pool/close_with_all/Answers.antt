use Rattle.node_lock.proofs.pool.close_with_all.Goals as goal

pub unreachable-requires : goal.unreachable-requires
unreachable-requires g c = c.in_default.ensures.absent c.requires
