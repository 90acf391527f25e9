use Rattle.std.proofs.Common.{refl, inl}
use Rattle.server_locks.proofs.WriteLemmas.{more_gone}
use Rattle.server_locks.proofs.outbox.write_all.Goals as goal

pub loop-since-preserved : goal.loop-since-preserved
loop-since-preserved g c = (
  more_gone _ _ _ _ _ _ c.in-Ok.field-0 c.loop-since.invariant.0 c.in-Ok.ensures.bytes.1 c.in-Ok.ensures.rest,
  inl refl,
)
