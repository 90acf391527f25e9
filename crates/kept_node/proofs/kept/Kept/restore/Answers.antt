use Rattle.std.specs.Vec.{vec_capacity}
use Rattle.kept_node.proofs.KeptLemmas.{kept_survives}
use Rattle.kept_node.proofs.kept.Kept.restore.Goals as goal

pub returns-in-Ok-clause-crash : goal.returns-in-Ok-clause-crash
returns-in-Ok-clause-crash g c =
    kept_survives g.D.Disk.may_leave g.D.Disk.is_clean c.replay_journal.new.locked c.in-Ok.journal
    c.in-Ok.waiting.items (vec_capacity c.in-Ok.waiting) c.in-Ok.count c.in-Ok.count c.in-Ok.ensures.kept
