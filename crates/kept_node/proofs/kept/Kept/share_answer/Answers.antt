use Rattle.std.proofs.Common.{subst}
use Rattle.std.specs.Vec.{vec_capacity}
use Rattle.kept_node.specs.Keeping.{KeptValue, Survives}
use Rattle.kept_node.proofs.KeptLemmas.{kept_survives}
use Rattle.kept_node.proofs.kept.Kept.share_answer.Goals as goal

pub returns-clause-crash : goal.returns-clause-crash
returns-clause-crash g c =
    subst (λ (k : KeptValue g.row.D.Denot). Survives g.D.Disk.may_leave g.D.Disk.is_clean k) c.self.view_is
    (kept_survives g.D.Disk.may_leave g.D.Disk.is_clean c.self.inside.locked c.self.inside.journal
    c.self.inside.waiting.items (vec_capacity c.self.inside.waiting) c.self.inside.recorded c.self.inside.synced
    c.self.invariant)
