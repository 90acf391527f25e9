use Rattle.std.proofs.Common.{sym, subst}
use Rattle.std.specs.Vec.{vec_capacity}
use Rattle.node_lock.specs.Holds.{Held}
use Rattle.kept_node.specs.Keeping.{Survives}
use Rattle.kept_node.proofs.KeptLemmas.{kept_survives}
use Rattle.kept_node.proofs.kept.Kept.note.Goals as goal

pub returns-clause-crash : goal.returns-clause-crash
returns-clause-crash g c =
    subst (λ (h : Held). Survives {D = g.row.D.Denot} g.D.Disk.may_leave g.D.Disk.is_clean (record {
      held = h;
      disk = c.self.inside.journal.disk;
      key = c.self.inside.journal.key;
      synced = c.self.inside.synced;
      broken = c.self.inside.journal.broken;
    })) (sym c.note.ensures.same)
    (kept_survives g.D.Disk.may_leave g.D.Disk.is_clean c.self.inside.locked c.self.inside.journal
    c.self.inside.waiting.items (vec_capacity c.self.inside.waiting) c.self.inside.recorded c.self.inside.synced
    c.self.invariant)
