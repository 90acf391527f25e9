use Rattle.std.proofs.Common.{◌∙◌, ap, subst, Err}
use Rattle.std.specs.Vec.{vec_capacity}
use Rattle.kept_node.specs.Keeping.{KeptValue, Survives}
use Rattle.kept_node.proofs.KeptLemmas.{kept_survives, kept_uncommitted, kept_committed}
use Rattle.kept_node.proofs.kept.Kept.sync.Goals as goal

pub invariant_of-self : goal.invariant_of-self
invariant_of-self g c =
    kept_uncommitted g.D.Disk.may_leave g.D.Disk.is_clean c.self.inside.locked c.self.inside.journal
    c.commit.new.journal c.self.inside.waiting.items (vec_capacity c.self.inside.waiting) c.self.inside.recorded
    c.self.inside.synced c.commit.new.waiting.items (vec_capacity c.commit.new.waiting) _ c.self.invariant
    c.commit.ensures.same c.in_err-commit.ensures.which
    (λ b. let e = c.commit.ensures.broken b in (e.1, e.2))
    (λ b d. let e = c.commit.ensures.device b (c.in_err-commit.was ∙ ap Err d) in (e.0, e.1, e.2))
    (λ f. let e = c.commit.ensures.full (c.in_err-commit.was ∙ ap Err f) in (e.0, e.1))
    c.commit.ensures.room c.commit.ensures.capacity c.commit.ensures.crash

pub returns-in_err-commit-clause-crash : goal.returns-in_err-commit-clause-crash
returns-in_err-commit-clause-crash g c =
    kept_survives g.D.Disk.may_leave g.D.Disk.is_clean c.self.inside.locked c.commit.new.journal
    c.commit.new.waiting.items (vec_capacity c.commit.new.waiting) c.self.inside.recorded c.self.inside.synced
    (invariant_of-self g c)

pub invariant_of-self-2 : goal.invariant_of-self-2
invariant_of-self-2 g c =
    kept_committed g.D.Disk.may_leave g.D.Disk.is_clean c.self.inside.locked c.self.inside.journal
    c.commit.new.journal c.self.inside.waiting.items (vec_capacity c.self.inside.waiting) c.self.inside.recorded
    c.self.inside.synced c.commit.new.waiting.items (vec_capacity c.commit.new.waiting) c.self.invariant
    c.commit.ensures.same c.in_ok-commit.ensures.ok c.in_ok-commit.ensures.written c.commit.ensures.room
    c.commit.ensures.capacity c.commit.ensures.crash

pub returns-clause-crash : goal.returns-clause-crash
returns-clause-crash g c =
    kept_survives g.D.Disk.may_leave g.D.Disk.is_clean c.self.inside.locked c.commit.new.journal
    c.commit.new.waiting.items (vec_capacity c.commit.new.waiting) c.self.inside.recorded c.self.inside.recorded
    (invariant_of-self-2 g c)

pub returns-then-self-clause-crash : goal.returns-then-self-clause-crash
returns-then-self-clause-crash g c =
    subst (λ (k : KeptValue g.row.D.Denot). Survives g.D.Disk.may_leave g.D.Disk.is_clean k) c.self.view_is
    (kept_survives g.D.Disk.may_leave g.D.Disk.is_clean c.self.inside.locked c.self.inside.journal
    c.self.inside.waiting.items (vec_capacity c.self.inside.waiting) c.self.inside.recorded c.self.inside.synced
    c.self.invariant)
