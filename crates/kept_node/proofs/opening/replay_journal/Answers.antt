use Rattle.std.proofs.Common.{◌∙◌, ℕ, List, sym, subst}
use Rattle.std.specs.Vec.{vec_capacity}
use Rattle.kept_node.specs.Restoring.{IsReplayFault, IsIllegalFile}
use Rattle.kept_node.proofs.RestoreLemmas.{opened_left, opened_illegal, opened_stands, opened_kept}
use Rattle.kept_node.proofs.opening.replay_journal.Goals as goal

pub returns-in-Ok-replay_events-clause-stands : goal.returns-in-Ok-replay_events-clause-stands
returns-in-Ok-replay_events-clause-stands g c clean =
    opened_stands g.D.Disk.may_leave g.D.Disk.is_clean c.args.key.now (g.D.Disk.seen c.args.files.db)
    c.args.locked.now.node c.replay_events.new.locked.node c.in_ok-journal.journal c.in_ok-journal.digits.items
    c.in_ok-journal.ensures.opened clean c.replay_events.ensures.node
    (sym c.deref.ensures.value ∙ c.in-Ok-replay_events.ensures.digits) c.in-Ok-replay_events.ensures.each

pub returns-in-Ok-replay_events-clause-kept : goal.returns-in-Ok-replay_events-clause-kept
returns-in-Ok-replay_events-clause-kept g c =
    opened_kept g.D.Disk.may_leave g.D.Disk.is_clean c.args.key.now (g.D.Disk.seen c.args.files.db)
    c.args.locked.now.node c.replay_events.new.locked c.in_ok-journal.journal c.in_ok-journal.digits.items
    c.in-Ok.waiting.items (vec_capacity c.in-Ok.waiting) c.in-Ok-replay_events.count c.in_ok-journal.ensures.opened
    c.replay_events.ensures.node (sym c.deref.ensures.value ∙ c.in-Ok-replay_events.ensures.digits)
    c.in-Ok-replay_events.ensures.each c.in-Ok-replay_events.ensures.count c.replay_events.ensures.sizes
    c.in-Ok.ensures.items c.in-Ok.ensures.capacity

pub returns-in-Err-Illegal-clause-why : goal.returns-in-Err-Illegal-clause-why
returns-in-Err-Illegal-clause-why g c = (
  c.in_ok-journal.ensures.alone,
  λ clean.
      subst (λ (n : ℕ). IsIllegalFile c.args.key.now c.args.locked.now.node.config c.args.locked.now.node.me n
      (g.D.Disk.seen c.args.files.db)) (sym c.in-Err-Illegal.place-is)
      (opened_illegal g.D.Disk.may_leave g.D.Disk.is_clean c.args.key.now c.args.locked.now.node.config
      c.args.locked.now.node.me (g.D.Disk.seen c.args.files.db) c.in_ok-journal.journal c.in_ok-journal.digits.items
      c.in-Err-Illegal.place c.in_ok-journal.ensures.opened clean
      (subst (IsReplayFault c.args.locked.now.node.config c.args.locked.now.node.me c.in_ok-journal.digits.items)
      c.in-Err-Illegal.field-0-is (subst (λ (l : List ℕ). IsReplayFault c.args.locked.now.node.config
      c.args.locked.now.node.me l c.in-Err-Illegal.field-0) c.deref.ensures.value c.in-Err-Illegal.ensures.illegal))),
)

pub returns-in-Err-Illegal-clause-left : goal.returns-in-Err-Illegal-clause-left
returns-in-Err-Illegal-clause-left g c =
    opened_left g.D.Disk.may_leave g.D.Disk.is_clean c.args.key.now c.args.locked.now.node.config
    c.args.locked.now.node.me (g.D.Disk.seen c.args.files.db) (g.D.Disk.may_leave c.args.files.db)
    c.in_ok-journal.journal c.in_ok-journal.digits.items c.in_ok-journal.ensures.opened

pub returns-clause-left : goal.returns-clause-left
returns-clause-left g c =
    opened_left g.D.Disk.may_leave g.D.Disk.is_clean c.args.key.now c.args.locked.now.node.config
    c.args.locked.now.node.me (g.D.Disk.seen c.args.files.db) (g.D.Disk.may_leave c.args.files.db)
    c.in_ok-journal.journal c.in_ok-journal.digits.items c.in_ok-journal.ensures.opened
