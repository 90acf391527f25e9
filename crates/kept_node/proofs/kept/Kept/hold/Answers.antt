use Rattle.std.proofs.Common.{◌≡◌, ◌∙◌, ◌+◌, ◌≤◌, ap, sym, subst, arith, false, length}
use Rattle.std.specs.Vec.{vec_capacity}
use Rattle.node_lock.specs.Holds.{Held, end_of}
use Rattle.node_lock.specs.declared.view.View.{View}
use Rattle.kept_node.specs.Keeping.{KeptValue, Survives, is_full}
use Rattle.kept_node.specs.inside.Fields.{IsKept}
use Rattle.kept_node.proofs.CallLemmas.{kept_held}
use Rattle.kept_node.proofs.KeptLemmas.{kept_survives}
use Rattle.kept_node.proofs.kept.Kept.hold.Goals as goal

pub returns-in_err-receipt-clause-crash : goal.returns-in_err-receipt-clause-crash
returns-in_err-receipt-clause-crash g c =
    subst (λ (h : Held). Survives {D = g.row.D.Denot} g.D.Disk.may_leave g.D.Disk.is_clean (record {
      held = h;
      disk = c.self.inside.journal.disk;
      key = c.self.inside.journal.key;
      synced = c.self.inside.synced;
      broken = c.self.inside.journal.broken;
    })) (sym c.in_err-receipt.ensures.same)
    (kept_survives g.D.Disk.may_leave g.D.Disk.is_clean c.self.inside.locked c.self.inside.journal
    c.self.inside.waiting.items (vec_capacity c.self.inside.waiting) c.self.inside.recorded c.self.inside.synced
    c.self.invariant)

pub invariant_of-self : goal.invariant_of-self
invariant_of-self g c =
    subst (λ (h : Held). IsKept {D = g.row.D.Denot} g.D.Disk.may_leave g.D.Disk.is_clean h c.self.inside.journal
    c.self.inside.waiting.items (vec_capacity c.self.inside.waiting) c.self.inside.recorded c.self.inside.synced)
    (sym c.in_err-receipt.ensures.same) c.self.invariant

pub invariant_of-self-2 : goal.invariant_of-self-2
invariant_of-self-2 g c =
    let room = subst (λ (k : KeptValue g.row.D.Denot). is_full k ≡ false) (sym c.self.view_is) c.requires.room in
    let at : c.from-at.result ≡ end_of c.hold.new.self = c.from-at.ensures
    ∙ ap (λ (v : View). v.at) c.in_ok-receipt.ensures.view in
    let few : length c.if_recorded.new.waiting.items ≤ length c.self.inside.waiting.items + 19 =
    omega (arith, c.if_recorded.ensures.few, c.if_recorded.new.waiting.ok.0, c.self.inside.waiting.ok.0) in
    kept_held g.D.Disk.may_leave g.D.Disk.is_clean c.self.inside.locked c.hold.new.self c.args.seat.now c.args.call
    c.event_of-event.result c.self.inside.journal c.self.inside.waiting.items c.if_recorded.new.waiting.items
    (vec_capacity c.self.inside.waiting) (vec_capacity c.if_recorded.new.waiting) c.self.inside.recorded
    c.from-at.result c.self.inside.synced c.self.invariant room c.in_ok-receipt.ensures.held c.event_of-event.ensures at
    c.if_recorded.ensures.digits c.if_recorded.ensures.fits c.if_recorded.ensures.same few
    c.if_recorded.ensures.capacity

pub returns-clause-crash : goal.returns-clause-crash
returns-clause-crash g c =
    kept_survives g.D.Disk.may_leave g.D.Disk.is_clean c.hold.new.self c.self.inside.journal
    c.if_recorded.new.waiting.items (vec_capacity c.if_recorded.new.waiting) c.from-at.result c.self.inside.synced
    (invariant_of-self-2 g c)
