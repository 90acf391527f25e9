use Rattle.std.proofs.Common.{◌≡◌, sym, ap, ◌∙◌, subst}
use Rattle.std.specs.Prelude.{Some, Option, IsTrue, ◌↔◌}
use Rattle.node_lock.specs.inside.Walks.{event_in, IsNext, IsTrueHere}
use Rattle.node_lock.specs.declared.audits.EntryParts.{EntryParts}
use Rattle.node_lock.proofs.DueOutcomes.{of_entry, of_another}
use Rattle.node_lock.proofs.audits.is_true.Goals.{in_default-via-in-Some+else-is_of, in_default-via-in_default}
use Rattle.node_lock.proofs.audits.is_true.Goals as goal

pub returns-in-Some-clause-is : goal.returns-in-Some-clause-is
returns-in-Some-clause-is c =
    let same : c.in-Some.entry.event ≡ c.in-Step.event = c.is_of.ensures.0 c.if-is_of.true in
    let P : Option EntryParts → Type 0 = λ e.
    IsTrue c.is_reply.result ↔ IsTrueHere c.args.replay.now (event_in e) c.args.receipt.now in
    subst P (sym c.in-Some.is)
    (of_entry c.args.replay.now c.in-Some.entry c.args.receipt.now c.in-Step.event c.is_reply.result
    c.in-Step.is same (subst (IsNext c.args.replay.now) c.in-Some.is c.requires)
    c.is_reply.ensures)

pub returns-in_default-clause-is : goal.returns-in_default-clause-is
returns-in_default-clause-is c =
    let other : event_in c.args.entry.now ≡ Some c.in-Step.event → ⊥ = λ e. elim c.in_default.branch [
      | in_default-via-in-Some+else-is_of w ↦
          let at : Some w.in-Some.entry.event ≡ Some c.in-Step.event = ap event_in (sym w.in-Some.is) ∙ e in
          let same : w.in-Some.entry.event ≡ c.in-Step.event = cc in
          let yes : IsTrue w.is_of.result = w.is_of.ensures.1 same in
          let f = w.if-is_of.false in
          absurd cc
      | in_default-via-in_default w ↦ let none = ap event_in (sym w.in_default.is) ∙ e in absurd cc
    ] in
    of_another c.args.replay.now (event_in c.args.entry.now) c.args.receipt.now c.in-Step.event
    c.is_unrecorded.result c.in-Step.is other c.is_unrecorded.ensures
