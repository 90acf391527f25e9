use Rattle.std.proofs.Common.{◌+◌, take, refl, sym, ◌∙◌, subst}
use Rattle.std.specs.Prelude.{All, IsTrue}
use Rattle.role_node.specs.Nodes.{NodeValue}
use Rattle.node_lock.specs.inside.Walks.{receipts_of, event_in, IsTrueHere}
use Rattle.node_lock.proofs.Places.{all_more, all_taken, not_all}
use Rattle.node_lock.proofs.audits.are_true.Goals as goal

pub returns-then-not-branch-clause-all : goal.returns-then-not-branch-clause-all
returns-then-not-branch-clause-all c =
    let P : NodeValue → Type 0 = λ node. All (IsTrueHere node (event_in c.args.entry.now))
    (receipts_of c.args.here.now) in
    let yes : IsTrueHere c.loop-receipt.replay (event_in c.args.entry.now) c.receipt-item.result.now →
    IsTrue c.in_ok-is_true.field-0 =
    c.in_ok-is_true.ensures.is.1 in (
      (λ h. absurd cc),
      (λ h. absurd
          (not_all (IsTrueHere c.loop-receipt.replay (event_in c.args.entry.now)) c.args.here.now
          c.loop-receipt.receipt-index
          c.receipt-item.result c.loop-receipt-test.true c.receipt-item.is
          (λ here. let t = yes here in let f = c.if-not-branch.true in absurd cc)
          (subst P (sym c.loop-receipt.invariant.same) h))),
    )

pub loop-receipt-preserved : goal.loop-receipt-preserved
loop-receipt-preserved c =
    let P : NodeValue → Type 0 = λ node. All (IsTrueHere node (event_in c.args.entry.now))
    (receipts_of (take (c.loop-receipt.receipt-index + 1) c.args.here.now)) in
    let here : IsTrueHere c.loop-receipt.replay (event_in c.args.entry.now) c.receipt-item.result.now =
    c.in_ok-is_true.ensures.is.0 c.if-not-branch.false in
    record {
      same = c.in_ok-is_true.ensures.same ∙ c.loop-receipt.invariant.same;
      all = subst P (sym c.in_ok-is_true.ensures.same)
          (all_more (IsTrueHere c.loop-receipt.replay (event_in c.args.entry.now)) c.args.here.now
          c.loop-receipt.receipt-index
          c.receipt-item.result c.loop-receipt-test.true c.receipt-item.is c.loop-receipt.invariant.all here);
    }

pub returns-clause-all : goal.returns-clause-all
returns-clause-all c =
    let P : NodeValue → Type 0 = λ node. All (IsTrueHere node (event_in c.args.entry.now))
    (receipts_of c.args.here.now) in
    let all =
    all_taken (IsTrueHere c.loop-receipt.replay (event_in c.args.entry.now)) c.args.here.now
    c.loop-receipt.receipt-index
    c.loop-receipt-test.false c.loop-receipt.invariant.all in
    ((λ h. subst P c.loop-receipt.invariant.same all), (λ h. refl))
