use Rattle.std.proofs.Common.{◌≡◌, ◌<◌, List, length, get_or, sym, subst, ap, ◌∙◌, arith}
use Rattle.std.specs.Prelude.{All}
use Rattle.std.specs.Borrow.{Bor}
use Rattle.std.proofs.lemmas.List.{length-map}
use Rattle.node_lock.specs.inside.Walks.{receipts_of}
use Rattle.node_lock.specs.declared.receipt.Receipt.{Receipt}
use Rattle.node_lock.proofs.Places.{above_from, drop_receipts, all_more, now_at}
use Rattle.node_lock.proofs.audits.split_at_place.Goals.{else-loop-receipt-test}
use Rattle.node_lock.proofs.audits.split_at_place.Goals.{then-loop-receipt-test+then-receipt-place}
use Rattle.node_lock.proofs.audits.split_at_place.Goals as goal

pub loop-receipt-preserved : goal.loop-receipt-preserved
loop-receipt-preserved c = record {
  count = omega arith;
  here =
      all_more (λ (r : Receipt). r.place ≡ c.args.place) c.args.rest.now c.loop-receipt.receipt-index
      c.receipt-item.result c.loop-receipt-test.true c.receipt-item.is c.loop-receipt.invariant.here
      c.if-receipt-place.false;
}

pub returns-clause-later : goal.returns-clause-later
returns-clause-later c =
    let P : List Receipt → Type 0 = λ rs. All (λ (r : Receipt). c.args.place < r.place) rs in
    let back = ap receipts_of c.split_at.ensures.back ∙ drop_receipts c.loop-receipt.count c.args.rest.now in
    let len : length (receipts_of c.args.rest.now) ≡ length c.args.rest.now =
    length-map c.args.rest.now (λ (b : Bor Receipt). b.now) in
    let end : c.loop-receipt.count ≡ c.loop-receipt.receipt-index = c.loop-receipt.invariant.count in
    subst P (sym back)
    (above_from (receipts_of c.args.rest.now) c.args.place c.loop-receipt.count c.requires.ordered c.requires.low
    (λ d inside e. elim c.loop-receipt-test.branch [
      | else-loop-receipt-test w ↦ let past = w.loop-receipt-test.false in absurd (omega arith)
      | then-loop-receipt-test+then-receipt-place w ↦
          let at = now_at c.args.rest.now c.loop-receipt.receipt-index w.receipt-item.result d
          w.loop-receipt-test.true w.receipt-item.is in
          let here : (get_or (receipts_of c.args.rest.now) c.loop-receipt.receipt-index d).place ≡ c.args.place =
          ap (λ n. (get_or (receipts_of c.args.rest.now) n d).place) (sym end) ∙ e in
          w.if-receipt-place.true (ap (λ (r : Receipt). r.place) (sym at) ∙ here)
    ]))
