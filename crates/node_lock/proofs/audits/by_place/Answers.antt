use Rattle.std.proofs.Common.{List, sym, ap, ◌∙◌, subst, rules}
use Rattle.std.specs.Borrow.{Bor}
use Rattle.std.proofs.lemmas.List.{take_all}
use Rattle.std.proofs.lemmas.List.Sorted.{IsNonDecreasingBy-from_sort_by_key}
use Rattle.node_lock.specs.inside.Walks.{receipts_of, IsRest}
use Rattle.node_lock.specs.declared.receipt.Receipt.{Receipt}
use Rattle.node_lock.proofs.Keys.{Key, behind, rest_of_keys}
use Rattle.node_lock.proofs.audits.by_place.Goals as goal

pub returns : goal.returns
returns c =
    let keys = c.as_slice-key-items.result.now in
    let all = c.loop-receipt.invariant.all
    ∙ take_all c.loop-receipt.receipt-index c.args.receipts.now c.loop-receipt-test.false in
    let P : List (Bor Receipt) → Type 0 = λ bs. IsRest c.args.receipts.now 0 (receipts_of bs) in
    let K : List Key → Type 0 = λ ks. IsRest c.args.receipts.now 0 (receipts_of (behind ks)) in
    subst P (sym (c.loop-key.invariant ∙ ap behind (take_all c.loop-key.key-index keys c.loop-key-test.false)))
    (subst K (sym c.as_slice-key-items.ensures.value)
    (rest_of_keys c.args.receipts.now c.loop-receipt.keys.items c.sort_unstable_by_key.new.self.items all
    c.loop-receipt.invariant.keyed c.sort_unstable_by_key.ensures.permutation
    (IsNonDecreasingBy-from_sort_by_key (λ (k : Key). k.0) _ c.sort_unstable_by_key.ensures.sorted
    (λ a r q k. search rules))))
