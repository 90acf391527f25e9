use Rattle.std.proofs.Common.{◌≡◌, filter, sym, ap, ◌∙◌, arith}
use Rattle.std.specs.Ordering.{eq_by_cmp, nat_cmp}
use Rattle.std.proofs.lemmas.Cmp.{nat_cmp_total}
use Rattle.sorted_pairs.specs.Blocks.{items_in}
use Rattle.sorted_pairs.proofs.KeyRangeLemmas.{one_block, picked_same, picked_ascend}
use Rattle.sorted_pairs.proofs.key_range.KeyRange.find.Goals as goal

pub returns-in-len1 : goal.returns-in-len1
returns-in-len1 g c =
    let o = nat_cmp_total in
    let first = c.args.first in
    let found = c.beginning_with.result.now in
    let range = items_in c.blocks_of.result.now in
    let is : found ≡ filter (λ p. eq_by_cmp nat_cmp first p.0) range =
    c.beginning_with.ensures ∙ ap (filter (λ p. eq_by_cmp nat_cmp first p.0)) (c.deref.ensures.value
    ∙ sym (one_block (λ b. b.items) c.blocks_of.result.now c.block-item.result (omega arith) (omega arith)
    c.block-item.is)) in
    record {
      same = picked_same nat_cmp o first (items_in c.args.blocks.now) range found is c.blocks_of.ensures.same;
      ascending =
          picked_ascend nat_cmp o first (items_in c.args.blocks.now) range found is c.blocks_of.ensures.same
          c.blocks_of.ensures.ascending;
      filled = tt;
    }
