use Rattle.std.proofs.Common.{◌∙◌, not, ap, sym, subst, rules}
use Rattle.std.proofs.lemmas.Fn.{filter_same}
use Rattle.sorted_pairs.specs.Blocks.{AreBlocks, items_in, has_none}
use Rattle.sorted_pairs.proofs.PickLemmas.{same_filled, blocks_filled, same_first, blocks_first}
use Rattle.sorted_pairs.proofs.blocks.drop_empty.Goals as goal

pub returns-then-have_items-clause-same : goal.returns-then-have_items-clause-same
returns-then-have_items-clause-same g c =
    let kept = filter_same _ (λ b. not (has_none b.items)) _ (λ x b f' k. search rules) _ _ c.retain.ensures.filtered in
    ap items_in kept ∙ same_filled c.args.blocks.now.items

pub returns-then-have_items-clause-room : goal.returns-then-have_items-clause-room
returns-then-have_items-clause-room g c room roomy some =
    let any = ap (λ l. not (has_none (items_in l))) (sym c.deref.ensures.value) ∙ sym c.have_items.ensures
    ∙ c.if-have_items.true in
    let kept = filter_same _ (λ b. not (has_none b.items)) _ (λ x b f' k. search rules) _ _ c.retain.ensures.filtered in
    subst (AreBlocks room) (sym kept) (blocks_filled c.args.blocks.now.items room any roomy)

pub returns-else-have_items-clause-same : goal.returns-else-have_items-clause-same
returns-else-have_items-clause-same g c =
    let none = ap (λ l. not (has_none (items_in l))) (sym c.deref.ensures.value) ∙ sym c.have_items.ensures
    ∙ c.if-have_items.false in
    ap items_in c.truncate.ensures.items ∙ same_first c.args.blocks.now.items none

pub returns-else-have_items-clause-room : goal.returns-else-have_items-clause-room
returns-else-have_items-clause-room g c room roomy some =
    subst (AreBlocks room) (sym c.truncate.ensures.items) (blocks_first c.args.blocks.now.items room roomy some)
