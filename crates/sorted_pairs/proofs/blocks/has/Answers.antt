use Rattle.std.proofs.Common.{subst, sym, ◌∙◌, ap}
use Rattle.std.specs.List.Sorted.{IsStrictlySortedBy}
use Rattle.sorted_pairs.specs.Lists.{is_among}
use Rattle.sorted_pairs.proofs.PlaceLemmas.{block_ascends, has_item}
use Rattle.sorted_pairs.proofs.blocks.has.Goals as goal

pub has-requires : goal.has-requires
has-requires g c =
    subst (IsStrictlySortedBy g.T.Ord.cmp) (sym c.deref.ensures.value)
    (block_ascends (λ b. b.items) c.args.blocks.now c.place_of-place.result c.index-blocks-place.result
    c.index-blocks-place.is c.if-place-blocks.true g.T.Ord.cmp c.requires.ascending)

pub returns-then-place-blocks : goal.returns-then-place-blocks
returns-then-place-blocks g c =
    c.has.ensures ∙ ap (λ l. is_among g.T.Ord.cmp l c.args.item.now) c.deref.ensures.value
    ∙ sym (has_item (λ b. b.items) c.args.blocks.now c.place_of-place.result c.index-blocks-place.result
    c.index-blocks-place.is c.if-place-blocks.true g.met.T.Ord.total c.args.item.now c.place_of-place.ensures.below
    c.place_of-place.ensures.above)
