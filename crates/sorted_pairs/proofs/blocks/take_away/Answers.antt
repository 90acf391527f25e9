use Rattle.std.proofs.Common.{sym, ap, ◌∙◌, subst, arith}
use Rattle.std.specs.List.Sorted.{IsStrictlySortedBy}
use Rattle.sorted_pairs.specs.Blocks.{items_in, AreBlocks}
use Rattle.sorted_pairs.specs.Lists.{is_among}
use Rattle.sorted_pairs.proofs.PlaceLemmas.{block_ascends, ascends_taken, members_taken, are_blocks_taken, same_tidied}
use Rattle.sorted_pairs.proofs.blocks.take_away.Goals as goal

pub take_away-requires : goal.take_away-requires
take_away-requires g c =
    block_ascends (λ b. b.items) c.args.blocks.now.items c.place_of-place.result c.index_mut.result.now
    c.index_mut.ensures.value (omega (arith, c.args.blocks.now.ok.0, c.len.ensures)) g.T.Ord.cmp c.requires.ascending

pub returns-then-place-len-clause-ascending : goal.returns-then-place-len-clause-ascending
returns-then-place-len-clause-ascending g c =
    subst (IsStrictlySortedBy g.T.Ord.cmp) (sym (ap items_in c.drop_if_empty.ensures ∙ same_tidied
    c.place_of-place.result _))
    (ascends_taken (λ b. b.items) c.args.blocks.now.items c.place_of-place.result c.index_mut.result.now
    c.index_mut.ensures.value (omega (arith, c.args.blocks.now.ok.0, c.len.ensures)) g.met.T.Ord.total c.args.item.now
    (rw (c.deref.ensures.value) at c.place_of-place.ensures.below)
    (rw (c.deref.ensures.value) at c.place_of-place.ensures.above)
    c.take_away.new.items c.requires.ascending c.take_away.ensures.ascending c.take_away.ensures.members)

pub returns-then-place-len-clause-members : goal.returns-then-place-len-clause-members
returns-then-place-len-clause-members g c q =
    ap (λ l. is_among g.T.Ord.cmp l q) (ap items_in c.drop_if_empty.ensures ∙ same_tidied c.place_of-place.result _)
    ∙ members_taken (λ b. b.items) c.args.blocks.now.items c.place_of-place.result c.index_mut.result.now
    c.index_mut.ensures.value (omega (arith, c.args.blocks.now.ok.0, c.len.ensures)) g.met.T.Ord.total c.args.item.now
    (rw (c.deref.ensures.value) at c.place_of-place.ensures.below)
    (rw (c.deref.ensures.value) at c.place_of-place.ensures.above)
    c.take_away.new.items q (c.take_away.ensures.members q)

pub returns-then-place-len-clause-room : goal.returns-then-place-len-clause-room
returns-then-place-len-clause-room g c room are =
    subst (AreBlocks room) (sym c.drop_if_empty.ensures)
    (are_blocks_taken c.args.blocks.now.items c.place_of-place.result c.index_mut.result.now c.take_away.new.items
    c.index_mut.ensures.value (omega (arith, c.args.blocks.now.ok.0, c.len.ensures)) c.take_away.ensures.capacity
    c.take_away.ensures.shrinks room are)
