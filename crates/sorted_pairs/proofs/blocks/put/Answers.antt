use Rattle.std.proofs.Common.{arith}
use Rattle.sorted_pairs.proofs.PlaceLemmas.{block_ascends, ascends_put, members_put, are_blocks_put}
use Rattle.sorted_pairs.proofs.blocks.put.Goals as goal

pub put-requires-clause-ascending : goal.put-requires-clause-ascending
put-requires-clause-ascending g c =
    block_ascends (λ b. b.items) c.args.blocks.now.items c.place_of-place.result c.index_mut.result.now
    c.index_mut.ensures.value (rw (c.deref.ensures.value) at (c.place_of-place.ensures.within
    (rw (c.deref.ensures.value) (c.requires.room.some (omega arith))))) g.T.Ord.cmp c.requires.ascending

pub returns-clause-ascending : goal.returns-clause-ascending
returns-clause-ascending g c =
    ascends_put (λ b. b.items) c.args.blocks.now.items c.place_of-place.result c.index_mut.result.now
    c.index_mut.ensures.value (rw (c.deref.ensures.value) at (c.place_of-place.ensures.within
    (rw (c.deref.ensures.value) (c.requires.room.some (omega arith))))) g.met.T.Ord.total c.args.item
    (rw (c.deref.ensures.value) at c.place_of-place.ensures.below)
    (rw (c.deref.ensures.value) at c.place_of-place.ensures.above)
    c.put.new.items c.requires.ascending c.put.ensures.ascending c.put.ensures.members

pub returns-clause-members : goal.returns-clause-members
returns-clause-members g c q =
    members_put (λ b. b.items) c.args.blocks.now.items c.place_of-place.result c.index_mut.result.now
    c.index_mut.ensures.value (rw (c.deref.ensures.value) at (c.place_of-place.ensures.within
    (rw (c.deref.ensures.value) (c.requires.room.some (omega arith))))) g.met.T.Ord.total c.args.item
    (rw (c.deref.ensures.value) at c.place_of-place.ensures.below)
    (rw (c.deref.ensures.value) at c.place_of-place.ensures.above)
    c.put.new.items q (c.put.ensures.members q)

pub returns-clause-room : goal.returns-clause-room
returns-clause-room g c =
    are_blocks_put c.args.blocks.now.items c.place_of-place.result c.index_mut.result.now c.put.new.items
    c.index_mut.ensures.value (rw (c.deref.ensures.value) at (c.place_of-place.ensures.within
    (rw (c.deref.ensures.value) (c.requires.room.some (omega arith))))) c.put.ensures.capacity c.put.ensures.grows
    c.put.ensures.by_one
