use Rattle.std.proofs.Common.{sym, subst, arith}
use Rattle.sorted_pairs.specs.Blocks.{AreBlocks}
use Rattle.sorted_pairs.proofs.SplitLemmas.{roomy_short, roomy_split, same_room}
use Rattle.sorted_pairs.proofs.blocks.split_long.Goals as goal

pub loop-place-preserved-in-Continue-1 : goal.loop-place-preserved-in-Continue-1
loop-place-preserved-in-Continue-1 g c =
    roomy_split c.args.least c.loop-place.place c.args.blocks.now.items c.loop-place.blocks.items
    c.loop-place.invariant c.requires.blocks.roomy c.loop-place-test.true c.requires.few c.split.new.blocks.items
    c.index.result.now c.index.ensures (omega (arith, c.if-len-least.true, c.len.ensures)) c.in_ok-split.ensures.ok

pub loop-place-preserved : goal.loop-place-preserved
loop-place-preserved g c =
    roomy_short c.args.least c.loop-place.place c.args.blocks.now.items c.loop-place.blocks.items
    c.loop-place.invariant c.requires.blocks.roomy c.loop-place-test.true c.requires.few c.index.result.now
    c.index.ensures (omega (arith, c.if-len-least.false, c.len.ensures))

pub returns-in_err-split-clause-more : goal.returns-in_err-split-clause-more
returns-in_err-split-clause-more g c room le are =
    subst (AreBlocks room) (sym c.in_err-split.ensures.err)
    (same_room c.args.least c.loop-place.place room c.args.blocks.now.items c.loop-place.blocks.items
    c.loop-place.invariant le are)

pub returns-clause-more : goal.returns-clause-more
returns-clause-more g c room le are =
    same_room c.args.least c.loop-place.place room c.args.blocks.now.items c.loop-place.blocks.items
    c.loop-place.invariant le are
