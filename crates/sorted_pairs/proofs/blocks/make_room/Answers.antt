use Rattle.std.proofs.Common.{arith}
use Rattle.sorted_pairs.proofs.blocks.make_room.Goals as goal

pub returns-in_err-begin-clause-more : goal.returns-in_err-begin-clause-more
returns-in_err-begin-clause-more g c room le are =
    c.begin.ensures.blocks room (omega (arith, c.requires.few)) are

pub returns-clause-more : goal.returns-clause-more
returns-clause-more g c room le are =
    c.split_long.ensures.more room le (c.begin.ensures.blocks room (omega (arith, c.requires.few)) are)
