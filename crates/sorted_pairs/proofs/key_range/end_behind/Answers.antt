use Rattle.std.proofs.Common.{arith}
use Rattle.std.specs.Ordering.{nat_cmp}
use Rattle.std.proofs.lemmas.Cmp.{nat_cmp_total}
use Rattle.sorted_pairs.proofs.KeyRangeLemmas.{above_end}
use Rattle.sorted_pairs.proofs.key_range.end_behind.Goals as goal

pub returns-clause-above : goal.returns-clause-above
returns-clause-above g c =
    above_end nat_cmp nat_cmp_total c.args.first (λ b. b.items) c.args.blocks.now
    c.requires.ascending c.requires.filled c.loop-end.behind
    (omega (arith, c.loop-end.invariant.onward, c.loop-end.invariant.ordered)) c.loop-end.invariant.fails
