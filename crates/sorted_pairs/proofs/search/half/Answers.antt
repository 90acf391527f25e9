use Rattle.std.proofs.Common.{sym, ◌∙◌}
use Rattle.sorted_pairs.proofs.SearchLemmas.{upper_half, lower_half}
use Rattle.sorted_pairs.proofs.search.half.Goals as goal

pub returns-then-passes : goal.returns-then-passes
returns-then-passes g c =
    upper_half (g.P.Predicate.passes c.args.test.now) c.args.items.now c.args.base c.args.size
    c.index-items-middle.result c.requires c.index-items-middle.is (sym c.passes.ensures ∙ c.if-passes.true)

pub returns-else-passes : goal.returns-else-passes
returns-else-passes g c =
    lower_half (g.P.Predicate.passes c.args.test.now) c.args.items.now c.args.base c.args.size
    c.index-items-middle.result c.requires c.index-items-middle.is (sym c.passes.ensures ∙ c.if-passes.false)
