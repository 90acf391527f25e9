use Rattle.std.proofs.Common.{sym, ◌∙◌, arith}
use Rattle.sorted_pairs.proofs.SearchLemmas.{near}
use Rattle.sorted_pairs.proofs.search.partition_point_near.Goals as goal

pub at_one-requires : goal.at_one-requires
at_one-requires g c =
    near (g.P.Predicate.passes c.args.test.now) c.args.items.now 1 c.index-items-1.result (omega arith)
    c.if-items-gt1.true c.index-items-1.is (sym c.passes.ensures ∙ c.if-not-passes.true)

pub among_8-requires-clause-about : goal.among_8-requires-clause-about
among_8-requires-clause-about g c =
    near (g.P.Predicate.passes c.args.test.now) c.args.items.now 8 c.index-items-8.result (omega arith)
    c.if-items-gt8.true c.index-items-8.is (sym c.passes-then-items-gt8.ensures ∙ c.if-not-passes-2.true)

pub by_halves-requires : goal.by_halves-requires
by_halves-requires g c =
    near (g.P.Predicate.passes c.args.test.now) c.args.items.now 64 c.index-items-64.result (omega arith)
    c.if-items-gt64.true c.index-items-64.is (sym c.passes-then-items-gt64.ensures ∙ c.if-not-passes-3.true)
