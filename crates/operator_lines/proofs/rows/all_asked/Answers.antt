use Rattle.std.proofs.Common.{subst, sym, ◌<◌, ◌∙◌, arith}
use Rattle.std.specs.List.{AllByRecursion}
use Rattle.operator_lines.specs.declared.decision.Access.{Access}
use Rattle.operator_lines.proofs.RowLemmas.{all_named}
use Rattle.operator_lines.proofs.rows.all_asked.Goals as goal

pub returns-clause-nodes : goal.returns-clause-nodes
returns-clause-nodes c =
    let s = c.args.sizes.now in
    subst (AllByRecursion (λ (a : Access). a.owner < s.nodes)) (sym (c.new.ensures ∙ c.in_ok-asked.ensures))
    (all_named s (omega (arith, c.n-nodes.ensures.sizes.1)) c.args.items.now)
