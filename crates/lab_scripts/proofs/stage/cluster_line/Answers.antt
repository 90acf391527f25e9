use Rattle.std.proofs.Common.{◌≡◌, Some, sym, ◌∙◌, subst}
use Rattle.quorum_sizes.specs.Sizes.{Counts}
use Rattle.lab_scripts.specs.inside.Kept.{lab_in}
use Rattle.lab_scripts.specs.Orders.{order_of_line}
use Rattle.lab_scripts.proofs.StageLemmas.{asking-some}
use Rattle.lab_scripts.proofs.stage.cluster_line.Goals as goal

pub returns : goal.returns
returns c are =
    let read = subst (λ (s : Counts). order_of_line s c.args.line.now ≡ Some c.in-Some.order) c.sizes.ensures
    (sym c.in_ok-order.ensures.value ∙ c.in-Some.is) in
    asking-some (lab_in c.args.lab.now) _ _ _ c.in-Some.order read c.in_ok-text.ensures.after are
    c.in_ok-text.ensures.text
