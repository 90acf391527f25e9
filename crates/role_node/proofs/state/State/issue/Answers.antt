use Rattle.std.proofs.Common.{[], ◌∷◌, ◌++◌, refl, ap, ◌∙◌}
use Rattle.role_node.proofs.StateLemmas.{after_issue}
use Rattle.role_node.proofs.state.State.issue.Goals as goal

pub returns-clause-ok : goal.returns-clause-ok
returns-clause-ok c roles history h =
    let pushed = c.push_reserved.ensures.items
    ∙ ap (λ items. items ++ c.args.command ∷ []) c.try_reserve.ensures.items in
    after_issue roles history c.args.command h pushed refl refl refl
