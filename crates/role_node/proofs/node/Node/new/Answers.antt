use Rattle.std.proofs.Common.{[], ◌∙◌, subst}
use Rattle.role_node.specs.inside.Kept.{IsStateAfter}
use Rattle.role_node.proofs.FieldLemmas.{inside_begins}
use Rattle.role_node.proofs.node.Node.new.Goals as goal

pub invariant_of-result : goal.invariant_of-result
invariant_of-result c =
    let begun = subst (λ roles. IsStateAfter roles [] c.in_ok-state.state)
    (c.in_ok-copy.ensures ∙ c.roles.ensures.value) c.in_ok-state.ensures in
    inside_begins c.requires c.roles.ensures.limit c.new-2.ensures.items begun
    (c.new-3.ensures c.args.config.roles.sizes c.args.me)
