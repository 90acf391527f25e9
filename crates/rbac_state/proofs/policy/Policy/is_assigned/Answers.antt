use Rattle.std.proofs.Common.{sym, ap, ◌∙◌}
use Rattle.std.specs.FinSet as set
use Rattle.sorted_pairs.specs.Blocks.{items_in}
use Rattle.rbac_state.specs.Policies.{assigned_in}
use Rattle.rbac_state.proofs.PairLemmas.{assignments_total}
use Rattle.rbac_state.proofs.policy.Policy.is_assigned.Goals as goal

pub returns : goal.returns
returns c =
    c.has.ensures
    ∙ sym (set.contains-from_list assignments_total (items_in c.self.inside.assigned.by_first.items) (
      c.args.user,
      c.args.role,
    ))
    ∙ ap (λ p. assigned_in p c.args.user c.args.role) c.self.view_is
