use Rattle.std.proofs.Common.{◌&&◌, None, Some, sym, ◌∙◌}
use Rattle.rbac_state.specs.inside.Relations.{relates}
use Rattle.rbac_state.proofs.FirstLemmas.{find_parts}
use Rattle.rbac_state.proofs.select.first_granting.Goals as goal

pub returns-in-Some : goal.returns-in-Some
returns-in-Some c =
    find_parts (λ role. relates c.args.assigned.now c.args.user role
    && relates c.args.granted.now c.args.permission role) c.args.roles.now c.split_at.result.0.now
    c.split_at.result.1.now (Some c.in-Some.role) c.split_at.ensures.by_index.0
    (sym c.in-Some.is ∙ c.first_of_few.ensures)

pub returns-in-None : goal.returns-in-None
returns-in-None c =
    c.first_of_many.ensures
    ∙ find_parts (λ role. relates c.args.assigned.now c.args.user role
    && relates c.args.granted.now c.args.permission role) c.args.roles.now c.split_at.result.0.now
    c.split_at.result.1.now None c.split_at.ensures.by_index.0 (sym c.in-None.is ∙ c.first_of_few.ensures)
