use Rattle.std.proofs.Common.{◌&&◌, sym, ap, ◌∙◌}
use Rattle.sorted_pairs.specs.Blocks.{items_in}
use Rattle.sorted_pairs.proofs.Exported.{found_none}
use Rattle.rbac_state.specs.inside.Relations.{relates, is_granting}
use Rattle.rbac_state.proofs.FirstLemmas.{find_never, and_false}
use Rattle.rbac_state.proofs.select.first_of_many.Goals as goal

pub returns-then-is_empty-2 : goal.returns-then-is_empty-2
returns-then-is_empty-2 c =
    let has = relates c.args.assigned.now c.args.user in
    sym (find_never (is_granting c.args.assigned.now c.args.granted.now c.args.user c.args.permission)
    c.args.roles.now (λ role.
    ap (λ b. has role && b)
    (found_none c.args.permission (items_in c.args.granted.now.by_first.items) c.of_first-grants.result
    c.of_first-grants.ensures (c.is_empty-2.ensures c.if-is_empty-2.true) role)
    ∙ and_false (has role)))
