use Rattle.std.proofs.Common.{◌||◌, get_or, sym, ap, ◌∙◌}
use Rattle.std.proofs.lemmas.List.Folds.{list_any_at, list_any_more}
use Rattle.sorted_pairs.specs.Blocks.{items_in}
use Rattle.sorted_pairs.proofs.Exported.{found_among, found_none}
use Rattle.rbac_state.specs.inside.Relations.{relates}
use Rattle.rbac_state.proofs.FirstLemmas.{any_never}
use Rattle.rbac_state.proofs.select.has_one_of_many.Goals as goal

pub returns-then-is_empty-2 : goal.returns-then-is_empty-2
returns-then-is_empty-2 c =
    let a = c.args in
    sym (any_never (relates a.assigned.now a.user) a.roles.now (λ role.
    found_none a.user (items_in a.assigned.now.by_first.items) c.of_first-of_user.result c.of_first-of_user.ensures
    (c.is_empty-2.ensures c.if-is_empty-2.true) role))

pub returns-then-has : goal.returns-then-has
returns-then-has c =
    let a = c.args in
    sym (list_any_at (relates a.assigned.now a.user) a.roles.now c.loop-role.role-index 0 c.loop-role-test.true
    (sym (found_among a.user (items_in a.assigned.now.by_first.items) c.of_first-of_user.result
    c.of_first-of_user.ensures _) ∙ sym (rw (c.new.ensures) at c.has.ensures) ∙ c.if-has.true))

pub loop-role-preserved : goal.loop-role-preserved
loop-role-preserved c =
    let a = c.args in
    list_any_more (relates a.assigned.now a.user) a.roles.now c.loop-role.role-index 0 c.loop-role-test.true
    ∙ ap (λ b. b || relates a.assigned.now a.user (get_or a.roles.now c.loop-role.role-index 0)) c.loop-role.invariant
    ∙ sym (found_among a.user (items_in a.assigned.now.by_first.items) c.of_first-of_user.result
    c.of_first-of_user.ensures _) ∙ sym (rw (c.new.ensures) at c.has.ensures) ∙ c.if-has.false
