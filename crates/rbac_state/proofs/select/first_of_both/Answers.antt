use Rattle.std.proofs.Common.{sym, ◌∙◌}
use Rattle.sorted_pairs.specs.Blocks.{items_in}
use Rattle.sorted_pairs.proofs.Exported.{found_among}
use Rattle.rbac_state.proofs.FirstLemmas.{granting_here, lacks_permission, lacks_role}
use Rattle.rbac_state.proofs.select.first_of_both.Goals as goal
use Rattle.rbac_state.proofs.select.first_of_both.Goals.{else-is_there-via-then-is_there+else-is_there-2, else-is_there-via-else-is_there}

pub returns-then-is_there-2 : goal.returns-then-is_there-2
returns-then-is_there-2 c =
    granting_here c.args.assigned.now c.args.granted.now c.args.user c.args.permission c.args.roles.now
    c.loop-role.role-index c.loop-role-test.true c.loop-role.invariant
    (sym (found_among c.args.permission (items_in c.args.granted.now.by_first.items) c.args.grants.now
    c.requires.grants _) ∙ sym c.is_there-then-is_there.ensures ∙ c.if-is_there-2.true)
    (sym (found_among c.args.user (items_in c.args.assigned.now.by_first.items) c.of_first-mine.result
    c.of_first-mine.ensures _) ∙ sym c.is_there.ensures ∙ c.if-is_there.true)

pub loop-role-preserved : goal.loop-role-preserved
loop-role-preserved c =
    elim c.else-is_there.branch [
      | else-is_there-via-then-is_there+else-is_there-2 w ↦
          lacks_permission c.args.assigned.now c.args.granted.now c.args.user c.args.permission c.args.roles.now
          c.loop-role.role-index c.loop-role-test.true c.loop-role.invariant
          (sym (found_among c.args.permission (items_in c.args.granted.now.by_first.items) c.args.grants.now
          c.requires.grants _) ∙ sym w.is_there-then-is_there.ensures ∙ w.if-is_there-2.false)
      | else-is_there-via-else-is_there w ↦
          lacks_role c.args.assigned.now c.args.granted.now c.args.user c.args.permission c.args.roles.now
          c.loop-role.role-index c.loop-role-test.true c.loop-role.invariant
          (sym (found_among c.args.user (items_in c.args.assigned.now.by_first.items) c.of_first-mine.result
          c.of_first-mine.ensures _) ∙ sym c.is_there.ensures ∙ w.if-is_there.false)
    ]
