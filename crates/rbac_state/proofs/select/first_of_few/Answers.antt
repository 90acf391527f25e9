use Rattle.std.proofs.Common.{sym, ◌∙◌}
use Rattle.rbac_state.proofs.FirstLemmas.{granting_here, lacks_permission, lacks_role}
use Rattle.rbac_state.proofs.select.first_of_few.Goals as goal
use Rattle.rbac_state.proofs.select.first_of_few.Goals.{else-has-via-then-has+else-has-2, else-has-via-else-has}

pub returns-then-has-2 : goal.returns-then-has-2
returns-then-has-2 c =
    granting_here c.args.assigned.now c.args.granted.now c.args.user c.args.permission c.args.roles.now
    c.loop-role.role-index c.loop-role-test.true c.loop-role.invariant (sym c.has.ensures ∙ c.if-has.true)
    (sym c.has-then-has.ensures ∙ c.if-has-2.true)

pub loop-role-preserved : goal.loop-role-preserved
loop-role-preserved c =
    elim c.else-has.branch [
      | else-has-via-then-has+else-has-2 w ↦
          lacks_role c.args.assigned.now c.args.granted.now c.args.user c.args.permission c.args.roles.now
          c.loop-role.role-index c.loop-role-test.true c.loop-role.invariant
          (sym w.has-then-has.ensures ∙ w.if-has-2.false)
      | else-has-via-else-has w ↦
          lacks_permission c.args.assigned.now c.args.granted.now c.args.user c.args.permission c.args.roles.now
          c.loop-role.role-index c.loop-role-test.true c.loop-role.invariant (sym c.has.ensures ∙ w.if-has.false)
    ]
