use Rattle.std.proofs.Common.{◌≡◌, None, take}
use Rattle.std.specs.List.{find}
use Rattle.rbac_state.specs.inside.Relations.{is_granting}
use Rattle.rbac_state.proofs.select.first_of_both.Given as goal

abbrev pub invariant-loop-role : goal.invariant-loop-role
invariant-loop-role l =
    find (is_granting l.assigned l.granted l.user l.permission) (take l.role-index l.roles) ≡ None
