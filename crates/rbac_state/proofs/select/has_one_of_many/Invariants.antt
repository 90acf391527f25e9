use Rattle.std.proofs.Common.{◌≡◌, false, take}
use Rattle.std.specs.List.{list_any}
use Rattle.rbac_state.specs.inside.Relations.{relates}
use Rattle.rbac_state.proofs.select.has_one_of_many.Given as goal

abbrev pub invariant-loop-role : goal.invariant-loop-role
invariant-loop-role l = list_any (relates l.assigned l.user) (take l.role-index l.roles) ≡ false
