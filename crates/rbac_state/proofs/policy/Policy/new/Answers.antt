use Rattle.std.proofs.Common.{refl, ap, ◌∙◌, map}
use Rattle.std.specs.FinSet as set
use Rattle.rbac_state.specs.Policies.{assignment_cmp, grant_cmp}
use Rattle.rbac_state.specs.inside.PermissionNumbers.{grant_of}
use Rattle.rbac_state.proofs.policy.Policy.new.Goals as goal

pub returns : goal.returns
returns c = record {
  table = refl;
  assigned =
      λ user role. ap (λ l. set.contains (set.from_list {R = assignment_cmp} l) (user, role)) c.new.ensures.blank
      ∙ set.contains-empty assignment_cmp (user, role);
  granted = λ operation object role.
      ap (λ l. set.contains (set.from_list {R = grant_cmp} (map grant_of l))
      ((operation, object), role)) c.new-2.ensures.blank
      ∙ set.contains-empty grant_cmp ((operation, object), role);
}
