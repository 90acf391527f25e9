use Rattle.std.proofs.Common.{◌≡◌, map, filter, take}
use Rattle.std.specs.List.{flat_map}
use Rattle.std.specs.Ordering.{eq_by_cmp, nat_cmp}
use Rattle.sorted_pairs.specs.Blocks.{items_in}
use Rattle.rbac_state.specs.inside.PermissionNumbers.{permission_of}
use Rattle.rbac_state.proofs.select.permissions.Given as goal

abbrev pub invariant-loop-role : goal.invariant-loop-role
invariant-loop-role l =
    l.permissions.items
    ≡ flat_map (λ role. map (λ g. permission_of g.1) (filter (λ g. eq_by_cmp nat_cmp role g.0)
    (items_in l.granted.by_second.items)))
    (take l.role-index l.roles)
