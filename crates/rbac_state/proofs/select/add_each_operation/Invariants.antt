use Rattle.std.proofs.Common.{◌≡◌, ◌==◌, ◌++◌, map, filter, take}
use Rattle.rbac_state.specs.inside.PermissionNumbers.{permission_of}
use Rattle.rbac_state.proofs.select.add_each_operation.Given as goal

abbrev pub invariant-loop-grant : goal.invariant-loop-grant
invariant-loop-grant l =
    l.operations.items
    ≡ l.initial.operations.items ++ map (λ g. (permission_of g.1).0)
    (filter (λ g. (permission_of g.1).1 == l.object) (take l.grant-index l.grants))
