use Rattle.std.proofs.Common.{◌≡◌, ◌==◌, ◌++◌, map, filter, take}
use Rattle.std.specs.Ordering.{eq_by_cmp, nat_cmp}
use Rattle.sorted_pairs.specs.Blocks.{items_in}
use Rattle.rbac_state.specs.inside.PermissionNumbers.{permission_of}
use Rattle.rbac_state.proofs.select.add_operations.Given as goal

abbrev pub invariant-loop-block : goal.invariant-loop-block
invariant-loop-block l =
    l.operations.items
    ≡ l.initial.operations.items
    ++ map (λ g. (permission_of g.1).0) (filter (λ g. (permission_of g.1).1 == l.object)
    (filter (λ g. eq_by_cmp nat_cmp l.role g.0) (items_in (take l.block-index l.alike))))
