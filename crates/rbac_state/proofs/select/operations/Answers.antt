use Rattle.std.proofs.Common.{ℕ, ◌==◌, map, filter}
use Rattle.std.specs.Ordering.{eq_by_cmp, nat_cmp}
use Rattle.sorted_pairs.specs.Blocks.{items_in}
use Rattle.rbac_state.specs.inside.PermissionNumbers.{permission_of}
use Rattle.rbac_state.proofs.ListingLemmas.{joined_more}
use Rattle.rbac_state.proofs.select.operations.Goals as goal

pub loop-role-preserved : goal.loop-role-preserved
loop-role-preserved c =
    joined_more
    (λ role. map (λ (g : ℕ × ℕ). (permission_of g.1).0) (filter (λ g. (permission_of g.1).1 == c.args.object)
    (filter (λ g. eq_by_cmp nat_cmp role g.0) (items_in c.args.granted.now.by_second.items))))
    c.args.roles.now c.loop-role.role-index 0 c.loop-role.operations.items _ c.loop-role-test.true
    c.loop-role.invariant
    (rw (c.with_second.ensures) at c.in_ok-add_operations.ensures)
