use Rattle.std.proofs.Common.{◌≡◌, ◌++◌, map, filter, take}
use Rattle.std.specs.Ordering.{eq_by_cmp, nat_cmp}
use Rattle.sorted_pairs.specs.Blocks.{items_in}
use Rattle.rbac_state.proofs.select.add_seconds.Given as goal

abbrev pub invariant-loop-block : goal.invariant-loop-block
invariant-loop-block g l =
    l.seconds.items
    ≡ l.initial.seconds.items
    ++ map (λ p. g.B.Numbered.of p.1) (filter (λ p. eq_by_cmp nat_cmp l.first p.0)
    (items_in (take l.block-index l.alike)))
