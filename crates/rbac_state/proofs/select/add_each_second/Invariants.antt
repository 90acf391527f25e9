use Rattle.std.proofs.Common.{◌≡◌, ◌++◌, map, take}
use Rattle.rbac_state.proofs.select.add_each_second.Given as goal

abbrev pub invariant-loop-pair : goal.invariant-loop-pair
invariant-loop-pair g l =
    l.seconds.items ≡ l.initial.seconds.items ++ map (λ p. g.B.Numbered.of p.1) (take l.pair-index l.pairs)
