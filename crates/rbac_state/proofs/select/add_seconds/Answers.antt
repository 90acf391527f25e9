use Rattle.std.proofs.Common.{sym, subst, arith}
use Rattle.std.specs.List.Sorted.{IsStrictlySortedBy}
use Rattle.rbac_state.specs.inside.Pairs.{number_cmp}
use Rattle.rbac_state.proofs.PlaceLemmas.{block_ascends}
use Rattle.rbac_state.proofs.select.add_seconds.Goals as goal

pub beginning_with-requires : goal.beginning_with-requires
beginning_with-requires g c = (
  omega arith,
  subst (IsStrictlySortedBy number_cmp) (sym c.deref.ensures.value)
      (block_ascends (λ b. b.items) c.run_of-alike.result.now c.loop-block.block-index c.block-item.result
      c.block-item.is
      c.loop-block-test.true number_cmp c.run_of-alike.ensures.ascending),
)
