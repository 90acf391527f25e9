use Rattle.std.proofs.Common.{rules}
use Rattle.std.specs.Ordering.{is_lt, nat_cmp}
use Rattle.std.proofs.lemmas.List.Sorted.{IsPartitionPoint-from_clause}
use Rattle.std.proofs.lemmas.Cmp.{nat_cmp_total}
use Rattle.sorted_pairs.specs.Blocks.{begins}
use Rattle.sorted_pairs.proofs.KeyRangeLemmas.{before_parted_later, below_start}
use Rattle.sorted_pairs.proofs.key_range.lower_bound.Goals as goal

pub returns-clause-below : goal.returns-clause-below
returns-clause-below g c =
    let o = nat_cmp_total in
    let first = c.args.first in
    let later = c.later.result.now in
    below_start nat_cmp o first (λ b. b.items) c.args.blocks.now c.requires.ascending c.requires.filled later
    c.partition_point.result c.later.ensures c.partition_point.ensures.bound
    (IsPartitionPoint-from_clause (λ b. begins (λ p. is_lt (nat_cmp p.0 first)) b.items) later
    c.partition_point.result c.partition_point.ensures.partitioned
    (before_parted_later nat_cmp o first (λ b. b.items) c.args.blocks.now c.requires.ascending c.requires.filled
    later c.later.ensures)
    (λ a r q k. search rules))
