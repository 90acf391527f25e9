use Rattle.std.proofs.Common.{◌≡◌, ◌-◌, length, ap, ◌∙◌, arith, rules}
use Rattle.std.specs.Ordering.{is_le}
use Rattle.std.proofs.lemmas.List.{length-drop}
use Rattle.std.proofs.lemmas.List.Sorted.{IsPartitionPoint-from_clause}
use Rattle.sorted_pairs.specs.Blocks.{begins}
use Rattle.sorted_pairs.proofs.BlockLemmas.{parted_later, below_item, above_item}
use Rattle.sorted_pairs.proofs.blocks.place_of.Goals as goal

pub returns-clause-within : goal.returns-clause-within
returns-clause-within g c some =
    let blocks = c.args.blocks.now in
    let long : length c.later.result.now ≡ length blocks - 1 = ap length c.later.ensures ∙ length-drop 1 blocks in
    let fits = c.partition_point.ensures.bound in
    omega arith

pub returns-clause-below : goal.returns-clause-below
returns-clause-below g c =
    let o = g.met.T.Ord.total in
    let blocks = c.args.blocks.now in
    let later = c.later.result.now in
    let point = IsPartitionPoint-from_clause (λ b. begins (λ x. is_le (g.T.Ord.cmp x c.args.item.now)) b.items) later
    c.partition_point.result c.partition_point.ensures.partitioned
    (parted_later (λ b. b.items) o c.args.item.now blocks later c.later.ensures c.requires.filled c.requires.ascending)
    (λ a r q k. search rules) in
    below_item (λ b. b.items) o c.args.item.now blocks later c.partition_point.result c.later.ensures point
    c.requires.ascending c.partition_point.ensures.bound

pub returns-clause-above : goal.returns-clause-above
returns-clause-above g c =
    let o = g.met.T.Ord.total in
    let blocks = c.args.blocks.now in
    let later = c.later.result.now in
    let point = IsPartitionPoint-from_clause (λ b. begins (λ x. is_le (g.T.Ord.cmp x c.args.item.now)) b.items) later
    c.partition_point.result c.partition_point.ensures.partitioned
    (parted_later (λ b. b.items) o c.args.item.now blocks later c.later.ensures c.requires.filled c.requires.ascending)
    (λ a r q k. search rules) in
    above_item (λ b. b.items) o c.args.item.now blocks later c.partition_point.result c.later.ensures point
    c.requires.ascending c.requires.filled
