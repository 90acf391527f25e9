use Rattle.std.proofs.Common.{◌≡◌, ◌-◌, length, take, drop}
use Rattle.std.specs.Ordering.{nat_cmp}
use Rattle.std.proofs.lemmas.List.{take_rest}
use Rattle.std.proofs.lemmas.Cmp.{nat_cmp_total}
use Rattle.sorted_pairs.proofs.RangeLemmas.{before_parted, level_parted, range_is}
use Rattle.sorted_pairs.proofs.sorted.beginning_with.Goals as goal

pub returns : goal.returns
returns g c =
    let o = nat_cmp_total in
    let R = nat_cmp in
    let S = nat_cmp in
    let pairs = c.args.pairs.now in
    let first = c.args.first in
    let start = c.partition_point-start.result in
    let rest = take (length pairs - start) (drop start pairs) in
    let fits = c.partition_point-start.ensures.bound in
    let left : rest ≡ drop start pairs = take_rest pairs start in
    let begins = c.partition_point-start.ensures.place (before_parted S o pairs first c.requires.ascending) in
    let ends =
    c.partition_point_near-count.ensures.place
    (level_parted S o pairs rest first start c.requires.ascending fits left begins) in
    range_is S o pairs rest first start c.requires.ascending fits left begins c.partition_point_near-count.result
    c.partition_point_near-count.ensures.bound ends
