use Rattle.std.proofs.Common.{ℕ, ◌-◌, ◌<◌, ◌≤◌}
use Rattle.std.specs.List.Sorted.{IsPartitionedBy}
use Rattle.sorted_pairs.specs.inside.Searches.{IsPassing}
use Rattle.sorted_pairs.proofs.search.eighth.Given as goal

-- counted so far, and what it says where the items are parted
pub record IsCounted (Parted Counts : Type 0) (part count : ℕ) : Type 0 where
  pub some : 0 < part
  pub fits : part ≤ 8
  pub below : count < part
  pub counts : Parted → Counts

abbrev pub invariant-loop-part : goal.invariant-loop-part
invariant-loop-part g l =
    IsCounted (IsPartitionedBy (g.P.Predicate.passes l.test) l.items)
    (IsPassing (g.P.Predicate.passes l.test) l.items l.base l.size l.part l.passing) l.part l.passing

abbrev pub decreases-loop-part : goal.decreases-loop-part
decreases-loop-part g l = 8 - l.part
