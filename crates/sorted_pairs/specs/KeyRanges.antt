-- The pairs of one first as a look-up finds them: a part of one block, or some blocks behind one another.
use Rattle.std.specs.Prelude.{◌≡◌, ◌<◌, ℕ, List, length, drop, filter, ⊤}
use Rattle.std.specs.List.{AllByRecursion}
use Rattle.std.specs.List.Sorted.{IsStrictlySortedBy}
use Rattle.std.specs.Ordering.{eq_by_cmp, nat_cmp}
use Rattle.sorted_pairs.specs.Blocks.{items_in}
use Rattle.sorted_pairs.specs.Pairs.{number_cmp}
use Rattle.sorted_pairs.specs.declared.key_range.KeyRange.{KeyRange}
use Rattle.sorted_pairs.specs.declared.key_range.KeyRange.TheVariants.{Part, Blocks}

abbrev pub pairs_in : {k : ℕ} → KeyRange k → List (ℕ × ℕ)
pairs_in (Part pairs) = pairs.now
pairs_in (Blocks blocks) = items_in blocks.now

-- only the first of the blocks may be empty
abbrev pub IsFilled : {k : ℕ} → KeyRange k → Type 0
IsFilled (Part pairs) = ⊤
IsFilled (Blocks blocks) = AllByRecursion (λ b. 0 < length b.items) (drop 1 blocks.now)

-- among the pairs that were found those of this first are the list's
pub record IsKeyRange {k : ℕ} (first : ℕ) (pairs : List (ℕ × ℕ)) (found : KeyRange k) : Type 0 where
  pub same : filter (λ p. eq_by_cmp nat_cmp first p.0) (pairs_in found)
      ≡ filter (λ p. eq_by_cmp nat_cmp first p.0) pairs
  pub ascending : IsStrictlySortedBy number_cmp (pairs_in found)
  pub filled : IsFilled found
