-- Where a search looks on.
use Rattle.std.specs.Prelude.{◌≡◌, ℕ, ◌+◌, ◌*◌, ◌/◌, ◌<◌, ◌≤◌, Bool, true, false, List, length, slice_index_or}
use Rattle.std.specs.List.{AllWithin}
use Rattle.std.specs.List.Sorted.{IsPartitionedBy, IsPartitionPoint}

-- each item before a place passes, and none from another place on
pub record IsAbout {X : Type 0} (passes : X → Bool) (place end : ℕ) (xs : List X) : Type 0 where
  pub before : AllWithin (λ x. passes x ≡ true) xs 0 place
  pub behind : AllWithin (λ x. passes x ≡ false) xs end (length xs)

-- some items of the list from a place on, so many, about the place that is looked for
pub record IsSearching {X : Type 0} (passes : X → Bool) (base size : ℕ) (xs : List X) : Type 0 where
  pub some : 0 < size
  pub within : base + size ≤ length xs
  pub about : IsPartitionedBy passes xs → IsAbout passes base (base + size) xs

-- the place that is looked for: behind all items that pass, where they are in front
pub record IsPlace {X : Type 0} (passes : X → Bool) (xs : List X) (place : ℕ) : Type 0 where
  pub bound : place ≤ length xs
  pub parts : IsPartitionedBy passes xs → IsPartitionPoint (λ y. passes y ≡ true) (λ y. passes y ≡ false) xs place

-- of so many items from a place on, the one with which this of their eight parts begins
abbrev pub parting : {X : Type 0} → List X → ℕ → ℕ → ℕ → X → X
parting xs base size part d = slice_index_or xs (base + size * part / 8) d

-- of the parts from the second on, numbered from 1, before this one: the first so many begin with an item that passes,
-- and the next does not
pub record IsPassing {X : Type 0} (passes : X → Bool) (xs : List X) (base size part count : ℕ) : Type 0 where
  pub fits : part ≤ 8
  pub below : count < part
  pub passing : (d : X) → 0 < count → passes (parting xs base size count d) ≡ true
  pub failing : (d : X) → count + 1 < part → passes (parting xs base size (count + 1) d) ≡ false
