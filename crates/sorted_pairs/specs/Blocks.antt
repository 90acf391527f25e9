-- A long list as it is kept: in blocks of bounded size, so that an item put or taken away moves few others.
use Rattle.std.specs.Prelude.{◌≡◌, ℕ, ◌+◌, ◌<◌, ◌≤◌, Bool, true, false, List, [], ◌∷◌, ◌++◌, length, take, drop}
use Rattle.std.specs.Prelude.{if◌then◌else◌, vec_len, vec_capacity}
use Rattle.std.proofs.Common.{zero, suc}
use Rattle.std.specs.List.{AllByRecursion, HoldsAt, flat_map}
use Rattle.std.specs.declared.vec.Vec.{Vec}

-- the items of all blocks, in order
abbrev pub items_in : {X Z : Type 0} → List (Vec X Z) → List X
items_in blocks = flat_map (λ b. b.items) blocks

-- so many items a block has at most
abbrev pub block_size : ℕ
block_size = 512

-- so many more fit the block, without memory
pub record IsRoomy {X Z : Type 0} (room : ℕ) (b : Vec X Z) : Type 0 where
  pub len : vec_len b + room ≤ block_size
  pub capacity : block_size ≤ vec_capacity b

-- so many more fit each block; there is a block where any is to fit; and only the first may be empty
pub record AreBlocks {X Z : Type 0} (room : ℕ) (blocks : List (Vec X Z)) : Type 0 where
  pub roomy : AllByRecursion (IsRoomy room) blocks
  pub some : 0 < room → 0 < length blocks
  pub filled : AllByRecursion (λ b. 0 < length b.items) (drop 1 blocks)

-- the list begins with an item that passes
abbrev pub begins : {X : Type 0} → (X → Bool) → List X → Bool
begins p [] = false
begins p (x ∷ xs) = p x

abbrev pub has_none : {X : Type 0} → List X → Bool
has_none [] = true
has_none (x ∷ xs) = false

-- without the block at this place, where it is empty
abbrev pub without_empty : {X Z : Type 0} → ℕ → List (Vec X Z) → List (Vec X Z)
without_empty i [] = []
without_empty zero (b ∷ bs) = if has_none b.items then bs else b ∷ bs
without_empty (suc i) (b ∷ bs) = b ∷ without_empty i bs

-- the same, where it is not the first
abbrev pub tidied : {X Z : Type 0} → ℕ → List (Vec X Z) → List (Vec X Z)
tidied zero bs = bs
tidied (suc i) [] = []
tidied (suc i) (b ∷ bs) = b ∷ without_empty i bs

-- the block at this place, in two halves
pub record IsSplit {X Z : Type 0} (place : ℕ) (old new : List (Vec X Z)) : Type 0 where
  pub block : Vec X Z
  pub lower : Vec X Z
  pub upper : Vec X Z
  pub was : HoldsAt (λ b. b ≡ block) old place
  pub is : new ≡ take place old ++ (lower ∷ (upper ∷ drop (suc place) old))
  pub items : lower.items ++ upper.items ≡ block.items
  pub len : vec_len lower + vec_len upper ≡ vec_len block
  pub even : vec_len lower ≤ vec_len upper
  pub odd : vec_len upper ≤ vec_len lower + 1
  pub lower_capacity : vec_capacity block ≤ vec_capacity lower
  pub upper_capacity : block_size ≤ vec_capacity upper
