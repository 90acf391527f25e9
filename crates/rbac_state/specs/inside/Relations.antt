-- A relation as it is kept: its pairs in two ascending lists, by either side, and each of them in blocks.
use Rattle.std.specs.Prelude.{◌≡◌, ◌<◌, ◌&&◌, ℕ, Bool}
use Rattle.std.specs.List.Sorted.{IsStrictlySortedBy}
use Rattle.sorted_pairs.specs.Lists.{is_among}
use Rattle.sorted_pairs.specs.Pairs.{number_cmp}
use Rattle.sorted_pairs.specs.Blocks.{AreBlocks, items_in}
use Rattle.rbac_state.specs.declared.relation.Relation.{Relation}
use Rattle.rbac_state.specs.inside.Limits.{most_firsts}

-- the pair is in the relation
abbrev pub relates : {k : ℕ} → Relation k → ℕ → ℕ → Bool
relates r first second = is_among number_cmp (items_in r.by_first.items) (first, second)

-- both lists ascend, the pairs of one, turned, are those of the other, and there is room in each block
pub record IsKeptBothWays {k : ℕ} (r : Relation k) : Type 0 where
  pub by_first : IsStrictlySortedBy number_cmp (items_in r.by_first.items)
  pub by_second : IsStrictlySortedBy number_cmp (items_in r.by_second.items)
  pub same : (first second : ℕ) →
      is_among number_cmp (items_in r.by_second.items) (second, first) ≡ relates r first second
  pub first_blocks : AreBlocks r.room r.by_first.items
  pub second_blocks : AreBlocks r.room r.by_second.items

-- so many pairs can be put without memory
abbrev pub room_of : {k : ℕ} → Relation k → ℕ
room_of r = r.room

-- the same pairs, whatever the room
pub record SamePairs {k : ℕ} (old new : Relation k) : Type 0 where
  pub by_first : items_in new.by_first.items ≡ items_in old.by_first.items
  pub by_second : items_in new.by_second.items ≡ items_in old.by_second.items

-- a policy's relations: users with roles, and permissions, as numbers, with roles
pub record AreKept {k n : ℕ} (assigned : Relation k) (granted : Relation n) : Type 0 where
  pub users : IsKeptBothWays assigned
  pub permissions : IsKeptBothWays granted

-- the relations of a policy, and a user and a permission about which they can be asked
pub record CanBeAsked {k n : ℕ} (assigned : Relation k) (granted : Relation n) (user permission : ℕ) : Type 0 where
  pub user_fits : user < most_firsts
  pub permission_fits : permission < most_firsts
  pub users : IsKeptBothWays assigned
  pub permissions : IsKeptBothWays granted

-- the user has the role, and the role has the permission
abbrev pub is_granting : {k n : ℕ} → Relation k → Relation n → ℕ → ℕ → ℕ → Bool
is_granting assigned granted user permission role = relates assigned user role && relates granted permission role
