-- What gathering for one pair, and for all pairs of one owner, makes of the pairs.
use Rattle.std.specs.Prelude.{◌≡◌, ◌≢◌, ◌⊎◌, ◌<◌, ◌≤◌, ℕ, ◌+◌, nat_lt, if◌then◌else◌}
use Rattle.std.specs.Prelude.{List, length, slice_set, Option, None, is_some}
use Rattle.node_lock.specs.Holds.{Held}
use Rattle.peer_windows.specs.Pauses.{never}
use Rattle.peer_windows.specs.Owed.{OwedValue}
use Rattle.peer_windows.specs.Owners.{PairsValue, pairs_of, pair_at}
use Rattle.peer_windows.specs.Looks.{room_at, free_in, next_room, due_at, IsReached, IsLookedAt}
use Rattle.peer_windows.specs.Looks.{IsOwnerLookedAt, IsOwnerStill}

-- an owner's pairs are looked at next at a time
abbrev pub with_due : PairsValue → ℕ → ℕ → PairsValue
with_due a owner time = record a { dues = slice_set a.dues owner time }

-- it is the next owner's turn, and behind the last one that of the first
abbrev pub turned : PairsValue → PairsValue
turned a = record a { turn = if nat_lt (a.turn + 1) (length a.dues) then a.turn + 1 else 0 }

-- There are as many pairs, and the longest pause stays.
pub record IsAsMany (a b : PairsValue) : Type 0 where
  pub pairs : (owner : ℕ) → length (pairs_of b owner) ≡ length (pairs_of a owner)
  pub dues : length b.dues ≡ length a.dues
  pub longest : b.longest ≡ a.longest

-- Of all pairs only those of an owner have changed, and when these are due.
pub record IsOwnersChange (owner : ℕ) (a b : PairsValue) : Type 0 where
  pub pairs : (other peer : ℕ) → other ≢ owner → pair_at b other peer ≡ pair_at a other peer
  pub dues : (other : ℕ) → other ≢ owner → due_at b other ≡ due_at a other
  pub many : IsAsMany a b
  pub turn : b.turn ≡ a.turn

-- Of all pairs only that of an owner and a peer has changed.
pub record IsPairChange (owner peer : ℕ) (a b : PairsValue) : Type 0 where
  pub owners : IsOwnersChange owner a b
  pub peers : (other : ℕ) → other ≢ peer → pair_at b owner other ≡ pair_at a owner other
  pub dues : b.dues ≡ a.dues

-- there is a connection where there was one, and no more room
pub record IsRoomAfter (before after : Option ℕ) : Type 0 where
  pub connected : is_some after ≡ is_some before
  pub free : free_in after ≤ free_in before

pub record AreRoomsAfter (before after : List (Option ℕ)) : Type 0 where
  pub each : (peer : ℕ) → IsRoomAfter (room_at before peer) (room_at after peer)

-- A pair was looked at if there is a connection to its peer, and else stays, as all others do.
pub record IsPairGathered (h : Held) (now owner peer : ℕ) (before after : Option ℕ) (owed : OwedValue) (due : ℕ)
    (a b : PairsValue) : Type 0 where
  pub look : IsReached h a owner peer before →
      IsLookedAt h now a.longest owner peer after owed due (pair_at a owner peer) (pair_at b owner peer)
  pub time : (due ≡ never) ⊎ (due ≡ now + next_room) ⊎ (due ≡ (pair_at b owner peer).look.until)
  pub apart : before ≡ None → pair_at b owner peer ≡ pair_at a owner peer
  pub change : IsPairChange owner peer a b
  pub room : IsRoomAfter before after

-- The pairs of an owner that is due were looked at where there is a connection to their peers, and else stay, as those
-- of other owners do.
pub record IsOwnerGathered (h : Held) (now owner : ℕ) (before after : List (Option ℕ)) (owed : OwedValue)
    (a b : PairsValue) : Type 0 where
  pub look : due_at a owner ≤ now → IsOwnerLookedAt h now before after owed a b owner
  pub later : now < due_at a owner → IsOwnerStill a b owner
  pub apart : (peer : ℕ) → room_at before peer ≡ None → pair_at b owner peer ≡ pair_at a owner peer
  pub change : IsOwnersChange owner a b
  pub rooms : AreRoomsAfter before after
