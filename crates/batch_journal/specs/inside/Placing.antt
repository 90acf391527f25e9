-- What is placed on a disk.
use Rattle.std.specs.Prelude.{◌≡◌, ◌⊎◌, ◌≤◌, ℕ, List, [], ◌++◌, length, replicate, slice_index}
use Rattle.sqlite_disk.specs.Disk.{Only}
use Rattle.batch_journal.specs.Readings.{room_behind}
use Rattle.batch_journal.specs.inside.Fading.{IsFaded}

-- the file is a front and so many zeros, and nothing else may be left
pub record IsZeroed (front : List ℕ) (count : ℕ) (file : List ℕ) (may_leave : List ℕ → Type 0) : Type 0 where
  pub seen : file ≡ front ++ replicate count 0
  pub only : Only (front ++ replicate count 0) may_leave

-- behind a front bytes may have been placed over zeros, of which there is room
pub record IsPlaced (front bytes left : List ℕ) : Type 0 where
  pub count : ℕ
  pub room : room_behind ≤ count
  pub faded : IsFaded front (bytes ++ replicate count 0) left

-- a file on which a head is begun: a byte at most, or its first is a 0, or the head was placed over zeros
abbrev pub IsBegun : List ℕ → List ℕ → Type 0
IsBegun front left = (length left ≤ 1) ⊎ ((slice_index left 0 ≡ 0) ⊎ IsPlaced [] front left)
