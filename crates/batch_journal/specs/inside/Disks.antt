-- What calls of a disk do to its bytes.
use Rattle.std.specs.Prelude.{◌≡◌, ◌⊎◌, ℕ, ◌+◌, ◌≤◌, List, ◌++◌, length, take, drop}
use Rattle.sqlite_disk.specs.Disk.{Mixed}

-- the bytes stand from a place on, which is not behind the end
abbrev pub IsOverwritten : ℕ → List ℕ → List ℕ → List ℕ → Type 0
IsOverwritten at bytes old new = at ≤ length old → new ≡ take at old ++ (bytes ++ drop (at + length bytes) old)

-- what a crash may leave is what it might have left before, of which bytes from a place on may be these
abbrev pub MayBeOverwritten : ℕ → List ℕ → (List ℕ → Type 0) → (List ℕ → Type 0) → Type 0
MayBeOverwritten at bytes old new = (c : List ℕ) → new c → old c ⊎ ((d : List ℕ) × old d × Mixed at bytes d c)
