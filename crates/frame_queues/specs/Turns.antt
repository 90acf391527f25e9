-- The turns in which the frames of several blocks are put.
use Rattle.std.specs.Prelude.{◌≡◌, ℕ, ◌+◌, ◌-◌, Bool, nat_le, if◌then◌else◌, Option, Some, None, List, [], ◌∷◌, ◌++◌}
use Rattle.frame_queues.specs.declared.turns.Turn.{Turn}

-- the most frames of a block in one turn
abbrev pub turn_frames : ℕ
turn_frames = 8

-- whether the frames of a block that are left are not too many for one turn
abbrev pub is_last : Turn → Bool
is_last b = nat_le (b.to - b.from) turn_frames

-- what a turn takes of a block: all that is left, or its first frames
abbrev pub turn_of : Turn → Turn
turn_of b = if is_last b then b else record b { to = b.from + turn_frames }

-- what is then left of it
abbrev pub left_of : Turn → List Turn
left_of b = if is_last b then [] else record b { from = b.from + turn_frames } ∷ []

-- the turn is of the first block, and what is left of that comes behind the others
abbrev pub IsNextTurn : List Turn → List Turn → Option Turn → Type 0
IsNextTurn [] new turn = (turn ≡ None) × (new ≡ [])
IsNextTurn (b ∷ bs) new turn = (turn ≡ Some (turn_of b)) × (new ≡ bs ++ left_of b)
