-- Text that is held back: when it is due.
use Rattle.std.specs.Prelude.{◌≡◌, ℕ, ◌<◌, ◌⊎◌, List, [], length}
use Rattle.link_frames.specs.lines.Nexts.{Begins}
use Rattle.link_frames.specs.declared.lines.next.Next.TheVariants.{Line}

-- so many bytes of text are not held back
abbrev pub most_held_bytes : ℕ
most_held_bytes = 8192

-- a whole line of at most so many bytes is ahead, so that nothing has to be read for it, nor for its end
abbrev pub HasLine : ℕ → List ℕ → Type 0
HasLine limit front = (count : ℕ) × Begins limit front (Line count)

-- nothing is held back, or less than that much while a whole line is ahead
abbrev pub IsNotDue : ℕ → List ℕ → List ℕ → Type 0
IsNotDue limit held front = (held ≡ []) ⊎ ((length held < most_held_bytes) × HasLine limit front)
