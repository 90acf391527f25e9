-- How bytes begin: with a line, with one that is too long, or with neither; and lines that are passed over.
use Rattle.std.specs.Prelude.{◌≡◌, ℕ, ◌+◌, ◌<◌, ◌≤◌, Bool, MatchBool, List, [], ◌∷◌, ◌++◌, length, take, drop, Option}
use Rattle.std.specs.Io.KnownBytes.{Consumes, IsAtEnd}
use Rattle.link_frames.specs.lines.Lines.{line_end, ended, NoLineEnd}
use Rattle.link_frames.specs.declared.lines.next.Next.{Next}
use Rattle.link_frames.specs.declared.lines.next.Next.TheVariants.{Line, TooLong, Last, End}

-- a line of n bytes comes first
abbrev pub EndsAt : List ℕ → ℕ → Type 0
EndsAt front n = NoLineEnd (take n front) × (n < length front) × (front ≡ take n front ++ line_end ∷ drop (n + 1) front)

-- how they begin, where a line may have so many bytes
abbrev pub Begins : ℕ → List ℕ → Next → Type 0
Begins limit front (Line n) = (n ≤ limit) × EndsAt front n
Begins limit front TooLong = (limit < length front) × NoLineEnd (take (limit + 1) front)
Begins limit front (Last n) = NoLineEnd front × (n ≡ length front) × (0 < n) × (n ≤ limit)
Begins limit front End = front ≡ []

-- nothing comes behind the bytes ahead where these are the last
abbrev pub EndsWith : Option (List ℕ) → Next → Type 0
EndsWith known (Line n) = Unit {0}
EndsWith known TooLong = Unit {0}
EndsWith known (Last n) = IsAtEnd known
EndsWith known End = IsAtEnd known

-- ---- a line that is passed over

-- The next line was used up, with its end or, where it had none, with all the bytes. It was too long where
-- the bytes ahead showed that.
pub record PassedLine (front : List ℕ) (before after : Option (List ℕ)) (had_end : Bool) : Type 0 where
  pub line : List ℕ
  pub none : NoLineEnd line
  pub passed : MatchBool had_end (Consumes before after (ended line)) (Consumes before after line × IsAtEnd after)
  pub long : (limit : ℕ) → Begins limit front TooLong → limit < length line

-- a part of the line was used up
abbrev pub PassedPart : Option (List ℕ) → Option (List ℕ) → Type 0
PassedPart before after = (part : List ℕ) × NoLineEnd part × Consumes before after part
