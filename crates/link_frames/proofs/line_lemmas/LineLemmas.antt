-- The lines of bytes that are known in part.
use Rattle.std.proofs.Common.{◌≡◌, ℕ, ◌<◌, ◌≤◌, List, [], ◌∷◌, ◌++◌, length, refl, arith}
use Rattle.std.specs.List.{onto_first}
use Rattle.link_frames.specs.lines.Lines.{line_end, lines_of, NoLineEnd}

pub lines_of-line : (line rest : List ℕ) → NoLineEnd line → lines_of (line ++ line_end ∷ rest) ≡ line ∷ lines_of rest
unfolding lines_of
lines_of-line [] rest none = refl
lines_of-line (b ∷ bs) rest none = rw (none.0, lines_of-line bs rest none.1) refl

pub lines_of-last : (line : List ℕ) → NoLineEnd line → 0 < length line → lines_of line ≡ line ∷ []
unfolding lines_of
lines_of-last [] none some = absurd (omega arith)
lines_of-last (b ∷ []) none some = rw none.0 refl
lines_of-last (b ∷ c ∷ cs) none some = rw (none.0, lines_of-last (c ∷ cs) none.1 (omega arith)) refl

-- a line begins so
pub record Begun (front rest : List ℕ) : Type 0 where
  pub line : List ℕ
  pub lines : List (List ℕ)
  pub is : lines_of (front ++ rest) ≡ line ∷ lines
  pub long : length front ≤ length line

onto : (b : ℕ) (parts : List (List ℕ))
    → (line : List ℕ) × (lines : List (List ℕ)) × (onto_first b parts ≡ line ∷ lines) × (1 ≤ length line)
onto b [] = (b ∷ [], [], refl, omega arith)
onto b (part ∷ parts) = (b ∷ part, parts, refl, omega arith)

pub lines_of-begun : (front rest : List ℕ) → NoLineEnd front → 0 < length front → Begun front rest
unfolding lines_of
lines_of-begun [] rest none some = absurd (omega arith)
lines_of-begun (b ∷ []) rest none some =
    let (line, lines, is, long) = onto b (lines_of rest) in
    record { line = line; lines = lines; is = rw none.0 is; long = omega (arith, long) }
lines_of-begun (b ∷ c ∷ cs) rest none some =
    let next = lines_of-begun (c ∷ cs) rest none.1 (omega arith) in
    record { line = b ∷ next.line; lines = next.lines; is = rw (none.0, next.is) refl; long = omega (arith, next.long) }

pub lines_of-nil : lines_of [] ≡ []
unfolding lines_of
lines_of-nil = refl
