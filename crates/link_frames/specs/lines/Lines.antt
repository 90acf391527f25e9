-- The lines of an input: each ends with LF, and the last may lack it.
use Rattle.std.specs.Prelude.{◌≡◌, ℕ, Bool, ◌==◌, false, if◌then◌else◌, List, [], ◌∷◌, ◌++◌}
use Rattle.std.specs.List.{onto_first, AllByRecursion}

abbrev pub line_end : ℕ
line_end = 10

abbrev pub is_line_end : ℕ → Bool
is_line_end b = b == line_end

-- a text with the end of its line
abbrev pub ended : List ℕ → List ℕ
ended text = text ++ line_end ∷ []

unfoldable pub lines_of : List ℕ → List (List ℕ)
lines_of [] = []
lines_of (b ∷ bs) = if is_line_end b then [] ∷ lines_of bs else onto_first b (lines_of bs)

-- no line ends in these bytes
abbrev pub NoLineEnd : List ℕ → Type 0
NoLineEnd bytes = AllByRecursion (λ b. is_line_end b ≡ false) bytes
