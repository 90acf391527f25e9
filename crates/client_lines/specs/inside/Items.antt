-- Items of a listing behind the first.
use Rattle.std.specs.Prelude.{ℕ, List, ◌++◌, codes}
use Rattle.std.specs.List.{flat_map}
use Rattle.client_lines.specs.AnswerTexts.{permission_text}

abbrev pub behind_comma : ℕ × ℕ → List ℕ
behind_comma p = codes "," ++ permission_text p

abbrev pub behind_commas : List (ℕ × ℕ) → List ℕ
behind_commas = flat_map behind_comma
