-- What a line says from a place on.
use Rattle.std.specs.Prelude.{◌≡◌, ◌<◌, ◌≤◌, ◌⊎◌, ℕ, nat_le, ◌==◌, Bool, true, not, ◌&&◌}
use Rattle.std.specs.Prelude.{List, ◌∷◌, ◌++◌, codes, length, drop, Some}
use Rattle.json.specs.Token.{Token, string}
use Rattle.json.specs.Json.{read_key, value}
use Rattle.json.specs.Lex.{token, lex, between, Place, fresh, after_value, may_begin, punctuate}
use Rattle.serde_json.specs.Data.{Data}
use Rattle.serde_json.specs.Read.{of_json, converted}
use Rattle.client_lines.specs.declared.line.Scalar.{Scalar}
use Rattle.client_lines.specs.inside.Says.{IsScalarOf}

-- a byte that stands for itself in a text: all from the blank on but the quote and the backslash
abbrev pub is_plain : ℕ → Bool
is_plain x = nat_le 32 x && not (x == 34) && not (x == 92)

abbrev pub tokens_from : Place → List ℕ → ℕ → List Token
tokens_from place line at = punctuate place (lex between (drop at line))

-- at a place stands this text in quotes, up to another place
pub record IsQuoted (line : List ℕ) (at : ℕ) (text : List ℕ) (end : ℕ) : Type 0 where
  pub forward : at < end
  pub within : end ≤ length line
  pub lexed : lex between (drop at line) ≡ token (string text) ∷ lex between (drop end line)

-- at a place stands a member's name, and its value at another place
pub record IsName (line : List ℕ) (at : ℕ) (name : List ℕ) (end : ℕ) : Type 0 where
  pub forward : at < end
  pub within : end ≤ length line
  pub key : (place : Place) → may_begin place ≡ true
      → read_key (tokens_from place line at) ≡ Some (Some name, tokens_from fresh line end)

-- at a place stands true, false or null, up to another place
abbrev pub IsWord : List ℕ → ℕ → ℕ → Type 0
IsWord line at end = (drop at line ≡ codes "true" ++ drop end line)
    ⊎ ((drop at line ≡ codes "false" ++ drop end line) ⊎ (drop at line ≡ codes "null" ++ drop end line))

-- a value ends there: a comma or a closing brace comes next
abbrev pub EndsValue : List ℕ → ℕ → Type 0
EndsValue line end = (rest : List ℕ) × ((drop end line ≡ 44 ∷ rest) ⊎ (drop end line ≡ 125 ∷ rest))

-- at a place stands a member's value, which the scalar is, if it ends at another place
pub record IsValue (line : List ℕ) (at : ℕ) (scalar : Scalar) (end : ℕ) : Type 0 where
  pub forward : at < end
  pub within : end ≤ length line
  pub is : EndsValue line end → (d : Data)
      × (converted of_json (value 126 (tokens_from fresh line at)) ≡ Some (d, tokens_from after_value line end))
      × IsScalarOf scalar d
