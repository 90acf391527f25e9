-- What a program means that goes over the lines of its input, over any state: `next` gives the state after a line
-- and the text that is due for the line, and nothing where the line is bad.
use Rattle.std.specs.Prelude.{◌≡◌, ℕ, ◌+◌, List, [], ◌∷◌, ◌++◌, ⊤, Option, Some, None}
use Rattle.std.specs.Option.{option_map_or}
use Rattle.std.specs.Io.KnownBytes.{Appends}
use Rattle.link_frames.specs.lines.Devices.{AppendsFront}
use Rattle.link_frames.specs.lines.Lines.{ended}

module _ {S : Type 0} (next : S → List ℕ → Option (S × List ℕ)) where
  -- the text for the lines up to the first bad one, each ended as a line is
  unfoldable pub text_by : S → List (List ℕ) → List ℕ
  text_by state [] = []
  text_by state (line ∷ lines) = option_map_or (λ p. ended p.1 ++ text_by p.0 lines) (next state line) []

  -- the number of the first bad line, if there is one; the first line has this number
  unfoldable pub bad_by : ℕ → S → List (List ℕ) → Option ℕ
  bad_by number state [] = None
  bad_by number state (line ∷ lines) =
      option_map_or (λ p. bad_by (number + 1) p.0 lines) (next state line) (Some number)

-- the known bytes of a reader are this input; a reader of unknown bytes may have any
abbrev pub HasBytes : Option (List ℕ) → List ℕ → Type 0
HasBytes None input = ⊤
HasBytes (Some bytes) input = bytes ≡ input

-- a prefix of the text of the input was written
abbrev pub WroteFront : (List ℕ → List ℕ) → Option (List ℕ) → Option (List ℕ) → Option (List ℕ) → Type 0
WroteFront text reader writer_old writer_new =
    (input : List ℕ) × HasBytes reader input × AppendsFront writer_old writer_new (text input)

-- some of what was held back was written
abbrev pub Moved : Option (List ℕ) → Option (List ℕ) → List ℕ → List ℕ → Type 0
Moved writer_old writer_new held_old held_new =
    (part : List ℕ) × (held_old ≡ part ++ held_new) × Appends writer_old writer_new part
