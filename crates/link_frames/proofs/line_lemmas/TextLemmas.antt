-- How a line program goes on from some lines.
use Rattle.std.proofs.Common.{◌≡◌, ℕ, ◌+◌, List, [], ◌∷◌, ◌++◌, Option, Some, None, refl}
use Rattle.link_frames.specs.lines.Lines.{ended}
use Rattle.link_frames.specs.lines.LinePrograms.{text_by, bad_by}

module _ {S : Type 0} (next : S → List ℕ → Option (S × List ℕ)) where
  pub text_by-nil : (state : S) → text_by next state [] ≡ []
  unfolding text_by
  text_by-nil state = refl

  pub text_by-good : (state after : S) (line text : List ℕ) (lines : List (List ℕ))
      → next state line ≡ Some (after, text)
      → text_by next state (line ∷ lines) ≡ ended text ++ text_by next after lines
  unfolding text_by
  text_by-good state after line text lines e = rw e refl

  pub text_by-bad : (state : S) (line : List ℕ) (lines : List (List ℕ)) → next state line ≡ None
      → text_by next state (line ∷ lines) ≡ []
  unfolding text_by
  text_by-bad state line lines e = rw e refl

  pub bad_by-nil : (number : ℕ) (state : S) → bad_by next number state [] ≡ None
  unfolding bad_by
  bad_by-nil number state = refl

  pub bad_by-good : (number : ℕ) (state after : S) (line text : List ℕ) (lines : List (List ℕ))
      → next state line ≡ Some (after, text)
      → bad_by next number state (line ∷ lines) ≡ bad_by next (number + 1) after lines
  unfolding bad_by
  bad_by-good number state after line text lines e = rw e refl

  pub bad_by-bad : (number : ℕ) (state : S) (line : List ℕ) (lines : List (List ℕ)) → next state line ≡ None
      → bad_by next number state (line ∷ lines) ≡ Some number
  unfolding bad_by
  bad_by-bad number state line lines e = rw e refl
