-- What a crash leaves of bytes, of which each is as it was written or 0.
use Rattle.std.specs.Prelude.{◌≡◌, ◌≢◌, ℕ, List, [], ◌∷◌, ◌++◌}

-- so many bytes are there, and each that is not 0 is as it was; behind them stands anything
abbrev pub Fades : List ℕ → List ℕ → Type 0
Fades [] left = Unit {0}
Fades (byte ∷ bytes) [] = ⊥
Fades (byte ∷ bytes) (is ∷ left) = (is ≢ 0 → is ≡ byte) × Fades bytes left

-- the front stands as it is, and the rest has faded
pub record IsFaded (front bytes file : List ℕ) : Type 0 where
  pub rest : List ℕ
  pub is : file ≡ front ++ rest
  pub fades : Fades bytes rest
