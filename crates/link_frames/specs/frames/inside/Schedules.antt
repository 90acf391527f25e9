-- The words of a block's schedule that SHA-256's rounds take. It serves the code, and no public contract.
use Rattle.std.specs.Prelude.{◌≡◌, ℕ, ◌+◌, ◌<◌, List, [], ◌∷◌, length, slice_index}
use Rattle.sha2.specs.Sha256.{add32, round_constants, schedule}

-- word t of the schedule of block b
abbrev pub word : List ℕ → ℕ → ℕ
word b t = slice_index (schedule b 48) t

-- four of the words, from word t on
unfoldable pub four_words : List ℕ → ℕ → List ℕ
four_words b t = word b t ∷ word b (t + 1) ∷ word b (t + 2) ∷ word b (t + 3) ∷ []

-- the sums that the rounds before round t take: of each its word of block b and its constant
pub record AreRoundSums (b sums : List ℕ) (t : ℕ) : Type 0 where
  pub size : length sums ≡ 64
  pub at : (k : ℕ) → k < t → slice_index sums k ≡ add32 (word b k) (slice_index round_constants k)
