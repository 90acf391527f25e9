-- What SHA-256's compression of a block holds after so many rounds: four words of the schedule in each of four
-- vectors, the sums of the rounds, and the working variables.
use Rattle.std.proofs.Common.{◌≡◌, ℕ, ◌+◌, ◌<◌, ◌≤◌, List, [], ◌∷◌, replicate, slice_index, refl, sym, ap, ◌∙◌, arith}
use Rattle.sha2.specs.Sha256.{first_words, rounds, schedule}
use Rattle.sha2.proofs.Schedule256.{slice_index-first_words, slice_index-schedule_first}
use Rattle.link_frames.specs.frames.inside.Schedules.{word, four_words, AreRoundSums}
use Rattle.link_frames.proofs.frame_lemmas.FourLanes.{same_four}

-- block b from the hash value h, before round t
pub record BeforeRound (b h sums w0 w4 w8 w12 v : List ℕ) (t : ℕ) : Type 0 where
  pub sums_till : AreRoundSums b sums (t + 16)
  pub words_0 : w0 ≡ four_words b t
  pub words_4 : w4 ≡ four_words b (t + 4)
  pub words_8 : w8 ≡ four_words b (t + 8)
  pub words_12 : w12 ≡ four_words b (t + 12)
  pub rounded : v ≡ rounds h (schedule b 48) t

-- the first words of the schedule are the block's
first_word : (b words : List ℕ) (k : ℕ) → words ≡ first_words b 16 → k < 16 → slice_index words k ≡ word b k
first_word b words k e lt =
    ap (λ (l : List ℕ). slice_index l k) e ∙ slice_index-first_words b 16 k lt
    ∙ sym (slice_index-schedule_first b 48 k lt)

pub first_four : (b words : List ℕ) (t : ℕ) → words ≡ first_words b 16 → t + 4 ≤ 16
    → slice_index words t ∷ slice_index words (t + 1) ∷ slice_index words (t + 2) ∷ slice_index words (t + 3) ∷ []
    ≡ four_words b t
unfolding four_words
first_four b words t e le =
    same_four (first_word b words t e (omega arith)) (first_word b words (t + 1) e (omega arith))
    (first_word b words (t + 2) e (omega arith)) (first_word b words (t + 3) e (omega arith))

pub no_sums : (b : List ℕ) → AreRoundSums b (replicate 64 0) 0
no_sums b = record { size = refl; at = λ k lt. absurd (omega arith) }

pub fewer_sums : (b sums : List ℕ) (t u : ℕ) → u ≤ t → AreRoundSums b sums t → AreRoundSums b sums u
fewer_sums b sums t u le held = record { size = held.size; at = λ k lt. held.at k (omega arith) }

pub words_at : (b w : List ℕ) (i j : ℕ) → i ≡ j → w ≡ four_words b i → w ≡ four_words b j
words_at b w i j same e = e ∙ ap (four_words b) same
