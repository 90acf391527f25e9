-- The words of SHA-256's schedule, four at a time, and with the constants of their rounds.
use Rattle.std.proofs.Common.{◌≡◌, ℕ, ◌+◌, ◌-◌, ◌<◌, ◌≤◌, List, [], ◌∷◌, slice_index, slice_set, subst}
use Rattle.std.proofs.Common.{refl, sym, ap, ◌∙◌, arith, inl, inr}
use Rattle.std.proofs.lemmas.List.{get_or-set_same, get_or-set_other, length-set}
use Rattle.std.proofs.lemmas.Bool.{cases_lt}
use Rattle.sha2.specs.Sha256.{add32, round_constants, small_sigma0, small_sigma1}
use Rattle.sha2.proofs.Schedule256.{slice_index-schedule_next}
use Rattle.link_frames.specs.frames.inside.Schedules.{word, four_words, AreRoundSums}
use Rattle.link_frames.proofs.frame_lemmas.FourLanes.{same_four}

turned : (w s v z : ℕ) → add32 (add32 (add32 w s) v) z ≡ add32 (add32 (add32 z v) s) w
turned w s v z = omega arith

-- a word from the words before it, with the word two before it added last
word_from : (b : List ℕ) (n w v y z : ℕ) → 16 ≤ n → n < 64
    → w ≡ word b (n - 16) → v ≡ word b (n - 15) → y ≡ word b (n - 7) → z ≡ word b (n - 2)
    → add32 (add32 (add32 w (small_sigma0 v)) y) (small_sigma1 z) ≡ word b n
word_from b n w v y z low high ew ev ey ez =
    turned w (small_sigma0 v) y (small_sigma1 z)
    ∙ rw (ew, ev, ey, ez) (sym (slice_index-schedule_next b 48 n low (omega arith)))

no_more : (x y : ℕ) → add32 (add32 x y) (small_sigma1 0) ≡ add32 x y
no_more x y =
    let none : small_sigma1 0 ≡ 0 = refl in
    rw none (omega arith)

none_between : (x y z : ℕ) → add32 (add32 (add32 x y) (small_sigma1 0)) z ≡ add32 (add32 x y) z
none_between x y z = ap (λ n. add32 n z) (no_more x y)

-- what a word takes of the words before it, without the word two before it
abbrev pub known : ℕ → ℕ → ℕ → ℕ
known w v y = add32 (add32 w (small_sigma0 v)) y

-- four words from the sixteen before them
pub followed : (b : List ℕ) (t : ℕ) → t + 20 ≤ 64
    → (x y : ℕ)
    → x ≡ add32 (known (word b t) (word b (t + 1)) (word b (t + 8 + 1))) (small_sigma1 (word b (t + 12 + 2)))
    → y ≡ add32 (known (word b (t + 1)) (word b (t + 2)) (word b (t + 8 + 2))) (small_sigma1 (word b (t + 12 + 3)))
    → add32 x (small_sigma1 0) ∷ add32 y (small_sigma1 0)
    ∷ add32 (add32 (known (word b (t + 2)) (word b (t + 3)) (word b (t + 8 + 3))) (small_sigma1 0)) (small_sigma1 x)
    ∷ add32 (add32 (known (word b (t + 3)) (word b (t + 4)) (word b (t + 12))) (small_sigma1 0)) (small_sigma1 y)
    ∷ []
    ≡ four_words b (t + 16)
unfolding four_words
followed b t fits x y ex ey =
    let at = λ (i j : ℕ) (e : i ≡ j). ap (word b) e in
    let e0 : x ≡ word b (t + 16) =
    ex
    ∙ word_from b (t + 16) _ _ _ _ (omega arith) (omega arith)
    (at _ _ (omega arith)) (at _ _ (omega arith)) (at _ _ (omega arith)) (at _ _ (omega arith)) in
    let e1 : y ≡ word b (t + 16 + 1) =
    ey
    ∙ word_from b (t + 16 + 1) _ _ _ _ (omega arith) (omega arith)
    (at _ _ (omega arith)) (at _ _ (omega arith)) (at _ _ (omega arith)) (at _ _ (omega arith)) in
    same_four
    (rw ex (no_more _ _) ∙ sym ex ∙ e0)
    (rw ey (no_more _ _) ∙ sym ey ∙ e1)
    (none_between _ _ _
    ∙ word_from b (t + 16 + 2) _ _ _ _ (omega arith) (omega arith)
    (at _ _ (omega arith)) (at _ _ (omega arith)) (at _ _ (omega arith)) (e0 ∙ at _ _ (omega arith)))
    (none_between _ _ _
    ∙ word_from b (t + 16 + 3) _ _ _ _ (omega arith) (omega arith)
    (at _ _ (omega arith)) (at _ _ (omega arith)) (at _ _ (omega arith)) (e1 ∙ at _ _ (omega arith)))

-- one sum more stands
sums_more : (b sums : List ℕ) (t d : ℕ) → t < 64 → AreRoundSums b sums t
    → d ≡ add32 (word b t) (slice_index round_constants t) → AreRoundSums b (slice_set sums t d) (t + 1)
sums_more b sums t d lt held e = record {
  size = length-set sums t d ∙ held.size;
  at = λ k below. elim (cases_lt k t) [
    | inl before ↦ get_or-set_other sums t k d 0 (omega arith) ∙ held.at k before
    | inr here ↦
        let same : t ≡ k = omega arith in
        rw (← same) (get_or-set_same sums t d 0 (omega (arith, held.size)) ∙ e)
  ];
}

pub set_four : (b sums : List ℕ) (t d0 d1 d2 d3 : ℕ) → t + 4 ≤ 64 → AreRoundSums b sums t
    → d0 ∷ d1 ∷ d2 ∷ d3 ∷ [] ≡ add32 (word b t) (slice_index round_constants t)
    ∷ add32 (word b (t + 1)) (slice_index round_constants (t + 1))
    ∷ add32 (word b (t + 2)) (slice_index round_constants (t + 2))
    ∷ add32 (word b (t + 3)) (slice_index round_constants (t + 3)) ∷ []
    → AreRoundSums b (slice_set (slice_set (slice_set (slice_set sums t d0) (t + 1) d1) (t + 2) d2) (t + 3) d3) (t + 4)
set_four b sums t d0 d1 d2 d3 fits held same =
    let e0 : d0 ≡ add32 (word b t) (slice_index round_constants t) = cc in
    let e1 : d1 ≡ add32 (word b (t + 1)) (slice_index round_constants (t + 1)) = cc in
    let e2 : d2 ≡ add32 (word b (t + 2)) (slice_index round_constants (t + 2)) = cc in
    let e3 : d3 ≡ add32 (word b (t + 3)) (slice_index round_constants (t + 3)) = cc in
    let n2 : t + 1 + 1 ≡ t + 2 = omega arith in
    let n3 : t + 2 + 1 ≡ t + 3 = omega arith in
    let n4 : t + 3 + 1 ≡ t + 4 = omega arith in
    let s1 = sums_more b sums t d0 (omega arith) held e0 in
    let s2 = subst (AreRoundSums b _) n2 (sums_more b _ (t + 1) d1 (omega arith) s1 e1) in
    let s3 = subst (AreRoundSums b _) n3 (sums_more b _ (t + 2) d2 (omega arith) s2 e2) in
    subst (AreRoundSums b _) n4 (sums_more b _ (t + 3) d3 (omega arith) s3 e3)
