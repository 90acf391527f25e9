-- The rounds of SHA-256, with each word and its constant added up beforehand.
use Rattle.std.proofs.Common.{◌≡◌, ℕ, ◌+◌, ◌<◌, List, [], ◌∷◌, slice_index, sym, ap, ◌∙◌, arith}
use Rattle.sha2.specs.Sha256.{add32, big_sigma0, big_sigma1, ch, maj, round, round_constants, rounds, schedule}
use Rattle.sha2.proofs.Schedule256.{rounds_next}
use Rattle.link_frames.specs.frames.inside.Schedules.{word, AreRoundSums}

-- the standard's sum of five, two of which are summed before
added_up : (h sum choice sigma k w : ℕ) → sum ≡ add32 w k
    → add32 (add32 (add32 (add32 h sigma) choice) k) w ≡ add32 (add32 (add32 h sum) choice) sigma
added_up h sum choice sigma k w e = omega arith

-- what the next a and the next e both take, T 1 of the standard
abbrev pub for_both : ℕ → ℕ → ℕ → ℕ → ℕ → ℕ
for_both e f g h sum = add32 (add32 (add32 h sum) (ch e f g)) (big_sigma1 e)

-- a round finds the next a and the next e
pub found : (a b c d e f g h sum k w : ℕ) → sum ≡ add32 w k
    → round (a ∷ b ∷ c ∷ d ∷ e ∷ f ∷ g ∷ h ∷ []) k w
    ≡ add32 (for_both e f g h sum) (add32 (big_sigma0 a) (maj a b c)) ∷ a ∷ b ∷ c
    ∷ add32 d (for_both e f g h sum) ∷ e ∷ f ∷ g ∷ []
found a b c d e f g h sum k w said =
    ap (λ (n : ℕ). add32 n (add32 (big_sigma0 a) (maj a b c)) ∷ a ∷ b ∷ c ∷ add32 d n ∷ e ∷ f ∷ g ∷ [])
    (added_up h sum (ch e f g) (big_sigma1 e) k w said)

-- one round more, where its sum stands
pub after_one : (b h sums v next : List ℕ) (t u : ℕ) → t < u → AreRoundSums b sums u
    → ((k w : ℕ) → slice_index sums t ≡ add32 w k → round v k w ≡ next)
    → v ≡ rounds h (schedule b 48) t → next ≡ rounds h (schedule b 48) (t + 1)
after_one b h sums v next t u lt held finds before =
    let k : ℕ = slice_index round_constants t in
    let w : ℕ = word b t in
    sym (finds k w (held.at t lt)) ∙ ap (λ (l : List ℕ). round l k w) before ∙ sym (rounds_next h (schedule b 48) t)
