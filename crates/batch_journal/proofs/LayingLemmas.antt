-- How the first bytes of a journal are laid.
use Rattle.std.proofs.Common.{◌≡◌, ⊎_elim, ℕ, ◌+◌, ◌-◌, ◌<◌, ◌≤◌}
use Rattle.std.proofs.Common.{List, [], ◌∷◌, ◌++◌, length, drop, replicate, get_or, ap, ◌∙◌}
use Rattle.std.proofs.Common.{arith}
use Rattle.std.proofs.lemmas.List.{length-replicate, drop-replicate, replicate-append-replicate}
use Rattle.sqlite_disk.specs.Disk.{Mixed, Only}
use Rattle.batch_journal.specs.inside.Disks.{IsOverwritten, MayBeOverwritten}
use Rattle.batch_journal.proofs.Overwriting.{zero_at}

pub first_left : (old new : List ℕ → Type 0) (c : List ℕ) → Only [] old → MayBeOverwritten 0 (0 ∷ []) old new →
    new c → length c ≤ 1
first_left old new c only may left = ⊎_elim
    (λ o. omega (arith, ap length (only c o)))
    (λ d. omega (arith, d.2.torn.no_longer, ap length (only d.0 d.1)))
    (may c left)

pub first_is : (old new : List ℕ) → old ≡ [] → IsOverwritten 0 (0 ∷ []) old new → new ≡ replicate 1 0
first_is old new is over = over (omega arith) ∙ ap (λ (l : List ℕ). 0 ∷ drop 1 l) is

pub zeros_left : (old new : List ℕ → Type 0) (zeros c : List ℕ) (size : ℕ) → 1 ≤ size →
    zeros ≡ replicate (length zeros) 0 → Only (replicate size 0) old →
    MayBeOverwritten 0 zeros old new → new c → get_or c 0 0 ≡ 0
zeros_left old new zeros c size some plain only may left = ⊎_elim
    (λ o. ap (λ (l : List ℕ). get_or l 0 0) (only c o) ∙ zero_at size 0)
    (λ d.
    let is : d.0 ≡ replicate size 0 = only d.0 d.1 in
    let long : length d.0 ≡ size = ap length is ∙ length-replicate {A = ℕ} size 0 in
    first zeros d.0 d.2 (omega (arith, long)) (ap (λ (l : List ℕ). get_or l 0 0) is ∙ zero_at size 0)
    (ap (λ (l : List ℕ). get_or l 0 0) plain ∙ zero_at (length zeros) 0))
    (may c left)
  where
    first : (zeros d : List ℕ) → Mixed 0 zeros d c → 0 < length d → get_or d 0 0 ≡ 0 → get_or zeros 0 0 ≡ 0 →
        get_or c 0 0 ≡ 0
    first [] d m low was is = m.torn.above 0 low (omega arith) ∙ was
    first (z ∷ zeros) d m low was is = ⊎_elim (λ e. e ∙ was) (λ e. e ∙ is) (m.each 0 (omega arith) low)

pub zeros_are : (old new zeros : List ℕ) (size : ℕ) → zeros ≡ replicate (length zeros) 0 → old ≡ replicate size 0 →
    IsOverwritten 0 zeros old new →
    new ≡ replicate (length zeros + (size - length zeros)) 0
zeros_are old new zeros size plain is over =
    over (omega arith) ∙ ap (λ n. zeros ++ drop n old) (omega arith)
    ∙ ap (λ (l : List ℕ). zeros ++ drop (length zeros) l) is
    ∙ ap (λ (l : List ℕ). zeros ++ l) (drop-replicate (length zeros) size 0)
    ∙ ap (λ (l : List ℕ). l ++ replicate (size - length zeros) 0) plain
    ∙ replicate-append-replicate (length zeros) (size - length zeros) 0
