-- Flags of numbers.
use Rattle.std.proofs.Common.{◌≡◌, ℕ, zero, suc, ◌+◌, ◌<◌, ◌≤◌, ◌==◌, Bool, true, false, cond, ◌||◌}
use Rattle.std.proofs.Common.{List, [], ◌∷◌, ◌++◌, length, set, take, replicate, find, Some, None}
use Rattle.std.proofs.Common.{refl, sym, ap, ◌∙◌, arith, get_or-set_same, get_or-set_other, inl, inr}
use Rattle.std.proofs.lemmas.Bool.Decides.{nat_tests}
use Rattle.std.proofs.lemmas.Bool.{eqb-true, eqb-false, cases_lt}
use Rattle.std.proofs.lemmas.List.{take_all}
use Rattle.std.specs.List.{range_with_len}
use Rattle.lab_scripts.specs.inside.Flags.{flagged}
use Rattle.lab_scripts.specs.Labs.{with_number}

-- one flag more
pub flagged-set : (flags : List Bool) (n : ℕ) → n < length flags → flagged (set flags n true)
    ≡ with_number (flagged flags) n
flagged-set flags n within = λ i k. at k (k == n) refl i
  where
    at : (k : ℕ) (b : Bool) → (k == n) ≡ b → flagged (set flags n true) k ≡ ((k == n) || flagged flags k)
    at k true same =
        let e : k ≡ n = eqb-true k n same in
        ap (flagged (set flags n true)) e ∙ get_or-set_same flags n true false within
        ∙ ap (λ b. b || flagged flags k) (sym same)
    at k false other =
        get_or-set_other flags n k true false (λ e. eqb-false k n other (e))
        ∙ ap (λ b. b || flagged flags k) (sym other)

pub with_number-kept : (given : ℕ → Bool) (n k : ℕ) → given k ≡ true → with_number given n k ≡ true
with_number-kept given n k was = either (k == n) (given k) was
  where
    either : (a b : Bool) → b ≡ true → (a || b) ≡ true
    either true b e = refl
    either false b e = e

-- none is set behind all, and behind one more
pub none_behind : (given : ℕ → Bool) (n k : ℕ) → given k ≡ false → n + 1 ≤ k → with_number given n k ≡ false
none_behind given n k none h =
    let other : (k == n) ≡ false = grind (arith, nat_tests) in
    λ i. other i || none i

-- unset flags behind the others
pub flagged-padded : (flags : List Bool) (m : ℕ) → flagged (flags ++ replicate m false) ≡ flagged flags
flagged-padded flags m = λ i k. at k i
  where
    unset : (m k : ℕ) → flagged (replicate m false) k ≡ false
    unset zero k = refl
    unset (suc m) zero = refl
    unset (suc m) (suc k) = unset m k

    padded : (flags : List Bool) (k : ℕ) → flagged (flags ++ replicate m false) k ≡ flagged flags k
    padded [] k = unset m k
    padded (b ∷ flags) zero = refl
    padded (b ∷ flags) (suc k) = padded flags k

    at : (k : ℕ) → flagged (flags ++ replicate m false) k ≡ flagged flags k
    at k = padded flags k

pub flagged-resized : (flags : List Bool) (count m : ℕ) (resized : List Bool) → length flags ≤ count
    → resized ≡ take count flags ++ replicate m false → flagged resized ≡ flagged flags
flagged-resized flags count m resized few is =
    ap flagged (is ∙ ap (λ l. l ++ replicate m false) (take_all count flags few)) ∙ flagged-padded flags m

-- ---- the least number that passes

pub find-range : (p : ℕ → Bool) (from n m : ℕ) → ((k : ℕ) → from ≤ k → k < m → p k ≡ false) → from ≤ m → m < from + n
    → p m ≡ true → find p (range_with_len from n) ≡ Some m
find-range p from zero m before above within passes = absurd (omega arith)
find-range p from (suc n) m before above within passes =
    elim (cases_lt from m) [
      | inl below ↦
          let e : p from ≡ false = before from (omega arith) below in
          ap (λ b. cond b (Some from) (find p (range_with_len (from + 1) n))) e
          ∙ find-range p (from + 1) n m (λ k over under. before k (omega arith) under) (omega arith)
          (omega arith) passes
      | inr least ↦
          let e : from ≡ m = omega arith in
          ap (λ b. cond b (Some from) (find p (range_with_len (from + 1) n))) (ap p e ∙ passes) ∙ ap Some e
    ]

pub find-range-none : (p : ℕ → Bool) (from n : ℕ) → ((k : ℕ) → from ≤ k → k < from + n → p k ≡ false)
    → find p (range_with_len from n) ≡ None
find-range-none p from zero before = refl
find-range-none p from (suc n) before =
    let e : p from ≡ false = before from (omega arith) (omega arith) in
    ap (λ b. cond b (Some from) (find p (range_with_len (from + 1) n))) e
    ∙ find-range-none p (from + 1) n (λ k over under. before k (omega arith) (omega arith))
