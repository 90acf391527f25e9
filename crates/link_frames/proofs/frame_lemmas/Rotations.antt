-- Rotations of words of 32 bits under exclusive or, by the distances over which they gather bits.
use Rattle.std.proofs.Common.{◌≡◌, ℕ, ◌+◌, ◌-◌, ◌*◌, ◌/◌, ◌%◌, ◌^◌, ◌<◌, ◌≤◌, List, [], ◌∷◌, ◌++◌, max, bit_xor}
use Rattle.std.proofs.Common.{refl, sym, ap, ◌∙◌, arith, w32, inl, inr, pow_pos, mod-lt, shr-shr}
use Rattle.std.specs.Prelude.{map}
use Rattle.std.specs.Int.{bit_at, rotate_right}
use Rattle.std.specs.Int.Bits.{bit_or}
use Rattle.std.proofs.lemmas.Bool.{cases_lt}
use Rattle.std.proofs.lemmas.Nat.{or_lt, shr_le, shr_split, xor_lt}
use Rattle.std.proofs.lemmas.Nat.Bits.{bit_at-lt, bit_at-zero, bit_at_above, bit_at_cat_high, bit_at_cat_low}
use Rattle.std.proofs.lemmas.Nat.Bits.{bit_at_or, bit_at_xor, same_from_bits_below}

abbrev turned : ℕ → ℕ → ℕ
turned x k = rotate_right w32 x k

turned_lt : (x k : ℕ) → x < 2 ^ 32 → turned x k < 2 ^ 32
turned_lt x k fits = or_lt 32 _ _ (omega (arith, shr_le x (k % 32))) (mod-lt _ (pow_pos 32))

-- a rotation by k shifts down by k, and up by what is left of the word
two_shifts : (x k j : ℕ) → k + j ≡ 32 → 0 < k → 0 < j → turned x k ≡ bit_or (x / 2 ^ k) (x * 2 ^ j % 2 ^ 32)
two_shifts x k j e hk hj =
    let down : k % 32 ≡ k = omega arith in
    let up : (32 - k) % 32 ≡ j = omega arith in rw (down, up) refl

bit_at_shr : (x k i : ℕ) → bit_at (x / 2 ^ k) i ≡ bit_at x (i + k)
bit_at_shr x k i =
    let both : k + i ≡ i + k = omega arith in
    ap (λ (n : ℕ). n % 2) (shr-shr x k i ∙ ap (λ (n : ℕ). x / 2 ^ n) both)

bit_at_mod : (x k i : ℕ) → i < k → bit_at (x % 2 ^ k) i ≡ bit_at x i
bit_at_mod x k i lt =
    let split : x / 2 ^ k * 2 ^ k + x % 2 ^ k ≡ x = omega (arith, shr_split x k) in
    sym (bit_at_cat_low (x / 2 ^ k) k (x % 2 ^ k) i lt) ∙ ap (λ (n : ℕ). bit_at n i) split

none_below : (x j : ℕ) → x * 2 ^ j ≡ x * 2 ^ j + 0
none_below x j = omega arith

bit_at_shl_low : (x j i : ℕ) → i < j → bit_at (x * 2 ^ j) i ≡ 0
bit_at_shl_low x j i lt =
    ap (λ (n : ℕ). bit_at n i) (none_below x j) ∙ bit_at_cat_low x j 0 i lt ∙ bit_at-zero i

bit_at_shl_high : (x j i : ℕ) → j ≤ i → bit_at (x * 2 ^ j) i ≡ bit_at x (i - j)
bit_at_shl_high x j i ge = ap (λ (n : ℕ). bit_at n i) (none_below x j) ∙ bit_at_cat_high x j 0 i (pow_pos j) ge

max_none : (p : ℕ) → max p 0 ≡ p
max_none p = omega arith

none_max : (p : ℕ) → max 0 p ≡ p
none_max p = omega arith

-- bit i of a rotation stood k places above it, round the word
turned_bit : (x k i : ℕ) → 0 < k → k < 32 → x < 2 ^ 32 → i < 32 → bit_at (turned x k) i ≡ bit_at x ((i + k) % 32)
turned_bit x k i hk lk fits li =
    let j : ℕ = 32 - k in
    let shifts : turned x k ≡ bit_or (x / 2 ^ k) (x * 2 ^ j % 2 ^ 32) =
    two_shifts x k j (omega arith) hk (omega arith) in
    let low = bit_at_shr x k i in
    let high = bit_at_mod (x * 2 ^ j) 32 i li in
    ap (λ (n : ℕ). bit_at n i) shifts ∙ bit_at_or (x / 2 ^ k) (x * 2 ^ j % 2 ^ 32) i ∙ elim (cases_lt i j) [
      | inl lt ↦
          let place : i + k ≡ (i + k) % 32 = omega arith in
          let none = high ∙ bit_at_shl_low x j i lt in
          (λ s. max (low s) (none s)) ∙ max_none (bit_at x (i + k)) ∙ ap (bit_at x) place
      | inr ge ↦
          let place : i - j ≡ (i + k) % 32 = omega arith in
          let none = low ∙ bit_at_above x 32 (i + k) fits (omega arith) in
          let some = high ∙ bit_at_shl_high x j i ge in
          (λ s. max (none s) (some s)) ∙ none_max (bit_at x (i - j)) ∙ ap (bit_at x) place
    ]

-- the sum of the bits of x at these distances above place i, round the word
abbrev pub bits_above : ℕ → List ℕ → ℕ → ℕ
bits_above x [] i = 0
bits_above x (k ∷ ks) i = bit_at x ((i + k) % 32) + bits_above x ks i

-- each bit of the word is the exclusive or of the bits of x at these distances above it
pub record Gathers (x : ℕ) (ks : List ℕ) (word : ℕ) : Type 0 where
  pub fits : word < 2 ^ 32
  pub bits : (i : ℕ) → i < 32 → bit_at word i ≡ bits_above x ks i % 2

-- the distances fix the word
gathered_once : (x u v : ℕ) (ks ls : List ℕ) → ks ≡ ls → Gathers x ks u → Gathers x ls v → u ≡ v
gathered_once x u v ks ls same g h =
    same_from_bits_below 32 u v g.fits h.fits (λ i low.
    g.bits i low ∙ ap (λ (l : List ℕ). bits_above x l i % 2) same ∙ sym (h.bits i low))

alone : (p : ℕ) → p < 2 → p ≡ (p + 0) % 2
alone p hp = omega arith

gathers_one : (x k : ℕ) → 0 < k → k < 32 → x < 2 ^ 32 → Gathers x (k ∷ []) (turned x k)
gathers_one x k hk lk hx = record {
  fits = turned_lt x k hx;
  bits = λ i low. turned_bit x k i hk lk hx low ∙ alone (bit_at x ((i + k) % 32)) (bit_at-lt x ((i + k) % 32));
}

one_more : (p q : ℕ) → (p % 2 + q) % 2 ≡ (q + p) % 2
one_more p q = omega arith

-- the word itself is at no distance
gathers_itself : (x w : ℕ) (ks : List ℕ) → x < 2 ^ 32 → Gathers x ks w → Gathers x (0 ∷ ks) (bit_xor w x)
gathers_itself x w ks hx g = record {
  fits = xor_lt 32 w x g.fits hx;
  bits = λ i low.
      let here : i ≡ (i + 0) % 32 = omega arith in
      let said = g.bits i low in
      bit_at_xor w x i ∙ (λ s. (said s + bit_at x (here s)) % 2)
      ∙ one_more (bits_above x ks i) (bit_at x ((i + 0) % 32));
}

further : (x d i : ℕ) (ks : List ℕ) → bits_above x ks ((i + d) % 32) ≡ bits_above x (map (λ k. k + d) ks) i
further x d i [] = refl
further x d i (k ∷ ks) =
    let same : ((i + d) % 32 + k) % 32 ≡ (i + (k + d)) % 32 = omega arith in
    let rest = further x d i ks in λ s. bit_at x (same s) + rest s

-- a rotation adds to each distance
gathers_further : (x w d : ℕ) (ks : List ℕ) → 0 < d → d < 32 → Gathers x ks w
    → Gathers x (map (λ k. k + d) ks) (turned w d)
gathers_further x w d ks hd ld g = record {
  fits = turned_lt w d g.fits;
  bits = λ i low.
      turned_bit w d i hd ld g.fits low ∙ g.bits ((i + d) % 32) (omega arith)
      ∙ ap (λ (n : ℕ). n % 2) (further x d i ks);
}

both_sums : (p q r : ℕ) → p + q ≡ r → (p % 2 + q % 2) % 2 ≡ r % 2
both_sums p q r e = omega arith

all_bits : (x i : ℕ) (ks ls : List ℕ) → bits_above x ks i + bits_above x ls i ≡ bits_above x (ks ++ ls) i
all_bits x i [] ls = omega arith
all_bits x i (k ∷ ks) ls = omega (arith, all_bits x i ks ls)

gathers_both : (x u v : ℕ) (ks ls : List ℕ) → Gathers x ks u → Gathers x ls v → Gathers x (ks ++ ls) (bit_xor u v)
gathers_both x u v ks ls g h = record {
  fits = xor_lt 32 u v g.fits h.fits;
  bits = λ i low.
      let left = g.bits i low in
      let right = h.bits i low in
      bit_at_xor u v i ∙ (λ s. (left s + right s) % 2)
      ∙ both_sums (bits_above x ks i) (bits_above x ls i) (bits_above x (ks ++ ls) i) (all_bits x i ks ls);
}

-- three rotations of a word, each by what its distance has more than the one before
pub by_differences : (x l m n : ℕ) → 0 < l → l < m → m < n → n < 32 → x < 2 ^ 32
    → turned (bit_xor (turned (bit_xor (turned x (n - m)) x) (m - l)) x) l
    ≡ bit_xor (bit_xor (turned x l) (turned x m)) (turned x n)
by_differences x l m n hl hm hn most fits =
    let one : ℕ = turned x (n - m) in
    let two : ℕ = turned (bit_xor one x) (m - l) in
    let g1 : Gathers x ((n - m) ∷ []) one = gathers_one x (n - m) (omega arith) (omega arith) fits in
    let g2 : Gathers x ((0 + (m - l)) ∷ (n - m + (m - l)) ∷ []) two =
    gathers_further x (bit_xor one x) (m - l) (0 ∷ (n - m) ∷ []) (omega arith) (omega arith)
    (gathers_itself x one ((n - m) ∷ []) fits g1) in
    let g3 : Gathers x ((0 + l) ∷ (0 + (m - l) + l) ∷ (n - m + (m - l) + l) ∷ []) (turned (bit_xor two x) l) =
    gathers_further x (bit_xor two x) l (0 ∷ (0 + (m - l)) ∷ (n - m + (m - l)) ∷ []) hl (omega arith)
    (gathers_itself x two ((0 + (m - l)) ∷ (n - m + (m - l)) ∷ []) fits g2) in
    let apart : Gathers x (l ∷ m ∷ n ∷ []) (bit_xor (bit_xor (turned x l) (turned x m)) (turned x n)) =
    gathers_both x (bit_xor (turned x l) (turned x m)) (turned x n) (l ∷ m ∷ []) (n ∷ [])
    (gathers_both x (turned x l) (turned x m) (l ∷ []) (m ∷ []) (gathers_one x l hl (omega arith) fits)
    (gathers_one x m (omega arith) (omega arith) fits))
    (gathers_one x n (omega arith) most fits) in
    let first : 0 + l ≡ l = omega arith in
    let second : 0 + (m - l) + l ≡ m = omega arith in
    let third : n - m + (m - l) + l ≡ n = omega arith in
    gathered_once x _ _ _ _ (λ s. first s ∷ second s ∷ third s ∷ []) g3 apart
