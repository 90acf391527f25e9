-- Blocks of SHA-256 as their words, where the block's bytes are known one by one.
use Rattle.std.proofs.Common.{◌≡◌, ℕ, zero, suc, ◌+◌, ◌^◌, ◌<◌, List, [], ◌∷◌, ◌++◌}
use Rattle.std.proofs.Common.{length, slice_index, slice_set, drop, replicate}
use Rattle.std.proofs.Common.{refl, sym, ap, ◌∙◌, arith, add-one, drop-cons}
use Rattle.std.proofs.lemmas.List.{drop_all}
use Rattle.std.proofs.lemmas.Nat.{from_be_bytes-to_be_bytes_4}
use Rattle.sha2.specs.Sha256.{digest_bytes, first_words, padding, word_at}

-- so many elements, from one on
abbrev elements : List ℕ → ℕ → ℕ → List ℕ
elements xs i zero = []
elements xs i (suc n) = slice_index xs i ∷ elements xs (i + 1) n

elements_from : (xs : List ℕ) (i n : ℕ) → i + n ≡ length xs → drop i xs ≡ elements xs i n
elements_from xs i zero e = drop_all i xs (omega arith)
elements_from xs i (suc n) e =
    let more : drop (i + 1) xs ≡ elements xs (i + 1) n = elements_from xs (i + 1) n (omega arith) in
    rw (drop-cons xs i 0 (omega arith), ← add-one, more) refl

-- the words of a frame's fields and the padding behind them
pub words_of_fields : (xs : List ℕ) → length xs ≡ 22
    → word_at xs 0 ∷ word_at xs 4 ∷ word_at xs 8 ∷ word_at xs 12 ∷ word_at xs 16
    ∷ word_at (slice_index xs 20 ∷ slice_index xs 21 ∷ 0x80 ∷ 0 ∷ []) 0
    ∷ 0 ∷ 0 ∷ 0 ∷ 0 ∷ 0 ∷ 0 ∷ 0 ∷ 0 ∷ 0 ∷ 688 ∷ []
    ≡ first_words (xs ++ padding 86) 16
unfolding first_words
words_of_fields xs e =
    let whole : xs ≡ elements xs 0 22 = elements_from xs 0 22 (sym e) in
    ap (λ (l : List ℕ). first_words (l ++ padding 86) 16) (sym whole)

-- the words of a hash value's bytes and the padding behind them
pub words_of_digest : (hash : List ℕ) → length hash ≡ 8 → ((k : ℕ) → slice_index hash k < 2 ^ 32)
    → slice_set (slice_set (hash ++ replicate 8 0) 8 0x80000000) 15 768
    ≡ first_words (digest_bytes hash 8 ++ padding 96) 16
unfolding first_words digest_bytes
words_of_digest hash e fits =
    let whole : hash ≡ elements hash 0 8 = elements_from hash 0 8 (sym e) in
    let back = λ (k : ℕ). sym (from_be_bytes-to_be_bytes_4 (slice_index hash k) (fits k)) in
    ap (λ (l : List ℕ). slice_set (slice_set (l ++ replicate 8 0) 8 0x80000000) 15 768) whole
    ∙ (λ i.
    back 0 i ∷ back 1 i ∷ back 2 i ∷ back 3 i ∷ back 4 i ∷ back 5 i ∷ back 6 i ∷ back 7 i
    ∷ 0x80000000 ∷ 0 ∷ 0 ∷ 0 ∷ 0 ∷ 0 ∷ 0 ∷ 768 ∷ [])
