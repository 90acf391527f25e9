-- A text is split at its first space.
use Rattle.std.proofs.Common.{◌≡◌, ◌≢◌, ℕ, ◌<◌, ◌^◌, true, false, nat_lt, List, ◌∷◌, ◌++◌, length, get_or}
use Rattle.std.proofs.Common.{Option, Some, None, Bor, option_map, refl, ap, arith, ◌∙◌, length-append}
use Rattle.std.proofs.lemmas.Bool.Decides.{nat_tests}
use Rattle.std.proofs.lemmas.Fmt.{digits_decimal}
use Rattle.std.proofs.lemmas.List.{get_or_append_left}
use Rattle.std.proofs.lemmas.List.Sums.{split_at_first, position_or_len_is, passes_at_first, fails_before_first}
use Rattle.std.proofs.lemmas.Option.{cond_some}
use Rattle.std.proofs.lemmas.Str.Parse.{numerals_by_value, tells_digits, not_in_digits}
use Rattle.std.proofs.lemmas.Str.Pattern.{IsSplitOnceResult, split_once_first}
use Rattle.std.proofs.Math.Seq.{get_or-append_seam, take-append_seam, drop-append-add}
use Rattle.std.specs.Fmt.{decimal}
use Rattle.std.specs.List.{position_or_len, before_first, after_first}
use Rattle.std.specs.Str.Parse.{AllDigits}
use Rattle.role_commands.specs.Numbers.{is_space, split_word, space}

-- what a split at the first space finds
pub split_word_is : (text : List ℕ) (r : Option (Bor (List ℕ) × Bor (List ℕ))) → IsSplitOnceResult 32 text r
    → split_word text ≡ option_map (λ words. (words.0.now, words.1.now)) r
unfolding split_word
split_word_is text None split =
    let none = split_once_first 32 text None split (omega arith) in
    let past : nat_lt (position_or_len is_space text) (length text) ≡ false = grind (arith, nat_tests) in
    rw past refl
split_word_is text (Some words) split =
    let first = split_once_first 32 text (Some words) split (omega arith) in
    let inside : nat_lt (position_or_len is_space text) (length text) ≡ true = grind (arith, nat_tests) in
    rw (inside, first.1, first.2) refl

-- a front with no space
pub split_word-front : (front back : List ℕ) → ((i : ℕ) → i < length front → get_or front i 0 ≢ 32)
    → split_word (front ++ (space ∷ back)) ≡ Some (front, back)
unfolding split_word
split_word-front front back plain =
    let text = front ++ (space ∷ back) in
    let within : length front < length text = omega (arith, length-append front (space ∷ back)) in
    let before : (k : ℕ) → k < length front → is_space (get_or text k 0) ≡ false = λ k h.
    let same : get_or text k 0 ≡ get_or front k 0 = get_or_append_left front (space ∷ back) 0 k h in
    let other : get_or front k 0 ≢ 32 = plain k h in rw same (grind (arith, nat_tests)) in
    let at : position_or_len is_space text ≡ length front =
    position_or_len_is is_space text (length front) 0 (omega (arith, within)) before
    (λ h. rw (get_or-append_seam front 32 back 0) refl) in
    let inside : nat_lt (length front) (length text) ≡ true = grind (arith, nat_tests) in
    rw (at, inside) (rw (take-append_seam, drop-append-add) refl)

-- the text is the two words and the space
pub split_word-joined : (text : List ℕ) (words : List ℕ × List ℕ) → split_word text ≡ Some words
    → text ≡ words.0 ++ (space ∷ words.1)
unfolding split_word
split_word-joined text words e =
    let found = position_or_len is_space text in
    let both : List ℕ × List ℕ = (before_first is_space text, after_first is_space text) in
    let parts = cond_some (nat_lt found (length text)) both words e in
    let inside : found < length text = grind (arith, nat_tests) in
    let passes = passes_at_first is_space text 0 inside in
    let here : get_or text found 0 ≡ space = grind (arith, nat_tests) in
    rw here at (split_at_first is_space text 0 inside) ∙ ap (λ w. w.0 ++ (space ∷ w.1)) parts.1

-- a number has no space
pub decimal_plain : (n : ℕ) → n < 2 ^ 64 → (i : ℕ) → i < length (decimal n) → get_or (decimal n) i 0 ≢ 32
decimal_plain n small i h =
    let numerals = numerals_by_value (AllDigits 10) tells_digits in
    not_in_digits numerals (decimal n) 32 (digits_decimal numerals n small) (λ r. omega (arith, r)) i h

-- a word has no space where a search for one ends behind it
pub plain_word : (word : List ℕ) → position_or_len is_space word ≡ length word → (i : ℕ) → i < length word
    → get_or word i 0 ≢ 32
plain_word word e i h here =
    let fails = fails_before_first is_space word i 0 (omega (arith, e)) in
    grind (arith, nat_tests)

-- a word, where a search for a space ends behind it
pub split_word-word : (word back : List ℕ) → position_or_len is_space word ≡ length word
    → split_word (word ++ (space ∷ back)) ≡ Some (word, back)
split_word-word word back e = split_word-front word back (plain_word word e)

-- a number
pub split_word-decimal : (n : ℕ) (back : List ℕ) → n < 2 ^ 64
    → split_word (decimal n ++ (space ∷ back)) ≡ Some (decimal n, back)
split_word-decimal n back small = split_word-front (decimal n) back (decimal_plain n small)
