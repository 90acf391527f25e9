-- Bytes in a line: digits of either case spell the same bytes, and nothing else does.
use Rattle.std.proofs.Common.{◌≡◌, ℕ, zero, suc, ◌+◌, ◌*◌, ◌/◌, ◌%◌, ◌<◌, ◌==◌, ◌&&◌, nat_lt, Bool, true, false}
use Rattle.std.proofs.Common.{cond, if◌then◌else◌, inl, inr, List, [], ◌∷◌, length, codes, slice_index, Option}
use Rattle.std.proofs.Common.{Some, None, Result, Ok, Err, refl, sym, ap, ◌∙◌, arith, subst, eqb-true, eq-eqb}
use Rattle.std.proofs.lemmas.Bool.{cases_lt, and_parts, true≢false}
use Rattle.std.proofs.lemmas.Bool.Decides.{nat_tests}
use Rattle.std.proofs.lemmas.Bool.{ne_eqb}
use Rattle.std.proofs.lemmas.List.{length-map}
use Rattle.std.proofs.lemmas.Option.{same_Some, none-some}
use Rattle.std.proofs.lemmas.Slice.Eq.{bytes_eq-Decides}
use Rattle.std.proofs.lemmas.Str.Ascii.{IsAscii-nil, IsAscii-cons}
use Rattle.std.specs.Result.{result_ok, result_unwrap_or}
use Rattle.std.specs.Char.{to_ascii_lowercase}
use Rattle.std.specs.Str.{bytes_eq, str_to_ascii_lowercase, IsAscii}
use Rattle.hex.specs.Hex.{decode_of, decode_pairs, encode_with, encode_lower, lower_digits}
use Rattle.hex.specs.Hex.{hex_digit_value, digit_or_error, value_at, pair_value, ◌>>=◌}
use Rattle.hex.specs.declared.error.FromHexError.{FromHexError}
use Rattle.hex.proofs.HexLemmas.{decode_of-even, decode_of-ok, decode_of-encode_lower}
use Rattle.hex.proofs.HexLemmas.{length-encode_with, IsAscii-encode_with}
use Rattle.hex.proofs.Pairs.{cons_byte, decode_pairs-ok_pair}
use Rattle.role_commands.specs.Bytes.{IsBytes}
use Rattle.role_commands.proofs.Exported.{Ascii, word_text}
use Rattle.lab_scripts.specs.OrderSpellings.{bytes_spelling, SpellsBytes}
use Rattle.lab_scripts.specs.Orders.{bytes_of}
use Rattle.lab_scripts.proofs.Spelled.{ok_of}

-- ---- one digit

-- a digit's value does not depend on its case
digit_lower : (c : ℕ) → hex_digit_value (to_ascii_lowercase c) ≡ hex_digit_value c
digit_lower c = grind (arith, nat_tests)

-- the digits are those of the characters from `0` and from `a`
abbrev digit_of : ℕ → ℕ
digit_of v = cond (nat_lt v 10) (v + 48) (v + 87)

abbrev are_digits : ℕ → Bool
are_digits zero = true
are_digits (suc n) = (slice_index lower_digits n == digit_of n) && are_digits n

are_digits-at : (n v : ℕ) → are_digits n ≡ true → v < n → slice_index lower_digits v ≡ digit_of v
are_digits-at zero v h below = absurd (omega arith)
are_digits-at (suc n) v h below =
    let (is, others) = and_parts (slice_index lower_digits n == digit_of n) (are_digits n) h in
    elim (cases_lt v n) [
      | inl under ↦ are_digits-at n v others under
      | inr over ↦ let e : v ≡ n = omega arith in rw e (eqb-true _ _ is)
    ]

-- a digit in lower case is the digit of its value
digit_small : (c v : ℕ) → hex_digit_value c ≡ Some v → v < 16
digit_small c v e = grind (arith, nat_tests)

digit_spelled : (c v : ℕ) → hex_digit_value c ≡ Some v → slice_index lower_digits v ≡ to_ascii_lowercase c
digit_spelled c v e = are_digits-at 16 v refl (digit_small c v e) ∙ is
  where
    is : digit_of v ≡ to_ascii_lowercase c
    is = grind (arith, nat_tests)

digit_is : (c i : ℕ) (o : Option ℕ) (v : ℕ) → digit_or_error c i o ≡ Ok v → o ≡ Some v
digit_is c i (Some w) v e = cc
digit_is c i None v e = cc

-- ---- two digits

after_ok : {A B : Type 0} (r : Result A FromHexError) (f : A → Result B FromHexError) (y : B) → (r >>= f) ≡ Ok y
    → (x : A) × (r ≡ Ok x) × (f x ≡ Ok y)
after_ok (Ok x) f y e = (x, refl, e)
after_ok (Err fault) f y e = cc e

-- the digits of a byte, and their values
record ArePair (high low byte : ℕ) : Type 0 where
  first : ℕ
  second : ℕ
  first_is : hex_digit_value high ≡ Some first
  second_is : hex_digit_value low ≡ Some second
  byte_is : byte ≡ first * 16 + second

pair_read : (high low i byte : ℕ) → pair_value high low i ≡ Ok byte → ArePair high low byte
pair_read high low i byte e =
    let (first, is_first, then_low) = after_ok (value_at high i) _ byte e in
    let (second, is_second, made) = after_ok (value_at low (i + 1)) _ byte then_low in
    record {
      first = first;
      second = second;
      first_is = digit_is high i _ first is_first;
      second_is = digit_is low (i + 1) _ second is_second;
      byte_is = cc;
    }

pair_made : (high low i byte : ℕ) → ArePair high low byte → pair_value high low i ≡ Ok byte
pair_made high low i byte p = rw (p.first_is, p.second_is, p.byte_is) refl

pair_lower : (high low byte : ℕ) → ArePair (to_ascii_lowercase high) (to_ascii_lowercase low) byte →
    ArePair high low byte
pair_lower high low byte p = record {
  first = p.first;
  second = p.second;
  first_is = sym (digit_lower high) ∙ p.first_is;
  second_is = sym (digit_lower low) ∙ p.second_is;
  byte_is = p.byte_is;
}

-- ---- all digits

same_bytes : (xs ys : List ℕ) → ◌≡◌ {A = Result (List ℕ) FromHexError} (Ok xs) (Ok ys) → xs ≡ ys
same_bytes xs ys e = ap (λ (r : Result (List ℕ) FromHexError). result_unwrap_or r []) e

pairs_lower : (i : ℕ) (word bytes : List ℕ) → decode_pairs i (str_to_ascii_lowercase word) ≡ Ok bytes
    → decode_pairs i word ≡ Ok bytes
unfolding decode_pairs
pairs_lower i [] bytes e = e
pairs_lower i (a ∷ []) bytes e = e
pairs_lower i (a ∷ b ∷ rest) bytes e =
    let (byte, is_byte, read) = after_ok (pair_value (to_ascii_lowercase a) (to_ascii_lowercase b) i) _ bytes e in
    let (others, are_others, made) = after_ok (decode_pairs (i + 2) (str_to_ascii_lowercase rest)) _ bytes read in
    let pair = pair_lower a b byte (pair_read _ _ i byte is_byte) in
    decode_pairs-ok_pair i a b byte rest (pair_made a b i byte pair)
    ∙ ap (cons_byte byte) (pairs_lower (i + 2) rest others are_others) ∙ made

pairs_spelled : (i : ℕ) (word bytes : List ℕ) → decode_pairs i word ≡ Ok bytes → str_to_ascii_lowercase word
    ≡ encode_lower bytes
unfolding decode_pairs encode_with
pairs_spelled i [] bytes e = cc
pairs_spelled i (a ∷ []) bytes e = cc e
pairs_spelled i (a ∷ b ∷ rest) bytes e =
    let (byte, is_byte, read) = after_ok (pair_value a b i) _ bytes e in
    let (others, are_others, made) = after_ok (decode_pairs (i + 2) rest) _ bytes read in
    let p = pair_read a b i byte is_byte in
    let first : byte / 16 ≡ p.first = omega (arith, p.byte_is, digit_small b p.second p.second_is) in
    let second : byte % 16 ≡ p.second = omega (arith, p.byte_is, digit_small b p.second p.second_is) in
    let high : to_ascii_lowercase a ≡ slice_index lower_digits (byte / 16) =
    sym (digit_spelled a p.first p.first_is) ∙ ap (slice_index lower_digits) (sym first) in
    let low : to_ascii_lowercase b ≡ slice_index lower_digits (byte % 16) =
    sym (digit_spelled b p.second p.second_is) ∙ ap (slice_index lower_digits) (sym second) in
    let rest_is = pairs_spelled (i + 2) rest others are_others in
    let all : str_to_ascii_lowercase (a ∷ b ∷ rest) ≡ encode_lower (byte ∷ others) =
    λ k. high k ∷ low k ∷ rest_is k in
    all ∙ ap encode_lower (same_bytes _ _ made)

-- ---- words

-- the word `-` has one spelling
dash_spelled : (word : List ℕ) → str_to_ascii_lowercase word ≡ codes "-" → word ≡ codes "-"
dash_spelled [] e = cc e
dash_spelled (c ∷ []) e = ap (λ (d : ℕ). d ∷ []) is
  where
    lower : to_ascii_lowercase c ≡ 45
    lower = ap (λ (w : List ℕ). slice_index w 0) e

    is : c ≡ 45
    is = grind (arith, nat_tests)
dash_spelled (c ∷ d ∷ rest) e = absurd (omega (arith, ap length e))

not_dash : (word : List ℕ) → (word ≡ codes "-" → ⊥) → bytes_eq word (codes "-") ≡ false
not_dash word not = told (bytes_eq word (codes "-")) refl
  where
    told : (b : Bool) → bytes_eq word (codes "-") ≡ b → b ≡ false
    told true e = absurd (not ((bytes_eq-Decides word (codes "-")).0 e))
    told false e = refl

-- as many digits as twice the bytes
twice : (word bytes : List ℕ) → str_to_ascii_lowercase word ≡ encode_lower bytes → length word ≡ 2 * length bytes
twice word bytes e =
    sym (length-map word to_ascii_lowercase) ∙ ap length e ∙ length-encode_with lower_digits bytes

pub bytes_read : (word bytes : List ℕ) → IsBytes bytes → SpellsBytes bytes word → bytes_of word ≡ Some bytes
unfolding bytes_of
bytes_read word [] are spells = rw (dash_spelled word spells) refl
bytes_read word (b ∷ rest) are spells =
    let many = twice word (b ∷ rest) spells in
    let many_lower = length-map word to_ascii_lowercase in
    let whole : decode_of (str_to_ascii_lowercase word) ≡ Ok (b ∷ rest) =
    ap decode_of spells ∙ decode_of-encode_lower (b ∷ rest) are in
    let even : length word % 2 ≡ 0 = omega (arith, many) in
    let even_lower : length (str_to_ascii_lowercase word) % 2 ≡ 0 = omega (arith, many, many_lower) in
    let read : decode_of word ≡ Ok (b ∷ rest) =
    decode_of-even word even ∙ pairs_lower 0 word (b ∷ rest)
    (sym (decode_of-even (str_to_ascii_lowercase word) even_lower) ∙ whole) in
    let no_dash = not_dash word (λ e. absurd (omega (arith, many, ap length e))) in
    let some : (length word == 0) ≡ false = ne_eqb (length word) 0 (λ e. absurd (omega (arith, many))) in
    rw (no_dash, some, read) refl

digits_spelled : (word bytes : List ℕ) → (length word == 0) ≡ false → decode_of word ≡ Ok bytes
    → SpellsBytes bytes word × IsBytes bytes
digits_spelled word bytes some read =
    let (even, digits, many, are) = decode_of-ok word bytes read in
    (by_bytes bytes many (pairs_spelled 0 word bytes (sym (decode_of-even word even) ∙ read)), are)
  where
    by_bytes : (bytes : List ℕ) → length word ≡ 2 * length bytes → str_to_ascii_lowercase word ≡ encode_lower bytes
        → SpellsBytes bytes word
    by_bytes [] many e = absurd (true≢false (sym (eq-eqb (length word) 0 (omega (arith, many))) ∙ some))
    by_bytes (b ∷ rest) many e = e

pub bytes_spelled : (word bytes : List ℕ) → bytes_of word ≡ Some bytes → SpellsBytes bytes word × IsBytes bytes
unfolding bytes_of
bytes_spelled word bytes e = dashed (bytes_eq word (codes "-")) (length word == 0) refl refl e
  where
    dashed : (d z : Bool) → bytes_eq word (codes "-") ≡ d → (length word == 0) ≡ z
        → (if d then Some [] else (if z then None else result_ok (decode_of word))) ≡ Some bytes
        → SpellsBytes bytes word × IsBytes bytes
    dashed true z is empty e =
        subst (λ (bs : List ℕ). SpellsBytes bs word × IsBytes bs) (same_Some [] bytes e)
        (ap str_to_ascii_lowercase ((bytes_eq-Decides word (codes "-")).0 is), λ i. omega arith)
    dashed false true is empty e = absurd (none-some bytes e)
    dashed false false is some e = digits_spelled word bytes some (ok_of (decode_of word) bytes e)

pub spelling_spells : (bytes : List ℕ) → IsBytes bytes → SpellsBytes bytes (bytes_spelling bytes)
spelling_spells [] are = refl
spelling_spells (b ∷ rest) are =
    let word = encode_lower (b ∷ rest) in
    let many = length-encode_with lower_digits (b ∷ rest) in
    pairs_spelled 0 word (b ∷ rest)
    (sym (decode_of-even word (omega (arith, many))) ∙ decode_of-encode_lower (b ∷ rest) are)

-- ---- a word of bytes is plain text

lower_below : (c : ℕ) → to_ascii_lowercase c < 128 → c < 128
lower_below c h = grind (arith, nat_tests)

lower_ascii : (word : List ℕ) → IsAscii (str_to_ascii_lowercase word) → IsAscii word
lower_ascii [] h = IsAscii-nil
lower_ascii (c ∷ rest) h = IsAscii-cons c rest (lower_below c (h 0)) (lower_ascii rest (λ i. h (suc i)))

digits_ascii : IsAscii lower_digits
digits_ascii = (word_text lower_digits refl).is

pub bytes_text : (word bytes : List ℕ) → SpellsBytes bytes word → Ascii word
bytes_text word bytes spells = record { is = lower_ascii word (subst IsAscii (sym spells) (plain bytes)) }
  where
    plain : (bytes : List ℕ) → IsAscii (bytes_spelling bytes)
    plain [] = (word_text (codes "-") refl).is
    plain (b ∷ rest) = IsAscii-encode_with lower_digits (b ∷ rest) digits_ascii
