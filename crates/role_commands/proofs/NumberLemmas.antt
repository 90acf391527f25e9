-- A number has one spelling.
use Rattle.std.proofs.Common.{◌≡◌, ◌≢◌, ℕ, ◌<◌, ◌≤◌, ◌-◌, ◌^◌, Bool, true, false, ◌&&◌, if◌then◌else◌, nat_le, List}
use Rattle.std.proofs.Common.{length, get_or, Some, None, Result, Ok, Err, sym, refl, ap, arith, rules, ◌∙◌, inl, inr}
use Rattle.std.proofs.lemmas.Bool.Decides.{nat_tests}
use Rattle.std.proofs.lemmas.Bool.{cases_lt}
use Rattle.std.proofs.lemmas.Fmt.{decimal_is_IsNumeral, decimal-digits_value, first_decimal}
use Rattle.std.proofs.lemmas.Fmt.{digits_decimal, decimal_nonempty, length-decimal-le, parse-decimal}
use Rattle.std.proofs.lemmas.Slice.Eq.{bytes_eq-Decides}
use Rattle.std.proofs.lemmas.Str.Parse.{IsNumeralModel, numerals_by_value, tells_digits, not_in_digits, parse_plain}
use Rattle.std.specs.Fmt.{decimal}
use Rattle.std.specs.Str.{bytes_eq}
use Rattle.std.specs.Str.Parse.{AllDigits, digits_value, ParsesUnsigned}
use Rattle.role_commands.specs.Numbers.{number_of, byte_number, narrow_number, wide_number}
use Rattle.role_commands.specs.Numbers.{long_number, NumbersAreRead, NumbersAreSpelled}

own : IsNumeralModel (AllDigits 10) (digits_value 10)
own = numerals_by_value (AllDigits 10) tells_digits

-- a test of two parts that gives a value
both : (a b : Bool) (n m : ℕ) → (if a && b then Some n else None) ≡ Some m → (a ≡ true) × (b ≡ true) × (n ≡ m)
both true true n m e = (refl, refl, cc)
both true false n m e = cc
both false b n m e = cc

pub number_of-decimal : NumbersAreRead
unfolding number_of
number_of-decimal most n le small =
    let value : digits_value 10 (decimal n) ≡ n = (decimal_is_IsNumeral n (omega arith)).1 in
    let same : bytes_eq (decimal n) (decimal n) ≡ true = (bytes_eq-Decides (decimal n) (decimal n)).1 refl in
    let fits : nat_le n most ≡ true = search (rules, nat_tests) in
    rw (value, same, fits) refl

pub number_of_spelled : NumbersAreSpelled
unfolding number_of
number_of_spelled most n word e =
    let parts = both (bytes_eq word (decimal (digits_value 10 word))) (nat_le (digits_value 10 word) most)
    (digits_value 10 word) n e in
    let same : word ≡ decimal (digits_value 10 word) = (bytes_eq-Decides _ _).0 parts.0 in
    let fits : digits_value 10 word ≤ most = search (rules, nat_tests) in
    (same ∙ ap decimal parts.2, rw (← parts.2) fits)

-- ---- numbers of 8, 16, 32 and 64 bits

pub byte_read : (n : ℕ) → n < 2 ^ 8 → byte_number (decimal n) ≡ Some n
byte_read n small = number_of-decimal (2 ^ 8 - 1) n (omega arith) (omega arith)

pub narrow_read : (n : ℕ) → n < 2 ^ 16 → narrow_number (decimal n) ≡ Some n
narrow_read n small = number_of-decimal (2 ^ 16 - 1) n (omega arith) (omega arith)

pub wide_read : (n : ℕ) → n < 2 ^ 32 → wide_number (decimal n) ≡ Some n
wide_read n small = number_of-decimal (2 ^ 32 - 1) n (omega arith) (omega arith)

pub long_read : (n : ℕ) → n < 2 ^ 64 → long_number (decimal n) ≡ Some n
long_read n small = number_of-decimal (2 ^ 64 - 1) n (omega arith) (omega arith)

pub byte_spelled : (n : ℕ) (word : List ℕ) → byte_number word ≡ Some n → (word ≡ decimal n) × (n < 2 ^ 8)
byte_spelled n word e = let s = number_of_spelled (2 ^ 8 - 1) n word e in (s.0, omega arith)

pub narrow_spelled : (n : ℕ) (word : List ℕ) → narrow_number word ≡ Some n → (word ≡ decimal n) × (n < 2 ^ 16)
narrow_spelled n word e = let s = number_of_spelled (2 ^ 16 - 1) n word e in (s.0, omega arith)

pub wide_spelled : (n : ℕ) (word : List ℕ) → wide_number word ≡ Some n → (word ≡ decimal n) × (n < 2 ^ 32)
wide_spelled n word e = let s = number_of_spelled (2 ^ 32 - 1) n word e in (s.0, omega arith)

pub long_spelled : (n : ℕ) (word : List ℕ) → long_number word ≡ Some n → (word ≡ decimal n) × (n < 2 ^ 64)
long_spelled n word e = let s = number_of_spelled (2 ^ 64 - 1) n word e in (s.0, omega arith)

-- ---- words that are no number

-- a word that is written for no number up to the limit is read as none
pub number_of_none : (most : ℕ) (word : List ℕ) → ((n : ℕ) → n ≤ most → word ≡ decimal n → ⊥)
    → number_of most word ≡ None
number_of_none most word none =
    elim (number_of most word) as (λ r. number_of most word ≡ r → r ≡ None) [
      | None ↦ λ e. refl
      | Some n ↦ λ e. let s = number_of_spelled most n word e in absurd (none n s.1 s.0)
    ] refl

pub signed_none : (most : ℕ) (word : List ℕ) → most < 2 ^ 64 → get_or word 0 0 ≡ 43 → number_of most word ≡ None
signed_none most word small plus =
    number_of_none most word (λ n le e.
    let bound : n < 2 ^ 64 = omega arith in
    not_in_digits own (decimal n) 43 (digits_decimal own n bound) (λ r. omega (arith, r)) 0
    (decimal_nonempty n bound) (rw (← e) plus))

pub padded_none : (most : ℕ) (word : List ℕ) → most < 2 ^ 64 → get_or word 0 0 ≡ 48 → 1 < length word
    → number_of most word ≡ None
padded_none most word small zero long =
    number_of_none most word (λ n le e.
    let bound : n < 2 ^ 64 = omega arith in
    elim (cases_lt 0 n) [
      | inl more ↦ let front : 48 < get_or (decimal n) 0 0 = first_decimal n more bound in
          let same : get_or (decimal n) 0 0 ≡ 48 = rw (← e) zero in omega arith
      | inr none ↦ let nothing : n ≡ 0 = omega arith in
          let one : length (decimal n) ≤ 1 = length-decimal-le 1 n (omega arith) (omega arith) bound in
          let more : 1 < length (decimal n) = rw (← e) long in omega arith
    ])

module _ {E : Type 0} (most : ℕ) (word : List ℕ) (r : Result ℕ E) (parsed : ParsesUnsigned 64 10 word r)
    (small : most < 2 ^ 64) where
  -- a parsed word is what is written for its number
  pub parsed_decimal : (n : ℕ) → r ≡ Ok n → get_or word 0 0 ≢ 43 → (get_or word 0 0 ≡ 48 → length word ≤ 1)
      → word ≡ decimal n
  parsed_decimal n is plain lead =
      let facts = rw is at (parse_plain own 64 word r parsed plain) in
      let back : decimal (digits_value 10 word) ≡ word =
      decimal-digits_value own word facts.0.0 facts.0.1 (λ zero. omega (arith, lead zero, facts.0.1)) facts.0.2 in
      sym (ap decimal facts.1 ∙ back)

  pub parsed_some : (n : ℕ) → r ≡ Ok n → n ≤ most → get_or word 0 0 ≢ 43 → (get_or word 0 0 ≡ 48 → length word ≤ 1)
      → number_of most word ≡ Some n
  parsed_some n is le plain lead = rw (parsed_decimal n is plain lead) (number_of-decimal most n le small)

  pub parsed_above : (n : ℕ) → r ≡ Ok n → most < n → number_of most word ≡ None
  parsed_above n is more =
      number_of_none most word (λ m le same.
      let bound : m < 2 ^ 64 = omega arith in
      let gives : r ≡ Ok m = parse-decimal 64 m word r bound bound same parsed in
      let one : n ≡ m = cc in
      omega arith)

  pub unparsed : (e : E) → r ≡ Err e → number_of most word ≡ None
  unparsed e is =
      number_of_none most word (λ n le same.
      let bound : n < 2 ^ 64 = omega arith in
      let gives : r ≡ Ok n = parse-decimal 64 n word r bound bound same parsed in
      cc)
