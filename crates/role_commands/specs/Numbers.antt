-- Words and numbers in a line of text: words have one space between them, and a number is written in
-- decimal digits, with no sign and no zero in front, save `0` itself.
use Rattle.std.specs.Prelude.{◌≡◌, ℕ, ◌≤◌, ◌<◌, ◌-◌, ◌^◌, Bool, ◌==◌, ◌&&◌, nat_lt}
use Rattle.std.specs.Prelude.{nat_le, if◌then◌else◌, List, length, Option, Some, None, option_and_then}
use Rattle.std.specs.List.{position_or_len, before_first, after_first}
use Rattle.std.specs.Fmt.{decimal}
use Rattle.std.specs.Str.{bytes_eq}
use Rattle.std.specs.Str.Parse.{digits_value}

-- one thing is read after another: where one of them is none, nothing follows
infixl 10 ◌>>=◌
abbrev pub ◌>>=◌ : {A B : Type 0} → Option A → (A → Option B) → Option B
read >>= next = option_and_then next read

-- the byte between two words
abbrev pub space : ℕ
space = 32

abbrev pub is_space : ℕ → Bool
is_space b = b == space

-- what stands before the first space and what stands behind it, if there is one
unfoldable pub split_word : List ℕ → Option (List ℕ × List ℕ)
split_word text =
    if nat_lt (position_or_len is_space text) (length text)
    then Some (before_first is_space text, after_first is_space text)
    else None

-- the number of at most `most` that is written as this word
unfoldable pub number_of : ℕ → List ℕ → Option ℕ
number_of most word =
    let n = digits_value 10 word in
    if bytes_eq word (decimal n) && nat_le n most then Some n else None

-- numbers of 8, 16, 32 and 64 bits

abbrev pub byte_number : List ℕ → Option ℕ
byte_number = number_of (2 ^ 8 - 1)

abbrev pub narrow_number : List ℕ → Option ℕ
narrow_number = number_of (2 ^ 16 - 1)

abbrev pub wide_number : List ℕ → Option ℕ
wide_number = number_of (2 ^ 32 - 1)

abbrev pub long_number : List ℕ → Option ℕ
long_number = number_of (2 ^ 64 - 1)

-- ---- what reading and writing a number are to each other

-- a number that is written is read
abbrev pub NumbersAreRead : Type 0
NumbersAreRead = (most n : ℕ) → n ≤ most → most < 2 ^ 64 → number_of most (decimal n) ≡ Some n

-- a word that is read as a number is what is written for it
abbrev pub NumbersAreSpelled : Type 0
NumbersAreSpelled =
    (most n : ℕ) (word : List ℕ) → number_of most word ≡ Some n → (word ≡ decimal n) × (n ≤ most)
