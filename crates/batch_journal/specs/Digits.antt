-- Numbers as digits to the base 120, the lowest first. A digit is one byte, from 129 to 248.
use Rattle.std.specs.Prelude.{ℕ, zero, suc, ◌+◌, ◌/◌, ◌%◌, nat_le, ◌&&◌, Bool, IsTrue, List, [], ◌∷◌}
use Rattle.std.specs.List.{list_all}

-- so many digits of a number
unfoldable pub digits_of : ℕ → ℕ → List ℕ
digits_of zero n = []
digits_of (suc count) n = (129 + n % 120) ∷ digits_of count (n / 120)

-- whether a byte is a digit
abbrev pub is_digit : ℕ → Bool
is_digit byte = nat_le 129 byte && nat_le byte 248

-- each byte is a digit
abbrev pub AreDigits : List ℕ → Type 0
AreDigits bytes = IsTrue (list_all is_digit bytes)
