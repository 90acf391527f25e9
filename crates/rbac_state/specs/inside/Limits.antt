-- Below what the numbers in a relation are.
use Rattle.std.specs.Prelude.{ℕ}

-- so many firsts there are at most, so that each fits one number with a role
abbrev pub most_firsts : ℕ
most_firsts = 281474976710656
