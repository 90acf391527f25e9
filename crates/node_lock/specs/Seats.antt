-- What contracts see of a caller's seat.
use Rattle.std.specs.Prelude.{ℕ, List, map}
use Rattle.std.specs.List.{range_with_len}

-- its number, how many events it has recorded, and the length of the history that it has seen
pub record Sitting : Type 0 where
  pub number : ℕ
  pub count : ℕ
  pub seen : ℕ

-- the most seats of a node
abbrev pub most_seats : ℕ
most_seats = 8

-- a seat that has recorded and seen nothing
abbrev pub new_seat : ℕ → Sitting
new_seat number = record { number = number; count = 0; seen = 0 }

-- so many new seats, numbered from 0
abbrev pub new_seats : ℕ → List Sitting
new_seats count = map new_seat (range_with_len 0 count)

-- how many events a seat has recorded
abbrev pub count_in : Sitting → ℕ
count_in s = s.count
