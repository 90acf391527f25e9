-- Rows of numbers in a line: the accesses about which is asked.
use Rattle.std.specs.Prelude.{ℕ, ◌-◌, ◌^◌, Bool, ◌&&◌, nat_le, if◌then◌else◌, List, [], ◌∷◌, length}
use Rattle.std.specs.Prelude.{Option, Some, None, option_map, option_and_then, is_some}
use Rattle.std.specs.List.{list_all, filter_map}
use Rattle.serde_json.specs.Data.{Data, Items, no_items, item}
use Rattle.serde_json.specs.Find.{as_array}
use Rattle.quorum_sizes.specs.Sizes.{Counts}
use Rattle.client_lines.specs.Members.{whole_number}
use Rattle.operator_lines.specs.declared.decision.Access.{Access}

-- so many accesses can be asked about in one line
abbrev pub most_asked : ℕ
most_asked = 128

-- the items of an array
abbrev pub items_list : Items → List Data
items_list no_items = []
items_list (item value values) = value ∷ items_list values

unfoldable pub list_of : Data → Option (List Data)
list_of value = option_map items_list (as_array value)

-- a whole number that is no more than `most`
abbrev pub number_most : ℕ → Data → Option ℕ
number_most most value = option_and_then (λ n. if nat_le n most then Some n else None) (whole_number value)

-- a user and an object of 32 bits, an owner that is a node, and an operation of 16 bits
abbrev pub asked_if : Option ℕ → Option ℕ → Option ℕ → Option ℕ → Option Access
asked_if user owner operation object =
    option_and_then (λ u. option_and_then (λ w. option_and_then (λ p. option_map (λ o.
    record { user = u; owner = w; operation = p; object = o }) object) operation) owner) user

-- a row of these four
abbrev pub asked_in : Counts → List Data → Option Access
asked_in s [] = None
asked_in s (user ∷ []) = None
asked_in s (user ∷ owner ∷ []) = None
asked_in s (user ∷ owner ∷ operation ∷ []) = None
asked_in s (user ∷ owner ∷ operation ∷ thing ∷ []) =
    asked_if (number_most (2 ^ 32 - 1) user) (number_most (s.nodes - 1) owner) (number_most (2 ^ 16 - 1) operation)
    (number_most (2 ^ 32 - 1) thing)
asked_in s (user ∷ owner ∷ operation ∷ thing ∷ fifth ∷ more) = None

unfoldable pub asked_of : Counts → Data → Option Access
asked_of s row = option_and_then (asked_in s) (list_of row)

-- from one to `most_asked` rows
abbrev pub are_few : Counts → List Data → Bool
are_few s rows =
    nat_le 1 (length rows) && (nat_le (length rows) most_asked && list_all (λ row. is_some (asked_of s row)) rows)

abbrev pub few_rows : Counts → List Data → Option (List Access)
few_rows s rows = if are_few s rows then Some (filter_map (asked_of s) rows) else None

unfoldable pub rows_of : Counts → Data → Option (List Access)
rows_of s value = option_and_then (few_rows s) (list_of value)
