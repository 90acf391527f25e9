-- What is in a list.
use Rattle.std.specs.Prelude.{Bool, List}
use Rattle.std.specs.List.{list_any}
use Rattle.std.specs.Ordering.{eq_by_cmp}
use Rattle.std.specs.declared.cmp.Ordering.{Ordering}

-- the item is in the list
abbrev pub is_among : {K : Type 0} → (K → K → Ordering) → List K → K → Bool
is_among R items item = list_any (eq_by_cmp R item) items
