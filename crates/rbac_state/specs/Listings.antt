-- The one list of a set.
use Rattle.std.specs.Prelude.{◌≡◌, List, Contains, ◌↔◌}
use Rattle.std.specs.List.Sorted.{IsStrictlySortedBy}
use Rattle.std.specs.declared.cmp.Ordering.{Ordering}

-- the members of a set, each once, in ascending order
pub record IsListing {X : Type 0} (cmp : X → X → Ordering) (IsMember : X → Type 0) (list : List X) : Type 0 where
  pub ascending : IsStrictlySortedBy cmp list
  pub exact : (x : X) → Contains list x ↔ IsMember x

-- an ascending list is the only listing of what is in it
abbrev pub HasOneListing : {X : Type 0} → (X → X → Ordering) → Type 0
HasOneListing {X} cmp = (xs ys : List X) → IsStrictlySortedBy cmp ys → IsListing cmp (Contains ys) xs → xs ≡ ys
