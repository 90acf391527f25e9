-- A role table: the sizes of a cluster, and the one owner of each role.
use Rattle.std.specs.Prelude.{◌≡◌, ℕ, ◌<◌, ◌≤◌, Bool, false, ◌==◌, List, length, filter, IfSome, refl}
use Rattle.std.specs.Option.{option_map_or}
use Rattle.std.specs.Coded.{Coded, code_by, coded×, coded_ℕ}
use Rattle.std.specs.FinMap as map
use Rattle.std.specs.FinMap.{FinMap}
use Rattle.std.specs.Ordering.{nat_cmp}
use Rattle.quorum_sizes.specs.Sizes.{Counts}

pub record Table : Type 0 where
  pub sizes : Counts
  pub owners : FinMap nat_cmp ℕ

-- a table is stored as the pairs of its parts
abbrev pub table_code : Coded Table
table_code =
    code_by ((ℕ × ℕ) × FinMap nat_cmp ℕ) (coded× (coded× coded_ℕ coded_ℕ) (map.code coded_ℕ coded_ℕ))
    (λ t. ((t.sizes.nodes, t.sizes.liars), t.owners))
    (λ p. record { sizes = record { nodes = p.0.0; liars = p.0.1 }; owners = p.1 }) (λ _. refl)

-- the most roles of a table
abbrev pub most_roles : ℕ
most_roles = 1024

-- each owner is a node, and there are not too many roles
abbrev pub IsTable : Table → Type 0
IsTable t =
    ((role : ℕ) → IfSome (map.get t.owners role) (λ owner. owner < t.sizes.nodes)) × (map.len t.owners ≤ most_roles)

-- the table has the role, with this node as its owner
abbrev pub owns : Table → ℕ → ℕ → Bool
owns t node role = option_map_or (λ owner. owner == node) (map.get t.owners role) false

-- the roles of the table that this node owns, in ascending order, as a map has its keys
abbrev pub roles_of_owner : Table → ℕ → List ℕ
roles_of_owner t node = filter (owns t node) (map.keys t.owners)

-- the table with no roles
abbrev pub no_roles : Counts → Table
no_roles sizes = record { sizes = sizes; owners = map.empty }

-- the table with one more role
abbrev pub with_role : Table → ℕ → ℕ → Table
with_role t role owner = record t { owners = map.insert t.owners role owner }

-- the table of these entries
abbrev pub table_of : Counts → List (ℕ × ℕ) → Table
table_of sizes entries = record { sizes = sizes; owners = map.from_entries entries }

-- the entries are a table's, one for each role
abbrev pub AreEntries : Counts → List (ℕ × ℕ) → Type 0
AreEntries sizes entries =
    IsTable (table_of sizes entries) × (map.len (table_of sizes entries).owners ≡ length entries)
