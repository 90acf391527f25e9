-- Sets of nodes.
use Rattle.std.specs.Prelude.{ℕ, ◌<◌, nat_lt, IsTrue}
use Rattle.std.specs.Ordering.{nat_cmp}
use Rattle.std.specs.FinSet as sets
use Rattle.quorum_sizes.specs.Sizes.{Counts}

-- a finite set of names
abbrev pub Nodes : Type 0
Nodes = sets.FinSet nat_cmp

-- those of the names that are nodes of these sizes
abbrev pub nodes_among : Counts → Nodes → Nodes
nodes_among s names = sets.retain names (λ name. nat_lt name s.nodes)

-- each of the names is a node of these sizes
abbrev pub AreNodes : Counts → Nodes → Type 0
AreNodes s names = (name : ℕ) → IsTrue (sets.contains names name) → name < s.nodes
