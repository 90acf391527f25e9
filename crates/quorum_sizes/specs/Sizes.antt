-- The sizes of a cluster: how many nodes it has, how many of them may lie, and the quorums of
-- authenticated double-echo broadcast (Bracha 1987; Cachin, Guerraoui and Rodrigues).
use Rattle.std.specs.Prelude.{ℕ, ◌+◌, ◌*◌, ◌/◌, ◌<◌, ◌≤◌, nat_lt, if◌then◌else◌, Option, Some, None}

-- how many nodes there are, and how many of them may lie
pub record Counts : Type 0 where
  pub nodes : ℕ
  pub liars : ℕ

-- the most nodes of a cluster
abbrev pub most_nodes : ℕ
most_nodes = 128

-- there are not too many nodes, and fewer than a third of them may lie
abbrev pub AreSizes : Counts → Type 0
AreSizes s = (s.nodes ≤ most_nodes) × (3 * s.liars < s.nodes)

-- E: any two sets of so many nodes share a correct one
abbrev pub echo_quorum_of : Counts → ℕ
echo_quorum_of s = (s.nodes + s.liars) / 2 + 1

-- A: among so many nodes one is correct
abbrev pub amplify_of : Counts → ℕ
amplify_of s = s.liars + 1

-- D: among so many nodes the correct ones are enough to amplify
abbrev pub deliver_of : Counts → ℕ
deliver_of s = 2 * s.liars + 1

-- the names of the nodes are the numbers below how many there are
abbrev pub name_due : Counts → ℕ → Option ℕ
name_due s i = if nat_lt i s.nodes then Some i else None
