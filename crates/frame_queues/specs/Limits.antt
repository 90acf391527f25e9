-- How many connections of peers there may be.
use Rattle.std.specs.Prelude.{ℕ, ◌+◌, ◌-◌, ◌*◌, max, min, nat_lt, nat_le, if◌then◌else◌}

-- the most slots of each peer, and how many newcomers there are beside these; the most newcomers anywhere
abbrev pub most_each : ℕ
most_each = 2

abbrev pub newcomers : ℕ
newcomers = 32

abbrev pub most_newcomers : ℕ
most_newcomers = 128

-- of so many connections, in a cluster of so many nodes: as many slots of each peer, where that leaves these newcomers
abbrev pub each_within : ℕ → ℕ → ℕ
each_within nodes most = if nat_le (most_each * (nodes - 1) + newcomers) most then most_each else 1

-- and what is left for newcomers, one at least
abbrev pub newcomers_within : ℕ → ℕ → ℕ
newcomers_within nodes most = max 1 (min (most - each_within nodes most * (nodes - 1)) most_newcomers)

-- how many other nodes there are, at this one of so many
abbrev pub others : ℕ → ℕ → ℕ
others nodes me = if nat_lt me nodes then nodes - 1 else nodes

-- so many slots of each of these, and so many newcomers
abbrev pub places_for : ℕ → ℕ → ℕ → ℕ → ℕ
places_for nodes me each newcomers = each * others nodes me + newcomers
