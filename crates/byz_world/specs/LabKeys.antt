-- The keys of a laboratory, which all know.
use Rattle.std.specs.Prelude.{ℕ, min, max, if◌then◌else◌, List, ◌∷◌, map, replicate}
use Rattle.std.specs.Prelude.{slice_get, Option, Some, None, option_and_then}
use Rattle.std.specs.List.{range_with_len}
use Rattle.quorum_sizes.specs.Sizes.{Counts}
use Rattle.quorum_sizes.specs.NodeSets.{Nodes}
use Rattle.link_frames.specs.frames.KeyRings.{KeyRing}
use Rattle.byz_world.specs.Runs.{is_correct}

-- the key that two nodes share: the smaller index as one byte, the larger, and thirty zero bytes
unfoldable pub lab_key : ℕ → ℕ → List ℕ
lab_key a b = min a b ∷ max a b ∷ replicate 30 0

-- a node's keys, one with each node
abbrev pub lab_ring : Counts → ℕ → KeyRing
lab_ring s me = record { me = me; sizes = s; keys = map (lab_key me) (range_with_len 0 s.nodes) }

-- the keys of a correct node
abbrev pub ring_due : Counts → Nodes → ℕ → Option KeyRing
ring_due s liars node = if is_correct s liars node then Some (lab_ring s node) else None

-- the keys of each node by its name, none for a liar
abbrev pub rings_due : Counts → Nodes → List (Option KeyRing)
rings_due s liars = map (ring_due s liars) (range_with_len 0 s.nodes)

-- the keys kept for a name, if any
abbrev pub ring_in : List (Option KeyRing) → ℕ → Option KeyRing
ring_in rings name = option_and_then (λ ring. ring) (slice_get rings name)
