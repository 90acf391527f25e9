-- A node, the sizes of its cluster, and the keys that it shares with each node.
use Rattle.std.specs.Prelude.{◌≡◌, ℕ, ◌<◌, List, [], length, slice_index_or}
use Rattle.quorum_sizes.specs.Sizes.{Counts}

-- key i is shared with node i
pub record KeyRing : Type 0 where
  pub me : ℕ
  pub sizes : Counts
  pub keys : List (List ℕ)

abbrev pub key_with : KeyRing → ℕ → List ℕ
key_with ring i = slice_index_or ring.keys i []

-- there is a key for each node, and the ring's node is one of them
abbrev pub IsKeyRing : KeyRing → Type 0
IsKeyRing ring = (length ring.keys ≡ ring.sizes.nodes) × (ring.me < ring.sizes.nodes)
