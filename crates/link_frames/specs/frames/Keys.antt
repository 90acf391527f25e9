-- The keys that a node shares with each node.
use Rattle.std.specs.Prelude.{◌≡◌, ◌≢◌, ℕ, List, length, Result, Ok, Err}
use Rattle.quorum_sizes.specs.Sizes.{Counts}
use Rattle.link_frames.specs.declared.frames.keys.KeyFault.{KeyFault}
use Rattle.link_frames.specs.declared.frames.keys.KeyFault.TheVariants.{WrongCount, Memory}
use Rattle.link_frames.specs.frames.KeyRings.{KeyRing}

-- what comes of a node, the sizes and a list of keys: the list is refused where it doesn't have one key
-- for each node, and for want of memory only where it has
abbrev pub KeysDue : Counts → ℕ → List (List ℕ) → Result KeyRing KeyFault → Type 0
KeysDue sizes me keys (Ok ring) = (length keys ≡ sizes.nodes) × (ring ≡ record { me = me; sizes = sizes; keys = keys })
KeysDue sizes me keys (Err WrongCount) = length keys ≢ sizes.nodes
KeysDue sizes me keys (Err Memory) = length keys ≡ sizes.nodes
