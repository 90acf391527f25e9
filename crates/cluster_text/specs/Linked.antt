-- The keys of a setup's node.
use Rattle.std.specs.Prelude.{ℕ, List}
use Rattle.link_frames.specs.frames.KeyRings.{KeyRing, key_with}
use Rattle.cluster_text.specs.declared.cluster.Setup.{Setup}

-- the keys of a setup's node, of which key i is shared with node i
abbrev pub ring_of : Setup → KeyRing
ring_of setup = record { me = setup.me; sizes = setup.config.roles.sizes; keys = setup.keys }

-- the key of the setup's node with itself
abbrev pub own_key : Setup → List ℕ
own_key setup = key_with (ring_of setup) setup.me
