-- SHA-256 after the pads of a key of HMAC. Serves the code, and no public contract.
use Rattle.std.specs.Prelude.{◌≡◌, ℕ, List}
use Rattle.sha2.specs.Sha256.{compress, initial_hash_256}
use Rattle.link_frames.specs.frames.Hmac.{padded_key, xor_each}

-- the hash values after the inner pad, and after the outer
pub record MidStates (key inner outer : List ℕ) : Type 0 where
  pub inner_pad : inner ≡ compress initial_hash_256 (xor_each 0x36 (padded_key key))
  pub outer_pad : outer ≡ compress initial_hash_256 (xor_each 0x5c (padded_key key))
