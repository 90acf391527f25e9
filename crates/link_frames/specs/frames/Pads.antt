-- Hashers that have taken the pads of a key of HMAC. Serves the code, and no public contract.
use Rattle.std.specs.Prelude.{ℕ, List}
use Rattle.sha2.specs.Hashers.{Holds256}
use Rattle.sha2.specs.declared.Sha256.{Sha256}
use Rattle.link_frames.specs.frames.Hmac.{padded_key, xor_each}

-- one holds the inner pad, and one the outer
pub record AfterPads (key : List ℕ) (inner outer : Sha256) : Type 0 where
  pub inner_pad : Holds256 inner (xor_each 0x36 (padded_key key))
  pub outer_pad : Holds256 outer (xor_each 0x5c (padded_key key))
