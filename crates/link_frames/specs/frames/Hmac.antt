-- HMAC (RFC 2104) with SHA-256 (FIPS 180-4), whose blocks have 64 bytes.
use Rattle.std.specs.Prelude.{ℕ, ◌-◌, nat_lt, if◌then◌else◌, List, ◌++◌, length, map, replicate, bit_xor}
use Rattle.sha2.specs.Sha256.{sha256}

-- a key longer than a block is hashed first
abbrev pub short_key : List ℕ → List ℕ
short_key key = if nat_lt 64 (length key) then sha256 key else key

-- the key with zero bytes behind it, up to a block
abbrev pub padded_key : List ℕ → List ℕ
padded_key key = short_key key ++ replicate (64 - length (short_key key)) 0

abbrev pub xor_each : ℕ → List ℕ → List ℕ
xor_each pad block = map (λ b. bit_xor b pad) block

-- the HMAC of the text under the key
unfoldable pub hmac : List ℕ → List ℕ → List ℕ
hmac key text = sha256 (xor_each 0x5c (padded_key key) ++ sha256 (xor_each 0x36 (padded_key key) ++ text))
