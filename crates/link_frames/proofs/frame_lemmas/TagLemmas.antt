-- HMAC of a short text, from SHA-256 after each pad of the key.
use Rattle.std.proofs.Common.{◌≡◌, ℕ, ◌+◌, ◌-◌, ◌/◌, ◌%◌, ◌≤◌, List, ◌++◌}
use Rattle.std.proofs.Common.{length, take, drop, replicate, false, bit_xor}
use Rattle.std.specs.Prelude.{nat_lt}
use Rattle.std.proofs.Common.{refl, sym, ap, ◌∙◌, arith, length-append, append_assoc}
use Rattle.std.proofs.lemmas.List.{take_at, drop_at, take_all, length-replicate, length-map}
use Rattle.sha2.specs.Sha256.{compress, digest_bytes, hash_after, initial_hash_256, padding, sha256}
use Rattle.sha2.proofs.Facts256.{length-sha256}
use Rattle.link_frames.specs.frames.Hmac.{hmac, padded_key, xor_each}
use Rattle.link_frames.specs.frames.inside.MidStates.{MidStates}

length-padding : (t : ℕ) → t ≤ 55 → length (padding (64 + t)) ≡ 64 - t
length-padding t le =
    let zeros : (119 - (64 + t) % 64) % 64 ≡ 55 - t = omega arith in
    let count : ℕ = (119 - (64 + t) % 64) % 64 in
    rw (length-append {A = ℕ} (replicate count 0) _, length-replicate {A = ℕ} count 0, zeros)
    (omega arith)

-- the hash of a block and a text that ends in the next
pub two_blocks : (pad text : List ℕ) (t : ℕ) → length pad ≡ 64 → length text ≡ t → t ≤ 55
    → sha256 (pad ++ text) ≡ digest_bytes (compress (compress initial_hash_256 pad) (text ++ padding (64 + t))) 8
unfolding sha256 hash_after
two_blocks pad text t whole len le =
    let total : length (pad ++ text) ≡ 64 + t = rw (length-append pad text, whole, len) refl in
    let rest : List ℕ = text ++ padding (64 + t) in
    let rest_len : length rest ≡ 64 =
    rw (length-append text (padding (64 + t)), len, length-padding t le) (omega arith) in
    let blocks : length (pad ++ rest) / 64 ≡ 2 = rw (length-append pad rest, whole, rest_len) refl in
    let first : take 64 (pad ++ rest) ≡ pad = take_at pad rest 64 whole in
    let second : take 64 (drop 64 (pad ++ rest)) ≡ rest =
    ap (take 64) (drop_at pad rest 64 whole) ∙ take_all 64 rest (omega arith) in
    rw (total, append_assoc pad text (padding (64 + t)), blocks, first, second) refl

length-padded_key : (key : List ℕ) → length key ≡ 32 → length (padded_key key) ≡ 64
length-padded_key key long =
    let short : nat_lt 64 (length key) ≡ false = rw long refl in
    let count : ℕ = 64 - length key in
    rw (short, length-append key (replicate count 0), length-replicate {A = ℕ} count 0, long) refl

-- HMAC of a frame's fields, from what SHA-256 makes of the second blocks
pub hmac_from : (key fields inner outer hash last : List ℕ) → length key ≡ 32 → length fields ≡ 22
    → MidStates key inner outer
    → hash ≡ compress inner (fields ++ padding 86)
    → last ≡ compress outer (digest_bytes hash 8 ++ padding 96)
    → digest_bytes last 8 ≡ hmac key fields
unfolding hmac
hmac_from key fields inner outer hash last long at states eh el =
    let pad = λ (p : ℕ). length-map (padded_key key) (λ b. bit_xor b p) ∙ length-padded_key key long in
    let first = two_blocks (xor_each 0x36 (padded_key key)) fields 22 (pad 0x36) at (omega arith) in
    let said : digest_bytes hash 8 ≡ sha256 (xor_each 0x36 (padded_key key) ++ fields) =
    rw (eh, states.inner_pad) (sym first) in
    let second =
    two_blocks (xor_each 0x5c (padded_key key)) (digest_bytes hash 8) 32 (pad 0x5c)
    (ap length said ∙ length-sha256 _) (omega arith) in
    rw (el, states.outer_pad) (sym second ∙ ap (λ (l : List ℕ). sha256 (xor_each 0x5c (padded_key key) ++ l)) said)
