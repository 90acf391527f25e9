-- Receipts behind keys, which are their places.
use Rattle.std.proofs.Common.{◌≡◌, ℕ, ◌<◌, List, [], ◌∷◌, length, get_or, map}
use Rattle.std.proofs.Common.{ap, arith}
use Rattle.std.specs.Prelude.{All}
use Rattle.std.specs.Borrow.{Bor}
use Rattle.std.specs.List.Sorted.{IsPermutation, IsNonDecreasingBy}
use Rattle.std.proofs.lemmas.List.{get_or-map, length-map}
use Rattle.std.proofs.lemmas.List.Sorted.{IsPermutation-map, All-permutation}
use Rattle.node_lock.specs.inside.Walks.{receipts_of, IsRest}
use Rattle.node_lock.specs.declared.receipt.Receipt.{Receipt}
use Rattle.node_lock.proofs.Places.{rest_of_all}

-- a receipt with its place before it
abbrev pub Key : Type 0
Key = ℕ × Bor Receipt

-- the references of the keys
abbrev pub behind : List Key → List (Bor Receipt)
behind keys = map (λ (k : Key). k.1) keys

-- the key is the place of the receipt
abbrev pub IsKeyed : Key → Type 0
IsKeyed key = key.0 ≡ key.1.now.place

-- the order of the keys is that of the receipts
pub ordered_behind : (keys : List Key) → All IsKeyed keys → IsNonDecreasingBy (λ (k : Key). k.0) keys →
    IsNonDecreasingBy (λ (b : Bor Receipt). b.now.place) (behind keys)
ordered_behind [] keyed ordered i j d up inside = absurd (omega arith)
ordered_behind (k ∷ ks) keyed ordered i j d up inside =
    let at : Key → Bor Receipt = λ x. x.1 in
    let len : length (behind (k ∷ ks)) ≡ length (k ∷ ks) = length-map (k ∷ ks) at in
    let end : j < length (k ∷ ks) = omega arith in
    let at_i : get_or (behind (k ∷ ks)) i d ≡ (get_or (k ∷ ks) i k).1 = get_or-map at (k ∷ ks) i k d (omega arith) in
    let at_j : get_or (behind (k ∷ ks)) j d ≡ (get_or (k ∷ ks) j k).1 = get_or-map at (k ∷ ks) j k d end in
    let between = ordered i j k up end in
    let of_i : (get_or (k ∷ ks) i k).0 ≡ (get_or (k ∷ ks) i k).1.now.place = keyed i k (omega arith) in
    let of_j : (get_or (k ∷ ks) j k).0 ≡ (get_or (k ∷ ks) j k).1.now.place = keyed j k end in
    let place : Bor Receipt → ℕ = λ b. b.now.place in
    let place_i = ap place at_i in
    let place_j = ap place at_j in
    omega arith

-- sorted by their keys they are all the receipts in order
pub rest_of_keys : (receipts : List Receipt) (keys sorted : List Key) → receipts_of (behind keys) ≡ receipts →
    All IsKeyed keys → IsPermutation keys sorted → IsNonDecreasingBy (λ (k : Key). k.0) sorted →
    IsRest receipts 0 (receipts_of (behind sorted))
rest_of_keys receipts keys sorted same keyed permuted ordered =
    rest_of_all receipts (behind keys) (behind sorted) same
    (IsPermutation-map (λ (k : Key). k.1) keys sorted permuted)
    (ordered_behind sorted (All-permutation IsKeyed keys sorted permuted keyed) ordered)
