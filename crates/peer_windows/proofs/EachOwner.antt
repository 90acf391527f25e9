-- What changes the pairs of each owner, one owner after another.
use Rattle.std.proofs.Common.{◌≡◌, ℕ, ◌+◌, ◌<◌, ◌≤◌, List, [], ◌++◌, length, take, drop, get_or, refl, sym, ap, ◌∙◌}
use Rattle.std.proofs.Common.{arith, append-nil, length-append, zero, suc, ◌∷◌}
use Rattle.std.specs.Prelude.{map, min, replicate, slice_index_or, slice_set}
use Rattle.std.proofs.lemmas.List.{length-map, length-take, length-drop, take_all, drop_all, get_or_default}
use Rattle.std.proofs.lemmas.List.{length-replicate}
use Rattle.std.proofs.lemmas.List.Edits.{map_over_more}
use Rattle.peer_windows.specs.Pauses.{first_pause, never, most_time, longest_look}
use Rattle.peer_windows.specs.Pairs.{new_pair, anew, joined}
use Rattle.peer_windows.specs.Owners.{PairsValue, IsSameNode, pair_in, with_pair, begun_at, joined_at, probed}
use Rattle.peer_windows.specs.Owners.{first_pairs, next_probe, pairs_at_first}
use Rattle.peer_windows.specs.declared.pair.Pair.{Pair}

-- a list whose first elements are changed
abbrev pub first_changed : {X : Type 0} → (X → X) → ℕ → List X → List X
first_changed f n xs = map f (take n xs) ++ drop n xs

first_changed_more : {X : Type 0} (f : X → X) (xs : List X) (i : ℕ) (d : X) → i < length xs →
    slice_set (first_changed f i xs) i (f (slice_index_or (first_changed f i xs) i d)) ≡ first_changed f (i + 1) xs
first_changed_more {X} f xs i d within =
    let ys : List X = first_changed f i xs in
    let long : length ys ≡ length (map f (take i xs)) + length (drop i xs) =
    length-append (map f (take i xs)) (drop i xs) in
    let inside : i < length ys =
    omega (arith, long, length-map (take i xs) f, length-take i xs, length-drop i xs) in
    map_over_more f xs ys i (get_or ys i d) within refl (get_or_default ys i d (get_or ys i d) inside)

first_changed_all : {X : Type 0} (f : X → X) (xs : List X) (n : ℕ) → length xs ≤ n → first_changed f n xs ≡ map f xs
first_changed_all f xs n all =
    ap (λ ys. map f ys ++ drop n xs) (take_all n xs all)
    ∙ ap (λ ys. map f xs ++ ys) (drop_all n xs all)
    ∙ append-nil (map f xs)

-- the pairs and the dues of the first owners are changed
abbrev pub owners_changed : (List Pair → List Pair) → (ℕ → ℕ) → ℕ → PairsValue → PairsValue
owners_changed f g n a =
    record a { pairs = first_changed f n a.pairs; dues = first_changed g n a.dues }

-- those of one owner more
owners_changed_more : (f : List Pair → List Pair) (g : ℕ → ℕ) (i : ℕ) (a : PairsValue) → i < length a.pairs →
    length a.dues ≡ length a.pairs →
    let b = owners_changed f g i a in
    (record a {
      pairs = slice_set b.pairs i (f (slice_index_or b.pairs i []));
      dues = slice_set b.dues i (g (slice_index_or b.dues i never));
    }) ≡ owners_changed f g (i + 1) a
owners_changed_more f g i a within same =
    let b : PairsValue = owners_changed f g i a in
    let dues : List ℕ = slice_set b.dues i (g (slice_index_or b.dues i never)) in
    ap (λ pairs. record a { pairs = pairs; dues = dues }) (first_changed_more f a.pairs i [] within)
    ∙ ap (λ dues. record a { pairs = first_changed f (i + 1) a.pairs; dues = dues })
    (first_changed_more g a.dues i never (omega arith))

-- those of all
owners_changed_all : (f : List Pair → List Pair) (g : ℕ → ℕ) (n : ℕ) (a : PairsValue) → length a.pairs ≤ n →
    length a.dues ≡ length a.pairs → owners_changed f g n a ≡ record a { pairs = map f a.pairs; dues = map g a.dues }
owners_changed_all f g n a all same =
    ap (λ pairs. record a { pairs = pairs; dues = first_changed g n a.dues }) (first_changed_all f a.pairs n all)
    ∙ ap (λ dues. record a { pairs = map f a.pairs; dues = dues }) (first_changed_all g a.dues n (omega arith))

-- the pairs of an owner, where there is a new connection to a peer
abbrev pub joined_in : ℕ → ℕ → ℕ → List Pair → List Pair
joined_in now longest peer pairs = with_pair pairs peer (joined now longest (pair_in pairs peer))

-- a peer's pairs with the first owners have begun anew with a new connection
abbrev pub joined_first : ℕ → ℕ → ℕ → PairsValue → PairsValue
joined_first now peer n a = owners_changed (joined_in now a.longest peer) (λ due. min due now) n a

pub joined_more : (now peer i : ℕ) (a b : PairsValue) → i < length a.pairs → length a.dues ≡ length a.pairs →
    b ≡ joined_first now peer i a → joined_at now i peer b ≡ joined_first now peer (i + 1) a
joined_more now peer i a b within same is =
    ap (joined_at now i peer) is
    ∙ owners_changed_more (joined_in now a.longest peer) (λ due. min due now) i a within same

-- the pairs of an owner, where that of a peer begins anew
abbrev pub begun_in : ℕ → ℕ → ℕ → List Pair → List Pair
begun_in now longest peer pairs = with_pair pairs peer (anew now longest (pair_in pairs peer))

-- a peer's pairs with the first owners have begun anew
abbrev pub begun_first : ℕ → ℕ → ℕ → PairsValue → PairsValue
begun_first now peer n a = owners_changed (begun_in now a.longest peer) (λ due. min due (now + first_pause)) n a

pub begun_more : (now peer i : ℕ) (a b : PairsValue) → i < length a.pairs → length a.dues ≡ length a.pairs →
    b ≡ begun_first now peer i a → begun_at now i peer b ≡ begun_first now peer (i + 1) a
begun_more now peer i a b within same is =
    ap (begun_at now i peer) is
    ∙ owners_changed_more (begun_in now a.longest peer) (λ due. min due (now + first_pause)) i a within same

map-replicate : {X : Type 0} (f : X → X) (n : ℕ) (x : X) → map f (replicate n x) ≡ replicate n (f x)
map-replicate f zero x = refl
map-replicate f (suc n) x = ap (λ xs. f x ∷ xs) (map-replicate f n x)

new_pair_in : (n peer : ℕ) → pair_in (replicate n new_pair) peer ≡ new_pair
new_pair_in zero peer = refl
new_pair_in (suc n) zero = refl
new_pair_in (suc n) (suc peer) = new_pair_in n peer

-- all pairs of a node before any has begun
abbrev pub pairs_unbegun : ℕ → ℕ → List ℕ → PairsValue
pairs_unbegun nodes me probes = record {
  me = me;
  longest = longest_look nodes;
  pairs = replicate nodes (replicate nodes new_pair);
  dues = replicate nodes never;
  moved = replicate nodes 0;
  probes = probes;
  turn = 0;
}

-- those of the node with itself begin
pub begun_all : (now nodes me : ℕ) → now ≤ most_time →
    begun_first now me nodes (pairs_unbegun nodes me (pairs_at_first now nodes me).probes) ≡ pairs_at_first now nodes me
begun_all now nodes me early =
    let a : PairsValue = pairs_unbegun nodes me (pairs_at_first now nodes me).probes in
    let longest : ℕ = longest_look nodes in
    let pairs : map (begun_in now longest me) a.pairs ≡ replicate nodes (first_pairs now nodes me) =
    map-replicate (begun_in now longest me) nodes (replicate nodes new_pair)
    ∙ ap (λ pair. replicate nodes (with_pair (replicate nodes new_pair) me (anew now longest pair)))
    (new_pair_in nodes me) in
    let soon : min never (now + first_pause) ≡ now + first_pause = omega arith in
    let dues : map (λ due. min due (now + first_pause)) a.dues ≡ replicate nodes (now + first_pause) =
    map-replicate (λ due. min due (now + first_pause)) nodes never ∙ ap (replicate nodes) soon in
    let long : length a.pairs ≡ nodes = length-replicate nodes (replicate nodes new_pair) in
    let same : length a.dues ≡ length a.pairs = length-replicate nodes never ∙ sym long in
    owners_changed_all (begun_in now longest me) (λ due. min due (now + first_pause)) nodes a (omega arith) same
    ∙ ap (λ ps. record a { pairs = ps; dues = map (λ due. min due (now + first_pause)) a.dues }) pairs
    ∙ ap (λ ds. record a { pairs = replicate nodes (first_pairs now nodes me); dues = ds }) dues

-- the first peers are probed
abbrev pub probed_first : ℕ → ℕ → PairsValue → PairsValue
probed_first now n a = record a { probes = first_changed (next_probe now) n a.probes }

pub probed_more : (now peer : ℕ) (a b : PairsValue) → peer < length a.probes → b ≡ probed_first now peer a →
    probed now peer b ≡ probed_first now (peer + 1) a
probed_more now peer a b within is =
    ap (probed now peer) is
    ∙ ap (λ times. record a { probes = times }) (first_changed_more (next_probe now) a.probes peer never within)

pub same_node_more : (a b c : PairsValue) → IsSameNode a b → IsSameNode b c → IsSameNode a c
same_node_more a b c first next = record {
  me = next.me ∙ first.me;
  longest = next.longest ∙ first.longest;
  owners = next.owners ∙ first.owners;
  moved = next.moved ∙ first.moved;
  peers = next.peers ∙ first.peers;
}
