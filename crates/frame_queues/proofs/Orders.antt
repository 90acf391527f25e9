-- Packets in the order of their places, and one more among them.
use Rattle.std.proofs.Common.{◌≡◌, ℕ, zero, suc, ◌+◌, ◌<◌, ◌≤◌, List, [], ◌∷◌, ◌++◌, length, get_or, take}
use Rattle.std.proofs.Common.{drop, refl, subst, arith}
use Rattle.std.specs.Prelude.{All, IfSome, Option, Some, None}
use Rattle.std.specs.List.{insert}
use Rattle.std.specs.Option.{option_to_list}
use Rattle.std.proofs.lemmas.List.{places}
use Rattle.std.proofs.lemmas.List.Elements.{All-head, All-tail, All-append, All-take, All-drop, All-cons}
use Rattle.std.proofs.lemmas.List.Elements.{All-nil, All-weaker}
use Rattle.link_frames.specs.declared.frames.kind.Kind.{Kind}
use Rattle.link_frames.specs.declared.frames.kind.Kind.TheVariants.{Send, Echo, Ready}
use Rattle.link_frames.specs.frames.Packets.{PacketValue}
use Rattle.frame_queues.specs.Waiting.{kind_order, order_of, IsInOrder, waiting_with}

few_kinds : (kind : Kind) → kind_order kind ≤ 2
few_kinds Send = omega arith
few_kinds Echo = omega arith
few_kinds Ready = omega arith

-- what belongs before another has no higher place
no_higher : (p q : PacketValue) → order_of p < order_of q → p.place ≤ q.place
no_higher p q less = omega (arith, less, few_kinds p.kind, few_kinds q.kind)

-- before what belongs below a number nothing belongs beyond it
pub all_before : (xs : List PacketValue) (i n k : ℕ) → n ≡ i + 1 → n ≤ length xs → IsInOrder xs →
    ((d : PacketValue) → order_of (get_or xs i d) < k) → All (λ p. order_of p < k) (take n xs)
all_before xs i n k next within ordered below j d less =
    grind (arith, places, ordered j i d, below d)

in_order_cons : (q : PacketValue) (qs : List PacketValue) → All (λ r. order_of q < order_of r) qs → IsInOrder qs →
    IsInOrder (q ∷ qs)
in_order_cons q qs above ordered i zero d less within = omega (arith, less)
in_order_cons q qs above ordered zero (suc j) d less within = above j d (omega (arith, within))
in_order_cons q qs above ordered (suc i) (suc j) d less within =
    ordered i j d (omega (arith, less)) (omega (arith, within))

in_order_rest : (q : PacketValue) (qs : List PacketValue) → IsInOrder (q ∷ qs) → IsInOrder qs
in_order_rest q qs ordered i j d less within =
    ordered (suc i) (suc j) d (omega (arith, less)) (omega (arith, within))

all_above : (q : PacketValue) (qs : List PacketValue) → IsInOrder (q ∷ qs) → All (λ r. order_of q < order_of r) qs
all_above q qs ordered j d within = ordered zero (suc j) d (omega arith) (omega (arith, within))

-- one more where it belongs
pub inserted : (p : PacketValue) (xs : List PacketValue) (i : ℕ) →
    All (λ q. order_of q < order_of p) (take i xs) → All (λ q. order_of p < order_of q) (drop i xs) →
    insert xs i p ≡ waiting_with p xs
inserted p [] zero before behind = refl
inserted p [] (suc i) before behind = refl
inserted p (q ∷ qs) zero before behind =
    let less = All-head (λ r. order_of p < order_of r) q qs behind in
    grind (arith, less)
inserted p (q ∷ qs) (suc i) before behind =
    let less = All-head (λ r. order_of r < order_of p) q (take i qs) before in
    let rest = inserted p qs i (All-tail (λ r. order_of r < order_of p) q (take i qs) before) behind in
    grind (arith, less, rest)

-- one that is there already
pub stays : (p : PacketValue) (xs : List PacketValue) (i : ℕ) → IsInOrder xs → i < length xs →
    ((d : PacketValue) → order_of (get_or xs i d) ≡ order_of p) → waiting_with p xs ≡ xs
stays p [] i ordered within same = absurd (omega (arith, within))
stays p (q ∷ qs) zero ordered within same =
    let here = same q in
    grind (arith, here)
stays p (q ∷ qs) (suc i) ordered within same =
    let less = ordered zero (suc i) q (omega arith) within in
    let here = same q in
    let rest = stays p qs i (in_order_rest q qs ordered) (omega (arith, within)) same in
    grind (arith, less, here, rest)

-- the order is kept with one more
pub in_order_with : (p : PacketValue) (xs : List PacketValue) (i : ℕ) → IsInOrder xs →
    All (λ q. order_of q < order_of p) (take i xs) → All (λ q. order_of p < order_of q) (drop i xs) →
    IsInOrder (insert xs i p)
in_order_with p xs zero ordered before behind = in_order_cons p xs behind ordered
in_order_with p [] (suc i) ordered before behind = in_order_cons p [] (All-nil (λ r. order_of p < order_of r)) ordered
in_order_with p (q ∷ qs) (suc i) ordered before behind =
    let above = all_above q qs ordered in
    let less = All-head (λ r. order_of r < order_of p) q (take i qs) before in
    let rest = in_order_with p qs i (in_order_rest q qs ordered)
    (All-tail (λ r. order_of r < order_of p) q (take i qs) before) behind in
    in_order_cons q (insert qs i p)
    (All-append (λ r. order_of q < order_of r) (take i qs) (p ∷ drop i qs)
    (All-take (λ r. order_of q < order_of r) i qs above)
    (All-cons (λ r. order_of q < order_of r) p (drop i qs) less
    (All-drop (λ r. order_of q < order_of r) i qs above)))
    rest

-- and with fewer
pub in_order_drop : (n : ℕ) (xs : List PacketValue) → IsInOrder xs → IsInOrder (drop n xs)
in_order_drop n xs ordered i j d less within = grind (arith, places, ordered (n + i) (n + j) d)

pub in_order_take : (n : ℕ) (xs : List PacketValue) → IsInOrder xs → IsInOrder (take n xs)
in_order_take n xs ordered i j d less within = grind (arith, places, ordered i j d)

-- what is taken first has the least place
pub taken_is_least : (xs ys : List PacketValue) (taken : Option PacketValue) → xs ≡ option_to_list taken ++ ys →
    IsInOrder xs → IfSome taken (λ p. All (λ q. p.place ≤ q.place) xs)
taken_is_least xs ys None e ordered = tt
taken_is_least xs ys (Some p) e ordered =
    rw e
    (All-cons (λ q. p.place ≤ q.place) p ys (omega arith)
    (All-weaker (λ q. order_of p < order_of q) (λ q. p.place ≤ q.place) (no_higher p) ys
    (all_above p ys (subst IsInOrder e ordered))))
