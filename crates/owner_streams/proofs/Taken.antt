-- The packets of one instance among all, and what it delivers.
use Rattle.std.proofs.Common.{◌≡◌, ℕ, ◌<◌, ◌≤◌, Bool, true, false, cond, ◌&&◌, List, []}
use Rattle.std.proofs.Common.{◌∷◌, ◌++◌, Some, None, refl, ap, ◌∙◌, append-nil, arith}
use Rattle.std.specs.Prelude.{◌==◌}
use Rattle.std.specs.List.{filter_map, cons_option}
use Rattle.std.proofs.lemmas.List.Elements.{filter_map-append}
use Rattle.std.proofs.lemmas.Bool.Decides.{nat_tests}
use Rattle.quorum_sizes.specs.Sizes.{Counts}
use Rattle.link_frames.specs.frames.Packets.{PacketValue}
use Rattle.bracha_instance.specs.Prefixes.{at_first_prefix}
use Rattle.bracha_instance.specs.Broadcast.{delivered, echoed, readied}
use Rattle.owner_streams.specs.Places.{take_of, take_at, takes_at, places_end}

pub takes_at-append : (owner place : ℕ) (before later : List PacketValue)
    → takes_at owner place (before ++ later) ≡ takes_at owner place before ++ takes_at owner place later
unfolding takes_at
takes_at-append owner place before later = filter_map-append (take_at owner place) before later

same_place : (a b : ℕ) → ((a == a) && (b == b)) ≡ true
same_place a b = grind (arith, nat_tests)

other_place : (same : Bool) (a b : ℕ) → a < b → (same && (a == b)) ≡ false
other_place true a b h = grind (arith, nat_tests)
other_place false a b h = refl

one_if : (p : PacketValue) (b same : Bool) → b ≡ same
    → cons_option (cond b (Some (take_of p)) None) [] ≡ cond same (take_of p ∷ []) []
one_if p b true e = ap (λ test. cons_option (cond test (Some (take_of p)) None) []) e
one_if p b false e = ap (λ test. cons_option (cond test (Some (take_of p)) None) []) e

-- a packet is one more message of its own instance
pub takes_at-own : (packets : List PacketValue) (p : PacketValue)
    → takes_at p.owner p.place (packets ++ p ∷ []) ≡ takes_at p.owner p.place packets ++ take_of p ∷ []
unfolding takes_at
takes_at-own packets p =
    filter_map-append (take_at p.owner p.place) packets (p ∷ [])
    ∙ ap (λ ts. filter_map (take_at p.owner p.place) packets ++ ts) (one_if p _ true (same_place p.owner p.place))

-- and of no other
pub takes_at-other : (owner place : ℕ) (packets : List PacketValue) (p : PacketValue)
    → (p.owner == owner) && (p.place == place) ≡ false
    → takes_at owner place (packets ++ p ∷ []) ≡ takes_at owner place packets
unfolding takes_at
takes_at-other owner place packets p e =
    filter_map-append (take_at owner place) packets (p ∷ [])
    ∙ ap (λ ts. filter_map (take_at owner place) packets ++ ts) (one_if p _ false e)
    ∙ append-nil (filter_map (take_at owner place) packets)

-- nothing is echoed, readied or delivered before anything is taken
pub echoed-none : echoed [] ≡ None
unfolding echoed
echoed-none = refl

pub readied-none : (s : Counts) → readied s [] ≡ None
unfolding readied at_first_prefix
readied-none s = refl

pub delivered-none : (s : Counts) → delivered s [] ≡ None
unfolding delivered at_first_prefix
delivered-none s = refl

pub takes_at-end : (owner place : ℕ) (packets : List PacketValue) → places_end packets ≤ place
    → takes_at owner place packets ≡ []
unfolding takes_at places_end
takes_at-end owner place [] h = refl
takes_at-end owner place (p ∷ packets) h =
    let before : p.place < place = omega arith in
    let later : places_end packets ≤ place = omega arith in
    ap (λ b. cons_option (cond b (Some (take_of p)) None) (filter_map (take_at owner place) packets))
    (other_place (p.owner == owner) p.place place before)
    ∙ takes_at-end owner place packets later

pub places_end-append : (before later : List PacketValue) → places_end before ≤ places_end (before ++ later)
unfolding places_end
places_end-append [] later = omega arith
places_end-append (p ∷ before) later = let more = places_end-append before later in omega arith
