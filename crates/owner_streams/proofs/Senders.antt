-- The SENDs of an instance are from its owner.
use Rattle.std.proofs.Common.{◌≡◌, ℕ, Bool, true, false, cond, ◌&&◌, List, []}
use Rattle.std.proofs.Common.{◌∷◌, ◌++◌, Option, Some, None, refl, ◌∙◌, arith}
use Rattle.std.specs.Prelude.{◌==◌, All}
use Rattle.std.proofs.lemmas.Bool.Decides.{nat_tests}
use Rattle.std.proofs.lemmas.List.Elements.{All-nil, All-cons, All-head, All-tail, All-append}
use Rattle.std.specs.List.{filter_map, cons_option}
use Rattle.link_frames.specs.declared.frames.kind.Kind.TheVariants.{Send}
use Rattle.link_frames.specs.frames.Packets.{PacketValue, SentByOwner}
use Rattle.bracha_instance.specs.Broadcast.{Take}
use Rattle.bracha_instance.specs.Taking.{SendsAreFrom}
use Rattle.owner_streams.specs.Places.{take_of, take_at, takes_at}
use Rattle.owner_streams.specs.Steps.{SendsAreOwners}

cons_from : (P : Take → Type 0) (o : Option Take) (ts : List Take) → All P (cons_option o []) → All P ts
    → All P (cons_option o ts)
cons_from P None ts one rest = rest
cons_from P (Some t) ts one rest = All-cons P t ts (All-head P t [] one) rest

-- the SENDs of an instance are from its owner, where all are from their owners
one_from : (owner place : ℕ) (p : PacketValue) → SentByOwner p → (b : Bool)
    → ((p.owner == owner) && (p.place == place)) ≡ b →
    SendsAreFrom owner (cons_option (cond b (Some (take_of p)) None) [])
one_from owner place p sent true e =
    let IsFromIt : Take → Type 0 = λ u. u.kind ≡ Send → u.from ≡ owner in
    let same : p.owner ≡ owner = grind (arith, nat_tests) in
    All-cons IsFromIt (take_of p) [] (λ k. sent k ∙ same) (All-nil IsFromIt)
one_from owner place p sent false e = let IsFromIt : Take → Type 0 = λ u. u.kind ≡ Send → u.from ≡ owner in
    All-nil IsFromIt

pub sends_are_from : (owner place : ℕ) (packets : List PacketValue) → SendsAreOwners packets
    → SendsAreFrom owner (takes_at owner place packets)
unfolding takes_at
sends_are_from owner place [] sent = let IsFromIt : Take → Type 0 = λ u. u.kind ≡ Send → u.from ≡ owner in
    All-nil IsFromIt
sends_are_from owner place (p ∷ packets) sent =
    let IsFromIt : Take → Type 0 = λ u. u.kind ≡ Send → u.from ≡ owner in
    let rest : SendsAreFrom owner (filter_map (take_at owner place) packets) =
    sends_are_from owner place packets (All-tail SentByOwner p packets sent) in
    cons_from IsFromIt (take_at owner place p) _ (one_from owner place p (All-head SentByOwner p packets sent) _ refl)
    rest

-- the SENDs of a packet's instance are from its owner, that of the packet too
pub one_sender : (packets : List PacketValue) (p : PacketValue) → SendsAreOwners packets → SentByOwner p →
    SendsAreFrom p.owner (takes_at p.owner p.place packets ++ take_of p ∷ [])
one_sender packets p sent own =
    let IsFromIt : Take → Type 0 = λ u. u.kind ≡ Send → u.from ≡ p.owner in
    All-append IsFromIt (takes_at p.owner p.place packets) (take_of p ∷ [])
    (sends_are_from p.owner p.place packets sent)
    (All-cons IsFromIt (take_of p) [] own (All-nil IsFromIt))
