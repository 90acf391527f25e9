-- How long a history is: what its node issued, what its clients did, and what can count about the places in it.
use Rattle.std.proofs.Common.{◌≡◌, ℕ, suc, ◌+◌, ◌*◌, ◌<◌, ◌≤◌, List, [], ◌∷◌, ◌++◌, length, Some, refl, ap, ◌∙◌}
use Rattle.std.proofs.Common.{length-append, arith, append-nil, append_assoc}
use Rattle.std.specs.Prelude.{slice_get}
use Rattle.quorum_sizes.specs.Sizes.{Counts}
use Rattle.link_frames.specs.frames.Packets.{PacketValue}
use Rattle.owner_streams.proofs.Exported.{takes_at-own, takes_at-append}
use Rattle.owner_streams.specs.Places.{take_of, takes_at}
use Rattle.role_node.specs.Histories.{packet_in, packets, issued, client_events}
use Rattle.role_node.specs.Work.{most_at_place}
use Rattle.role_node.specs.declared.event.Event.{Event}
use Rattle.role_node.specs.declared.event.Event.TheVariants as event
use Rattle.byz_world.specs.Progress.{HistoryIsBounded}
use Rattle.byz_world.specs.Runs.{history_of}
use Rattle.byz_world.proofs.Elements.{contained}
use Rattle.byz_world.proofs.Histories.{packet_of_event, routed}
use Rattle.byz_world.proofs.Lists.{IsPicked, picked_from}
use Rattle.byz_world.proofs.Prolonging.{total, total_most, total_keeps, total_more}
use Rattle.byz_world.proofs.Work.{few_at_place}

parts : (history : List Event) →
    length history ≡ length (issued history) + length (client_events history) + length (packets history)
unfolding issued client_events packets
parts [] = omega arith
parts (event.Issue c ∷ history) = omega (arith, parts history)
parts (event.Take p ∷ history) = omega (arith, parts history)
parts (event.Client act ∷ history) = omega (arith, parts history)

abbrev of_owner : List PacketValue → ℕ → ℕ → ℕ
of_owner ps places owner = total (λ place. length (takes_at owner place ps)) places

abbrev work : List PacketValue → ℕ → ℕ → ℕ
work ps nodes places = total (of_owner ps places) nodes

grows : (ps : List PacketValue) (p : PacketValue) (owner place : ℕ) →
    length (takes_at owner place ps) ≤ length (takes_at owner place (ps ++ p ∷ []))
grows ps p owner place =
    let long = ap length (takes_at-append owner place ps (p ∷ []))
    ∙ length-append (takes_at owner place ps) (takes_at owner place (p ∷ [])) in
    omega (arith, long)

grows_there : (ps : List PacketValue) (p : PacketValue) →
    length (takes_at p.owner p.place ps) + 1 ≤ length (takes_at p.owner p.place (ps ++ p ∷ []))
grows_there ps p =
    let long = ap length (takes_at-own ps p) ∙ length-append (takes_at p.owner p.place ps) (take_of p ∷ []) in
    omega (arith, long)

one_more : (ps : List PacketValue) (p : PacketValue) (nodes places : ℕ) → p.owner < nodes → p.place < places →
    work ps nodes places + 1 ≤ work (ps ++ p ∷ []) nodes places
one_more ps p nodes places owner place =
    total_more (of_owner ps places) (of_owner (ps ++ p ∷ []) places) nodes p.owner
    (λ o. total_keeps _ _ places (λ k. grows ps p o k)) owner
    (total_more (λ k. length (takes_at p.owner k ps)) (λ k. length (takes_at p.owner k (ps ++ p ∷ []))) places p.place
    (λ k. grows ps p p.owner k) place (grows_there ps p))

counted : (nodes places : ℕ) (past rest : List PacketValue) →
    ((k : ℕ) (p : PacketValue) → slice_get rest k ≡ Some p → (p.owner < nodes) × (p.place < places)) →
    length rest + work past nodes places ≤ work (past ++ rest) nodes places
counted nodes places past [] within =
    let same : work (past ++ []) nodes places ≡ work past nodes places =
    ap (λ ps. work ps nodes places) (append-nil past) in
    omega (arith, same)
counted nodes places past (p ∷ rest) within =
    let here = within 0 p refl in
    let one = one_more past p nodes places here.0 here.1 in
    let later = counted nodes places (past ++ p ∷ []) rest (λ k q at. within (suc k) q at) in
    let same : work ((past ++ p ∷ []) ++ rest) nodes places ≡ work (past ++ p ∷ rest) nodes places =
    ap (λ ps. work ps nodes places) (append_assoc past (p ∷ []) rest) in
    omega (arith, one, later, same)

pub history_is_bounded : HistoryIsBounded
unfolding packets
history_is_bounded config liars run node places cluster below =
    let s : Counts = config.roles.sizes in
    let history : List Event = history_of node run in
    let owned : (k : ℕ) (p : PacketValue) → slice_get (packets history) k ≡ Some p → p.owner < s.nodes =
    λ k p at.
    let from : IsPicked packet_in history p = picked_from packet_in history p k at in
    let e : from.0 ≡ event.Take p = packet_of_event from.0 p from.2 in
    let route = routed config node history from.1.0 p (cluster.legal node) (from.1.1 ∙ ap Some e) in
    route.2 in
    let few = counted s.nodes places [] (packets history)
    (λ k p at. (owned k p at, below p (contained (packets history) k p at))) in
    let most = total_most (of_owner (packets history) places) s.nodes (places * most_at_place s)
    (λ owner. total_most (λ place. length (takes_at owner place (packets history))) places (most_at_place s)
    (λ place. few_at_place config liars run node owner place cluster)) in
    omega (arith, parts history, few, most)
