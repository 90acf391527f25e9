-- How long a history is that is within its shares.
use Rattle.std.proofs.Common.{◌≡◌, ℕ, zero, suc, ◌+◌, ◌*◌, ◌/◌, ◌^◌, ◌<◌, ◌≤◌, ◌⊎◌, inl, inr, ⊎_elim, Bool, true, false, cond}
use Rattle.std.proofs.Common.{List, [], ◌∷◌, ◌++◌, length, Result, Ok, Err, refl, sym, ap, ◌∙◌, subst, arith}
use Rattle.std.proofs.Common.{ltb-true}
use Rattle.std.specs.Prelude.{if◌then◌else◌, nat_lt, count_by, slice_index_or, All}
use Rattle.std.proofs.lemmas.Bool.{and_parts, and_from, lt-ltb, eq-eqb, cases_lt}
use Rattle.std.proofs.lemmas.List.Elements.{All-push, All-same, All-nil}
use Rattle.std.specs.FinSet as sets
use Rattle.quorum_sizes.specs.Sizes.{Counts}
use Rattle.quorum_sizes.specs.NodeSets.{Nodes}
use Rattle.quorum_sizes.proofs.Exported.{count, len-count, contains-nodes_among}
use Rattle.link_frames.specs.frames.Packets.{PacketValue}
use Rattle.role_commands.specs.Tables.{Table}
use Rattle.bracha_instance.specs.declared.instance.Effect.{Effect}
use Rattle.bracha_instance.specs.declared.instance.Effect.TheVariants as effect
use Rattle.role_node.specs.Answers.{is_routed, answer_due, is_recorded, IsLegal}
use Rattle.role_node.specs.Configs.{ConfigValue}
use Rattle.role_node.specs.Histories.{issued, packets, client_events}
use Rattle.role_node.specs.Work.{most_at_place}
use Rattle.role_node.specs.declared.event.Event.{Event}
use Rattle.role_node.specs.declared.event.Event.TheVariants as event
use Rattle.role_node.specs.declared.faults.NodeFault.{NodeFault}
use Rattle.role_node.specs.declared.faults.NodeFault.TheVariants as fault
use Rattle.role_node.proofs.Exported.{along_legal, packets-none, packets-Issue, packets-Take, packets-Client}
use Rattle.owner_shares.specs.Laws.{AreSound, IsWithinShares, is_before, SharesHold}
use Rattle.owner_shares.specs.Shares.{owners_of, owners_below, places_each, share, published_events}
use Rattle.owner_shares.proofs.Bounded.{owner_is_bounded}
use Rattle.owner_shares.proofs.Counting.{count_none, count_all, count_either, none_below}
use Rattle.owner_shares.proofs.Parts.{parts, counts_with_room}

-- Owners of packets that were taken are nodes.

abbrev AreOfNodes : Counts → List Event → Type 0
AreOfNodes s history = All (λ (p : PacketValue). p.owner < s.nodes) (packets history)

routed_if : (routed : Bool) (r : Result Effect NodeFault) →
    (if routed then r else Err fault.Misrouted) ≡ Ok effect.Counted → routed ≡ true
routed_if true r e = refl
routed_if false r e = absurd cc

of_nodes_next : (config : ConfigValue) (me : ℕ) (past : List Event) (e : Event) →
    is_recorded (answer_due config me past e) ≡ true → AreOfNodes config.roles.sizes past →
    AreOfNodes config.roles.sizes (past ++ e ∷ [])
of_nodes_next config me past (event.Issue c) recorded are =
    All-same (λ (p : PacketValue). p.owner < config.roles.sizes.nodes) _ _ (packets-Issue past c) are
of_nodes_next config me past (event.Take p) recorded are =
    let s : Counts = config.roles.sizes in
    let P : PacketValue → Type 0 = λ q. q.owner < s.nodes in
    let routed : is_routed s me p ≡ true =
    routed_if (is_routed s me p) _ (counts_with_room config me past (event.Take p) recorded) in
    let owner : p.owner < s.nodes = ltb-true p.owner s.nodes (and_parts _ _ routed).1 in
    All-same P _ _ (packets-Take past p) (All-push P (packets past) p are owner)
of_nodes_next config me past (event.Client act) recorded are =
    All-same (λ (p : PacketValue). p.owner < config.roles.sizes.nodes) _ _ (packets-Client past act) are

of_nodes : (config : ConfigValue) (me : ℕ) (history : List Event) → IsLegal config me history →
    AreOfNodes config.roles.sizes history
of_nodes config me history legal =
    let P : PacketValue → Type 0 = λ p. p.owner < config.roles.sizes.nodes in
    along_legal config me (AreOfNodes config.roles.sizes) (of_nodes_next config me) [] history legal
    (All-same P _ _ packets-none (All-nil P))

-- Packets by their owners, one owner after the other.

abbrev is_of_first : ℕ → PacketValue → Bool
is_of_first owners p = nat_lt p.owner owners

abbrev IsBelow : Table → PacketValue → Type 0
IsBelow roles p = p.place < share roles p.owner

of_next : (roles : Table) (owners : ℕ) (p : PacketValue) → IsBelow roles p → is_of_first (suc owners) p ≡ true →
    (is_of_first owners p ≡ true) ⊎ (is_before owners (share roles owners) p ≡ true)
of_next roles owners p below is =
    let within : p.owner < suc owners = ltb-true p.owner (suc owners) is in
    ⊎_elim (λ (early : p.owner < owners). inl (lt-ltb p.owner owners early))
    (λ (late : owners ≤ p.owner).
    let same : p.owner ≡ owners = omega (arith, within, late) in
    let place : nat_lt p.place (share roles owners) ≡ true =
    lt-ltb p.place (share roles owners) (omega (arith, below, ap (share roles) same)) in
    inr (and_from _ _ (eq-eqb p.owner owners same) place))
    (cases_lt p.owner owners)

by_owner : (roles : Table) (owners : ℕ) (ps : List PacketValue) → All (IsBelow roles) ps →
    count_by (is_of_first (suc owners)) ps
    ≤ count_by (is_of_first owners) ps + count_by (is_before owners (share roles owners)) ps
by_owner roles owners ps below =
    count_either (is_of_first (suc owners)) (is_of_first owners) (is_before owners (share roles owners)) ps
    (λ k d h. of_next roles owners (slice_index_or ps k d) (below k d h))

all_of_first : (nodes : ℕ) (ps : List PacketValue) → All (λ (p : PacketValue). p.owner < nodes) ps →
    count_by (is_of_first nodes) ps ≡ length ps
all_of_first nodes ps are =
    count_all (is_of_first nodes) ps (λ k d h. lt-ltb (slice_index_or ps k d).owner nodes (are k d h))

abbrev each_of : Table → ℕ
each_of roles = places_each (sets.len (owners_of roles)) roles.sizes.nodes

more_owners : (b : Bool) (owners each most taken before here : ℕ) → taken ≤ before + here →
    before ≤ owners * (each * most) → here ≤ cond b each 0 * most →
    taken ≤ cond b (suc owners) owners * (each * most)
more_owners true owners each most taken before here le was now =
    let product : suc owners * (each * most) ≡ each * most + owners * (each * most) = grind arith in
    omega (arith, le, was, now, product)
more_owners false owners each most taken before here le was now =
    let none : 0 * most ≡ 0 = grind arith in
    omega (arith, le, was, now, none)

few_of_first : (config : ConfigValue) (me : ℕ) (history : List Event) → IsLegal config me history → AreSound history →
    All (IsBelow config.roles) (packets history) → (owners : ℕ) →
    count_by (is_of_first owners) (packets history)
    ≤ count (sets.contains (owners_of config.roles)) owners
    * (each_of config.roles * most_at_place config.roles.sizes)
few_of_first config me history legal sound below zero =
    omega (arith, count_none (is_of_first zero) (λ p. none_below p.owner) (packets history))
few_of_first config me history legal sound below (suc owners) =
    more_owners (sets.contains (owners_of config.roles) owners) _ (each_of config.roles)
    (most_at_place config.roles.sizes) _ _ _ (by_owner config.roles owners (packets history) below)
    (few_of_first config me history legal sound below owners)
    (owner_is_bounded config me history owners (share config.roles owners) legal sound)

owners_are_nodes : (roles : Table) (name : ℕ) → sets.contains (owners_of roles) name ≡ true → name < roles.sizes.nodes
owners_are_nodes roles name has =
    let among : Nodes = sets.from_list (owners_below roles (2 ^ 16)) in
    ltb-true name roles.sizes.nodes (and_parts _ _ (sym (contains-nodes_among roles.sizes among name) ∙ has)).1

few_packets : (config : ConfigValue) (me : ℕ) (history : List Event) → IsLegal config me history → AreSound history →
    IsWithinShares config.roles me history →
    length (packets history)
    ≤ sets.len (owners_of config.roles) * (each_of config.roles * most_at_place config.roles.sizes)
few_packets config me history legal sound within =
    let nodes : ℕ = config.roles.sizes.nodes in
    let all = all_of_first nodes (packets history) (of_nodes config me history legal) in
    let owners = len-count nodes (owners_of config.roles) (owners_are_nodes config.roles) in
    let few = few_of_first config me history legal sound within.taken nodes in
    let P : ℕ → Type 0 = λ n.
    length (packets history) ≤ n * (each_of config.roles * most_at_place config.roles.sizes) in
    subst P (sym owners) (omega (arith, all, few))

-- What shares add up to.

within_each : (b : Bool) (each n : ℕ) → n ≤ cond b each 0 → n ≤ each
within_each true each n le = le
within_each false each n le = omega (arith, le)

quotient : (dividend by each : ℕ) → 0 < by → each ≡ dividend / by → by * each ≤ dividend
quotient dividend by each some e =
    let is : by * each ≡ by * (dividend / by) = ap (λ q. by * q) e in
    omega (arith, is)

adds_up : (owners most each : ℕ) → each ≡ published_events / (owners * most + 1) →
    owners * (each * most) + each ≤ published_events
adds_up owners most each e =
    let whole = quotient published_events (owners * most + 1) each (omega arith) e in
    let product : (owners * most + 1) * each ≡ owners * (each * most) + each = grind arith in
    omega (arith, whole, product)

pub shares_hold : SharesHold
shares_hold config me history legal sound within =
    let owners : ℕ = sets.len (owners_of config.roles) in
    let most : ℕ = most_at_place config.roles.sizes in
    let few = few_packets config me history legal sound within in
    let own : length (issued history) ≤ each_of config.roles =
    within_each (sets.contains (owners_of config.roles) me) _ _ within.issued in
    let sum = adds_up owners most (each_of config.roles) refl in
    let short : length history ≤ published_events + length (client_events history) =
    omega (arith, parts history, few, own, sum) in
    record { published = short; room = omega (arith, short, within.acts) }
