-- The streams of all owners, one of which takes a packet.
use Rattle.std.proofs.Common.{◌≡◌, ◌≢◌, ℕ, ◌<◌, ◌≤◌, ⊎_elim, false, ◌&&◌, List, [], ◌∷◌, ◌++◌, length}
use Rattle.std.proofs.Common.{map, get_or, Option, Some, None, refl, sym, ap, ◌∙◌, subst, arith}
use Rattle.std.specs.Prelude.{◌==◌, slice_get, slice_set, unwrap_or, slice_index_or, option_map, All}
use Rattle.std.specs.FinMap as maps
use Rattle.std.specs.Ordering.{nat_cmp}
use Rattle.std.proofs.lemmas.Bool.{cases_eq, cases_lt}
use Rattle.std.proofs.lemmas.Bool.Decides.{nat_tests}
use Rattle.std.proofs.lemmas.List.{map-set, set-get_or, get_or-set_same, get_or-set_other, length-set}
use Rattle.std.proofs.lemmas.Option.{slice_get-map, unwrap_or-slice_get, slice_get_within}
use Rattle.std.proofs.lemmas.Option.{get_or_from_slice_get, slice_get-get_or, slice_get_read}
use Rattle.quorum_sizes.specs.Sizes.{Counts}
use Rattle.link_frames.specs.frames.Packets.{PacketValue}
use Rattle.bracha_instance.specs.States.{state}
use Rattle.owner_streams.specs.Places.{window, takes_at}
use Rattle.owner_streams.specs.Values.{StreamsValue, state_at, IsStateOf}
use Rattle.owner_streams.specs.inside.Slots.{state_in, delivered_in}
use Rattle.owner_streams.specs.inside.Kept.{reach_in, held_in, held, IsOwnerStream, AreStatesOf, SamePlaces}
use Rattle.owner_streams.specs.inside.Kept.{instances_in}
use Rattle.owner_streams.specs.inside.VoteEnds.{AreEndsOf}
use Rattle.owner_streams.specs.declared.owner_stream.OwnerStream.{OwnerStream}
use Rattle.owner_streams.specs.declared.vote_ends.VoteEnds.{VoteEnds}
use Rattle.owner_streams.proofs.Taken.{takes_at-other}
use Rattle.owner_streams.proofs.Rings.{held-window, held-beyond, get-instances_in, same_instances_in}

-- what contracts see of these streams
abbrev pub seen : Counts → List OwnerStream → StreamsValue
seen s rows = record { sizes = s; owners = map instances_in rows }

instances_are : (rows : List OwnerStream) (owner : ℕ) (row : OwnerStream) → slice_get rows owner ≡ Some row →
    unwrap_or (slice_get (map instances_in rows) owner) maps.empty ≡ instances_in row
instances_are rows owner row e =
    ap (λ o. unwrap_or o maps.empty) (slice_get-map instances_in rows owner ∙ ap (option_map instances_in) e)

-- the state at an owner's place is what the owner's stream holds there
pub state_at_is : (s : Counts) (rows : List OwnerStream) (owner : ℕ) (row : OwnerStream)
    → slice_get rows owner ≡ Some row →
    (place : ℕ) → state_at (seen s rows) owner place ≡ state_in s (held row place)
state_at_is s rows owner row e place =
    ap (λ m. unwrap_or (maps.get m place) (state s [])) (instances_are rows owner row e)
    ∙ ap (λ slot. unwrap_or slot (state s [])) (get-instances_in row place)

pub are_states_of : (s : Counts) (rows : List OwnerStream) (owner : ℕ) (row : OwnerStream)
    → slice_get rows owner ≡ Some row →
    (packets : List PacketValue) → IsStateOf (seen s rows) packets → AreStatesOf s owner row packets
are_states_of s rows owner row e packets is = record {
  at_each_place = λ place. sym (state_at_is s rows owner row e place) ∙ is.at_each_place owner place;
}

there_now : (rows : List OwnerStream) (owner : ℕ) (row new : OwnerStream) → slice_get rows owner ≡ Some row
    → slice_get (slice_set rows owner new) owner ≡ Some new
there_now rows owner row new e =
    let h : owner < length rows = slice_get_within rows owner row e in
    let k : owner < length (slice_set rows owner new) = omega (arith, length-set rows owner new) in
    slice_get-get_or (slice_set rows owner new) owner new k ∙ ap Some (get_or-set_same rows owner new new h)

other_instances : (rows : List OwnerStream) (owner other : ℕ) (new : OwnerStream) → other ≢ owner →
    unwrap_or (slice_get (map instances_in (slice_set rows owner new)) other) maps.empty
    ≡ unwrap_or (slice_get (map instances_in rows) other) maps.empty
other_instances rows owner other new apart =
    ap (λ xs. unwrap_or (slice_get xs other) maps.empty) (map-set instances_in rows owner new)
    ∙ unwrap_or-slice_get (slice_set (map instances_in rows) owner (instances_in new)) other maps.empty
    ∙ get_or-set_other (map instances_in rows) owner other (instances_in new) maps.empty apart
    ∙ sym (unwrap_or-slice_get (map instances_in rows) other maps.empty)

not_owners : (a b place k : ℕ) → b ≢ a → ((a == b) && (place == k)) ≡ false
not_owners a b place k apart = let turned : a ≢ b = λ e. apart (sym e) in grind (arith, nat_tests)

-- one owner's stream holds one more packet, and so do all together
pub state_push : (s : Counts) (rows : List OwnerStream) (row new : OwnerStream) (p : PacketValue)
    → slice_get rows p.owner ≡ Some row →
    (packets : List PacketValue) → IsStateOf (seen s rows) packets → AreStatesOf s p.owner new (packets ++ p ∷ []) →
    IsStateOf (seen s (slice_set rows p.owner new)) (packets ++ p ∷ [])
state_push s rows row new p e packets is now = record {
  at_each_place = λ owner place.
      ⊎_elim
      (λ (same : owner ≡ p.owner).
      subst (λ k. state_at (seen s (slice_set rows p.owner new)) k place
      ≡ state s (takes_at k place (packets ++ p ∷ []))) (sym same)
      (state_at_is s (slice_set rows p.owner new) p.owner new (there_now rows p.owner row new e) place
      ∙ now.at_each_place place))
      (λ (apart : owner ≢ p.owner).
      ap (λ m. unwrap_or (maps.get m place) (state s [])) (other_instances rows p.owner owner new apart)
      ∙ is.at_each_place owner place
      ∙ ap (state s) (sym (takes_at-other owner place packets p (not_owners p.owner owner p.place place apart))))
      (cases_eq owner p.owner);
}

-- an owner's stream that holds the same changes nothing that contracts see
pub same_seen : (s : Counts) (rows : List OwnerStream) (owner : ℕ) (row new : OwnerStream)
    → slice_get rows owner ≡ Some row
    → SamePlaces row new →
    seen s (slice_set rows owner new) ≡ seen s rows
same_seen s rows owner row new e same =
    let one : instances_in new ≡ instances_in row =
    same_instances_in row new same.at_each_place in
    let kept : get_or (map instances_in rows) owner maps.empty ≡ instances_in row =
    sym (unwrap_or-slice_get (map instances_in rows) owner maps.empty) ∙ instances_are rows owner row e in
    let all : map instances_in (slice_set rows owner new) ≡ map instances_in rows =
    map-set instances_in rows owner new ∙ ap (slice_set (map instances_in rows) owner) (one ∙ sym kept)
    ∙ set-get_or (map instances_in rows) owner maps.empty in
    λ i. record { sizes = s; owners = all i }

-- a stream of which nothing was taken
abbrev pub IsFresh : OwnerStream → Type 0
IsFresh row = (row.below.items ≡ []) × (row.ring.items ≡ [])

empty_slot : (row : OwnerStream) → IsFresh row → (place : ℕ) → held row place ≡ None
unfolding held
empty_slot row fresh place =
    (λ i. held_in (fresh.0 i) (fresh.1 i) place)
    ∙ ⊎_elim (λ (within : place < window). held-window [] [] place (omega arith) (omega arith))
    (λ (past : window ≤ place). held-beyond [] [] place (omega arith))
    (cases_lt place window)

pub fresh_is_kept : (s : Counts) (row : OwnerStream) → IsFresh row → IsOwnerStream s row
fresh_is_kept s row fresh = record {
  states = λ place. ([], ap (state_in s) (empty_slot row fresh place));
  run = λ place h. let e : reach_in row ≡ 0 = ap length fresh.0 in absurd (omega arith);
  run_ends = ap delivered_in (empty_slot row fresh (reach_in row));
  in_range = λ place past. empty_slot row fresh place;
}

fresh_at : (s : Counts) (rows : List OwnerStream) (owner place : ℕ) → All IsFresh rows → (o : Option OwnerStream)
    → slice_get rows owner ≡ o →
    state_at (seen s rows) owner place ≡ state s []
fresh_at s rows owner place fresh None e =
    ap (λ o. unwrap_or (maps.get (unwrap_or o maps.empty) place) (state s [])) (slice_get-map instances_in rows owner
    ∙ ap (option_map instances_in) e)
    ∙ ap (λ slot. unwrap_or slot (state s [])) (maps.get-empty nat_cmp place)
fresh_at s rows owner place fresh (Some row) e =
    let is : IsFresh row =
    subst IsFresh (get_or_from_slice_get rows owner row row e) (fresh owner row (slice_get_within rows owner row e))
    in
    state_at_is s rows owner row e place ∙ ap (state_in s) (empty_slot row is place)

-- where nothing was taken from any owner, all is in the state of no packets
pub fresh_state : (s : Counts) (rows : List OwnerStream) → All IsFresh rows → IsStateOf (seen s rows) []
unfolding takes_at
fresh_state s rows fresh =
    record { at_each_place = λ owner place. fresh_at s rows owner place fresh (slice_get rows owner) refl }

-- of the streams that contracts see as v, the one at index i is that of the owner
pub record IsOwners (s : Counts) (rows : List OwnerStream) (i owner : ℕ) (row : OwnerStream) (v : StreamsValue) : Type 0
  where
    pub at : i ≡ owner
    pub here : slice_get rows owner ≡ Some row
    pub is : seen s rows ≡ v

pub is_owners : {s : Counts} {rows : List OwnerStream} {i owner : ℕ} {row : OwnerStream} {v : StreamsValue} →
    i ≡ owner → length rows ≡ s.nodes → owner < v.sizes.nodes → seen s rows ≡ v → row ≡ slice_index_or rows i row
    → IsOwners s rows i owner row v
is_owners {s} {rows} {i} {owner} {row} {v} at one_each has is read =
    let nodes : s.nodes ≡ v.sizes.nodes = ap (λ w. w.sizes.nodes) is in
    let within : owner < length rows = omega arith in
    record {
      at = at;
      here = slice_get_read rows (length rows) owner row refl within (read ∙ ap (λ k. slice_index_or rows k row) at);
      is = is;
    }

-- it is kept as all are
pub is_kept : {s : Counts} {rows : List OwnerStream} {i owner : ℕ} {row : OwnerStream} {v : StreamsValue} →
    IsOwners s rows i owner row v → All (IsOwnerStream s) rows → IsOwnerStream s row
is_kept {s} {rows} {i} {owner} {row} {v} o all =
    subst (IsOwnerStream s) (get_or_from_slice_get rows owner row row o.here)
    (all owner row (slice_get_within rows owner row o.here))

-- what holds of packets by the one owner's stream holds by all
pub by_owner : {s : Counts} {rows : List OwnerStream} {i owner : ℕ} {row : OwnerStream} {v : StreamsValue} (P : Counts
    → List PacketValue → Type 0) →
    IsOwners s rows i owner row v → ((packets : List PacketValue) → AreStatesOf s owner row packets → P s packets) →
    (packets : List PacketValue) → IsStateOf v packets → P v.sizes packets
by_owner {s} {rows} {i} {owner} {row} {v} P o one =
    let Holds : StreamsValue → Type 0 = λ w. (packets : List PacketValue) → IsStateOf w packets → P w.sizes packets in
    subst Holds o.is (λ packets known. one packets (are_states_of s rows owner row o.here packets known))

-- one owner's stream goes on by a packet, and so do all together
pub state_goes_on : {s : Counts} {rows : List OwnerStream} {i : ℕ} {row : OwnerStream} {v : StreamsValue}
    (p : PacketValue) (new : OwnerStream) → IsOwners s rows i p.owner row v →
    ((packets : List PacketValue) → AreStatesOf s p.owner row packets → AreStatesOf s p.owner new (packets ++ p ∷ [])) →
    (packets : List PacketValue) → IsStateOf v packets →
    IsStateOf (seen s (slice_set rows i new)) (packets ++ p ∷ [])
state_goes_on {s = s} {rows = rows} {i = i} {row = row} {v = v} p new o one packets is =
    let known : IsStateOf (seen s rows) packets = subst (λ w. IsStateOf w packets) (sym o.is) is in
    subst (λ k. IsStateOf (seen s (slice_set rows k new)) (packets ++ p ∷ [])) (sym o.at)
    (state_push s rows row new p o.here packets known
    (one packets (are_states_of s rows p.owner row o.here packets known)))

pub same_as_before : {s : Counts} {rows : List OwnerStream} {i owner : ℕ} {row : OwnerStream} {v : StreamsValue}
    (new : OwnerStream) →
    IsOwners s rows i owner row v → SamePlaces row new → seen s (slice_set rows i new) ≡ v
same_as_before {s} {rows} {i} {owner} {row} {v} new o same =
    ap (λ k. seen s (slice_set rows k new)) o.at ∙ same_seen s rows owner row new o.here same ∙ o.is

-- there are packets of which these are the streams and the last votes
abbrev AreOfPackets : Counts → List OwnerStream → VoteEnds → Type 0
AreOfPackets s rows ends =
    (packets : List PacketValue) × IsStateOf (seen s rows) packets × AreEndsOf s packets ends

pub still_of_packets : {s : Counts} {rows : List OwnerStream} {i owner : ℕ} {row : OwnerStream} {v : StreamsValue}
    {ends : VoteEnds} (new : OwnerStream) → IsOwners s rows i owner row v → SamePlaces row new →
    AreOfPackets s rows ends → AreOfPackets s (slice_set rows i new) ends
still_of_packets new o same known =
    (known.0, subst (λ w. IsStateOf w known.0) (o.is ∙ sym (same_as_before new o same)) known.1, known.2)

pub of_one_more : {s : Counts} {rows : List OwnerStream} {i : ℕ} {row : OwnerStream} {v : StreamsValue}
    {ends counted : VoteEnds} (p : PacketValue) (new : OwnerStream) → IsOwners s rows i p.owner row v →
    ((packets : List PacketValue) → AreStatesOf s p.owner row packets → AreStatesOf s p.owner new (packets ++ p ∷ [])) →
    ((packets : List PacketValue) → AreEndsOf s packets ends → AreEndsOf s (packets ++ p ∷ []) counted) →
    AreOfPackets s rows ends → AreOfPackets s (slice_set rows i new) counted
of_one_more p new o one count known = (
  known.0 ++ p ∷ [],
  state_goes_on p new o one known.0 (subst (λ w. IsStateOf w known.0) o.is known.1),
  count known.0 known.2,
)
