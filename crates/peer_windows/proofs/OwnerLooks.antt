-- Gathering for the pairs of one owner, peer by peer.
use Rattle.std.proofs.Common.{◌≡◌, ◌≢◌, ℕ, ◌+◌, ◌<◌, ◌≤◌, ◌⊎◌, inl, inr, List, length, set, sym, ap, ◌∙◌}
use Rattle.std.proofs.Common.{arith, subst, refl}
use Rattle.std.specs.Prelude.{Option, Some, None, is_some, true, min}
use Rattle.std.proofs.lemmas.Bool.{cases_eq, cases_lt}
use Rattle.std.proofs.lemmas.List.{get_or_past, get_or-set_same, get_or-set_other, length-set}
use Rattle.node_lock.specs.Holds.{Held}
use Rattle.node_lock.specs.Views.{node_count}
use Rattle.peer_windows.specs.Pauses.{never, most_time}
use Rattle.peer_windows.specs.Owed.{OwedValue, IsGathered}
use Rattle.peer_windows.specs.Owners.{PairsValue, pair_at}
use Rattle.peer_windows.specs.Looks.{room_at, next_room, due_at, IsTime, IsReached, IsLookedAt}
use Rattle.peer_windows.specs.inside.PairLooks.{with_due, IsOwnersChange, IsRoomAfter, AreRoomsAfter}
use Rattle.peer_windows.specs.inside.PairLooks.{IsPairGathered, IsOwnerGathered}
use Rattle.peer_windows.specs.declared.pair.Pair.{Pair}
use Rattle.peer_windows.proofs.Gathering.{gathered_none}
use Rattle.peer_windows.proofs.PairLooks.{owners_same, owners_more, room_same, room_more, looked_more, looked_as}

-- How far gathering has come: what room there is, what was gathered, when an owner is due, and the pairs.
pub record Standing : Type 0 where
  pub rooms : List (Option ℕ)
  pub owed : OwedValue
  pub due : ℕ
  pub pairs : PairsValue

-- the owner is due when one of its pairs with the first peers is, or soon, or never
abbrev pub IsPartTime : ℕ → ℕ → ℕ → PairsValue → ℕ → Type 0
IsPartTime now owner count a time = (time ≡ never) ⊎ (time ≡ now + next_room)
    ⊎ ((peer : ℕ) × (peer < count) × (time ≡ (pair_at a owner peer).look.until))

part_time_still : (now owner count : ℕ) (a b : PairsValue) (time : ℕ) →
    ((peer : ℕ) → peer ≢ count → pair_at b owner peer ≡ pair_at a owner peer) → IsPartTime now owner count a time →
    IsPartTime now owner (count + 1) b time
part_time_still now owner count a b time still was =
    elim was [
      | inl none ↦ inl none
      | inr some ↦ elim some [
        | inl soon ↦ inr (inl soon)
        | inr pair ↦
            let same : pair_at b owner pair.0 ≡ pair_at a owner pair.0 =
            still pair.0 (λ same. omega (arith, same, pair.1)) in
            inr (inr (pair.0, omega (arith, pair.1), pair.2 ∙ sym (ap (λ (x : Pair). x.look.until) same)))
      ]
    ]

part_time_new : (now owner count : ℕ) (b : PairsValue) (time : ℕ) →
    (time ≡ never) ⊎ (time ≡ now + next_room) ⊎ (time ≡ (pair_at b owner count).look.until) →
    IsPartTime now owner (count + 1) b time
part_time_new now owner count b time was =
    elim was [
      | inl none ↦ inl none
      | inr some ↦ elim some [
        | inl soon ↦ inr (inl soon)
        | inr pair ↦ inr (inr (count, omega arith, pair))
      ]
    ]

part_time_all : (now owner count : ℕ) (a : PairsValue) (time : ℕ) → IsPartTime now owner count a time →
    IsTime now time a owner
part_time_all now owner count a time was =
    elim was [
      | inl none ↦ inl none
      | inr some ↦ elim some [
        | inl soon ↦ inr (inl soon)
        | inr pair ↦ inr (inr (pair.0, pair.2))
      ]
    ]

-- The pairs of an owner with the first peers were looked at where there is a connection, and the others stay.
pub record IsPart (h : Held) (now owner count : ℕ) (first s : Standing) : Type 0 where
  pub looks : (peer : ℕ) → peer < count → IsReached h first.pairs owner peer (room_at first.rooms peer) →
      IsLookedAt h now first.pairs.longest owner peer (room_at s.rooms peer) s.owed s.due
      (pair_at first.pairs owner peer) (pair_at s.pairs owner peer)
  pub time : IsPartTime now owner count s.pairs s.due
  pub rest : (peer : ℕ) → count ≤ peer → pair_at s.pairs owner peer ≡ pair_at first.pairs owner peer
  pub rest_rooms : (peer : ℕ) → count ≤ peer → room_at s.rooms peer ≡ room_at first.rooms peer
  pub apart : (peer : ℕ) → room_at first.rooms peer ≡ None →
      pair_at s.pairs owner peer ≡ pair_at first.pairs owner peer
  pub change : IsOwnersChange owner first.pairs s.pairs
  pub rooms : AreRoomsAfter first.rooms s.rooms
  pub peers : length s.rooms ≡ length first.rooms

pub rooms_same : (rooms : List (Option ℕ)) → AreRoomsAfter rooms rooms
rooms_same rooms = record { each = λ peer. room_same (room_at rooms peer) }

pub rooms_more : (a b c : List (Option ℕ)) → AreRoomsAfter a b → AreRoomsAfter b c → AreRoomsAfter a c
rooms_more a b c first next = record {
  each = λ peer. room_more (room_at a peer) (room_at b peer) (room_at c peer) (first.each peer) (next.each peer);
}

room_is : (a b : Option ℕ) → b ≡ a → IsRoomAfter a b
room_is a b same = subst (IsRoomAfter a) (sym same) (room_same a)

-- the room of one peer has changed
pub rooms_set : (rooms : List (Option ℕ)) (at : ℕ) (room : Option ℕ) → at < length rooms →
    IsRoomAfter (room_at rooms at) room → AreRoomsAfter rooms (set rooms at room)
rooms_set rooms at room within after = record {
  each = λ peer. elim (cases_eq peer at) [
    | inl same ↦ subst (λ p. IsRoomAfter (room_at rooms p) (room_at (set rooms at room) p)) (sym same)
        (subst (IsRoomAfter (room_at rooms at)) (sym (get_or-set_same rooms at room None within)) after)
    | inr apart ↦ room_is (room_at rooms peer) (room_at (set rooms at room) peer)
        (get_or-set_other rooms at peer room None apart)
  ];
}

pub no_connection : (room : Option ℕ) → room ≡ None → is_some room ≡ true → ⊥
no_connection None none connected = cc
no_connection (Some free) none connected = cc

sooner_is : (a b c : ℕ) → c ≡ min a b → a < b → c ≡ a
sooner_is a b c is before = omega (arith, is, before)

later_is : (a b c : ℕ) → c ≡ min a b → b ≤ a → c ≡ b
later_is a b c is behind = omega (arith, is, behind)

-- one peer more
pub part_more : (h : Held) (now owner at : ℕ) (first s : Standing) (room : Option ℕ) (owed : OwedValue)
    (due sooner : ℕ) (b : PairsValue) → IsPart h now owner at first s →
    IsPairGathered h now owner at (room_at s.rooms at) room owed due s.pairs b → IsGathered h s.owed owed →
    at < length s.rooms → sooner ≡ min s.due due →
    IsPart h now owner (at + 1) first (record { rooms = set s.rooms at room; owed = owed; due = sooner; pairs = b })
part_more h now owner at first s room owed due sooner b was pair more within soon =
    let rooms : List (Option ℕ) = set s.rooms at room in
    let longest : ℕ = first.pairs.longest in
    let here : room_at rooms at ≡ room = get_or-set_same s.rooms at room None within in
    let elsewhere : (peer : ℕ) → peer ≢ at → room_at rooms peer ≡ room_at s.rooms peer =
    λ peer apart. get_or-set_other s.rooms at peer room None apart in
    let earlier : (peer : ℕ) → peer < at → IsReached h first.pairs owner peer (room_at first.rooms peer) →
    IsLookedAt h now longest owner peer (room_at rooms peer) owed sooner (pair_at first.pairs owner peer)
    (pair_at b owner peer) =
    λ peer low reached.
    let apart : peer ≢ at = λ same. omega (arith, low, same) in
    looked_as h h now longest longest owner peer (room_at rooms peer) owed sooner sooner
    (pair_at first.pairs owner peer) (pair_at first.pairs owner peer) (pair_at s.pairs owner peer)
    (pair_at b owner peer) refl refl refl refl (sym (pair.change.peers peer apart))
    (looked_more h now longest owner peer (room_at s.rooms peer) (room_at rooms peer) s.owed owed s.due
    sooner (pair_at first.pairs owner peer) (pair_at s.pairs owner peer)
    (room_is (room_at s.rooms peer) (room_at rooms peer) (elsewhere peer apart)) more (omega (arith, soon))
    (was.looks peer low reached)) in
    let now_looked : IsReached h first.pairs owner at (room_at first.rooms at) →
    IsLookedAt h now longest owner at (room_at rooms at) owed sooner (pair_at first.pairs owner at)
    (pair_at b owner at) =
    λ reached.
    let there : IsReached h s.pairs owner at (room_at s.rooms at) = record {
      owner_known = reached.owner_known;
      peer_known = reached.peer_known;
      pair = omega (arith, reached.pair, was.change.many.pairs owner);
      connected = ap is_some (was.rest_rooms at (omega arith)) ∙ reached.connected;
    } in
    looked_as h h now s.pairs.longest longest owner at (room_at rooms at) owed sooner sooner
    (pair_at s.pairs owner at) (pair_at first.pairs owner at) (pair_at b owner at) (pair_at b owner at) refl
    was.change.many.longest refl (was.rest at (omega arith)) refl
    (looked_more h now s.pairs.longest owner at room (room_at rooms at) owed owed due sooner
    (pair_at s.pairs owner at) (pair_at b owner at) (room_is room (room_at rooms at) here) (gathered_none h owed)
    (omega (arith, soon)) (pair.look there)) in
    record {
      looks = λ peer few reached. elim (cases_lt peer at) [
        | inl low ↦ earlier peer low reached
        | inr high ↦
            let same : peer ≡ at = omega (arith, few, high) in
            subst (λ p. IsReached h first.pairs owner p (room_at first.rooms p) →
            IsLookedAt h now longest owner p (room_at rooms p) owed sooner (pair_at first.pairs owner p)
            (pair_at b owner p)) (sym same) now_looked reached
      ];
      time = elim (cases_lt s.due due) [
        | inl before ↦ subst (IsPartTime now owner (at + 1) b) (sym (sooner_is s.due due sooner soon before))
            (part_time_still now owner at s.pairs b s.due pair.change.peers was.time)
        | inr behind ↦ subst (IsPartTime now owner (at + 1) b) (sym (later_is s.due due sooner soon behind))
            (part_time_new now owner at b due pair.time)
      ];
      rest = λ peer past.
          pair.change.peers peer (λ same. omega (arith, past, same)) ∙ was.rest peer (omega (arith, past));
      rest_rooms = λ peer past.
          elsewhere peer (λ same. omega (arith, past, same)) ∙ was.rest_rooms peer (omega (arith, past));
      apart = λ peer none. elim (cases_eq peer at) [
        | inl same ↦
            subst (λ p. room_at first.rooms p ≡ None → pair_at b owner p ≡ pair_at first.pairs owner p) (sym same)
            (λ nothing. pair.apart (was.rest_rooms at (omega arith) ∙ nothing) ∙ was.rest at (omega arith)) none
        | inr other ↦ pair.change.peers peer other ∙ was.apart peer none
      ];
      change = owners_more owner first.pairs s.pairs b was.change pair.change.owners;
      rooms = rooms_more first.rooms s.rooms rooms was.rooms (rooms_set s.rooms at room within pair.room);
      peers = length-set s.rooms at room ∙ was.peers;
    }

-- of all that is said of an owner's pairs only when they are due has changed
pub owner_due : (owner time : ℕ) (a : PairsValue) →
    IsOwnersChange owner a (with_due a owner time)
owner_due owner time a = record {
  pairs = λ other peer apart. refl;
  dues = λ other apart. get_or-set_other a.dues owner other time never apart;
  many = record { pairs = λ other. refl; dues = length-set a.dues owner time; longest = refl };
  turn = refl;
}

-- one beyond the last is never due
pub never_due : (now owner : ℕ) (a : PairsValue) → now ≤ most_time → length a.dues ≤ owner → now < due_at a owner
never_due now owner a early past = omega (arith, early, get_or_past a.dues owner never past)

-- all peers
pub owner_gathered : (h : Held) (now owner time count : ℕ) (a : PairsValue) (first s : Standing) →
    first.pairs ≡ with_due a owner time → IsPart h now owner count first s →
    length first.rooms ≤ count → due_at a owner ≤ now → now ≤ most_time →
    IsOwnerGathered h now owner first.rooms s.rooms s.owed a (with_due s.pairs owner s.due)
owner_gathered h now owner time count a first s begun part all due early =
    let within : owner < length a.dues = elim (cases_lt owner (length a.dues)) [
      | inl low ↦ low
      | inr past ↦ absurd (omega (arith, due, never_due now owner a early past))
    ] in
    let middle : PairsValue = with_due a owner time in
    let b : PairsValue = with_due s.pairs owner s.due in
    let same_pair : (peer : ℕ) → pair_at first.pairs owner peer ≡ pair_at a owner peer =
    λ peer. ap (λ (x : PairsValue). pair_at x owner peer) begun in
    let to_first : IsOwnersChange owner a first.pairs =
    subst (IsOwnersChange owner a) (sym begun) (owner_due owner time a) in
    let to_last : IsOwnersChange owner a s.pairs = owners_more owner a first.pairs s.pairs to_first part.change in
    let time_is : due_at b owner ≡ s.due =
    get_or-set_same s.pairs.dues owner s.due never (omega (arith, within, to_last.many.dues)) in
    record {
      look = λ in_time. record {
        pairs = λ peer reached. elim (cases_lt peer count) [
          | inl few ↦
              let there : IsReached h first.pairs owner peer (room_at first.rooms peer) = record {
                owner_known = reached.owner_known;
                peer_known = reached.peer_known;
                pair = omega (arith, reached.pair, to_first.many.pairs owner);
                connected = reached.connected;
              } in
              looked_as h h now first.pairs.longest a.longest owner peer (room_at s.rooms peer) s.owed s.due
              (due_at b owner) (pair_at first.pairs owner peer) (pair_at a owner peer) (pair_at s.pairs owner peer)
              (pair_at b owner peer) refl to_first.many.longest (sym time_is) (same_pair peer) refl
              (part.looks peer few there)
          | inr past ↦
              let none : room_at first.rooms peer ≡ None =
              get_or_past first.rooms peer None (omega (arith, all, past)) in
              absurd (no_connection (room_at first.rooms peer) none reached.connected)
        ];
        time = subst (λ time. IsTime now time s.pairs owner) (sym time_is)
            (part_time_all now owner count s.pairs s.due part.time);
      };
      later = λ past. absurd (omega (arith, past, due));
      apart = λ peer none. part.apart peer none ∙ same_pair peer;
      change = owners_more owner a s.pairs b to_last (owner_due owner s.due s.pairs);
      rooms = part.rooms;
    }

-- The same, where what is behind the lock, the owner and the room are known to be these.
pub part_next : (h g : Held) (now owner name at : ℕ) (first s : Standing) (before room : Option ℕ) (owed : OwedValue)
    (due sooner : ℕ) (b : PairsValue) → g ≡ h → name ≡ owner → before ≡ room_at s.rooms at →
    IsPart h now owner at first s → IsPairGathered g now name at before room owed due s.pairs b →
    IsGathered g s.owed owed → at < length s.rooms → sooner ≡ min s.due due →
    IsPart h now owner (at + 1) first (record { rooms = set s.rooms at room; owed = owed; due = sooner; pairs = b })
part_next h g now owner name at first s before room owed due sooner b same known is was pair more within soon =
    let here : IsPairGathered h now owner at (room_at s.rooms at) room owed due s.pairs b =
    subst (λ x. IsPairGathered x now owner at (room_at s.rooms at) room owed due s.pairs b) same
    (subst (λ o. IsPairGathered g now o at (room_at s.rooms at) room owed due s.pairs b) known
    (subst (λ r. IsPairGathered g now name at r room owed due s.pairs b) is pair)) in
    part_more h now owner at first s room owed due sooner b was here (subst (λ x. IsGathered x s.owed owed) same more)
    within soon

pub owner_gathered_at : (g h : Held) (now owner time count : ℕ) (a b : PairsValue) (first s : Standing) → g ≡ h →
    first.pairs ≡ with_due a owner time → b ≡ with_due s.pairs owner s.due → IsPart g now owner count first s →
    length first.rooms ≤ count → due_at a owner ≤ now → now ≤ most_time →
    IsOwnerGathered h now owner first.rooms s.rooms s.owed a b
owner_gathered_at g h now owner time count a b first s same begun is part all due early =
    subst (λ x. IsOwnerGathered x now owner first.rooms s.rooms s.owed a b) same
    (subst (λ x. IsOwnerGathered g now owner first.rooms s.rooms s.owed a x) (sym is)
    (owner_gathered g now owner time count a first s begun part all due early))
