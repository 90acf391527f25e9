-- Gathering for the pairs of all owners, owner by owner in turn.
use Rattle.std.proofs.Common.{◌≡◌, ◌≢◌, ℕ, ◌+◌, ◌<◌, ◌≤◌, ◌⊎◌, inl, inr, List, length, sym, ap, ◌∙◌, arith, subst, refl}
use Rattle.std.specs.Prelude.{Option, Some, None, is_some, true, false, nat_lt, if◌then◌else◌}
use Rattle.std.proofs.lemmas.Bool.{cases_eq, cases_lt}
use Rattle.std.proofs.lemmas.Bool.Decides.{nat_tests}
use Rattle.std.proofs.lemmas.List.{get_or_past}
use Rattle.node_lock.specs.Holds.{Held}
use Rattle.peer_windows.specs.Pauses.{never, most_time}
use Rattle.peer_windows.specs.Owed.{OwedValue, IsGathered, is_full}
use Rattle.peer_windows.specs.Owners.{PairsValue, pair_at}
use Rattle.peer_windows.specs.Looks.{room_at, due_at, IsReached, IsTime, IsOwnerLookedAt, IsOwnerStill, AreLookedAt}
use Rattle.peer_windows.specs.inside.PairLooks.{turned, IsAsMany, AreRoomsAfter, IsOwnerGathered}
use Rattle.peer_windows.specs.declared.pair.Pair.{Pair}
use Rattle.peer_windows.proofs.PairLooks.{many_more, many_same, looked_more, looked_as}
use Rattle.peer_windows.proofs.OwnerLooks.{rooms_same, rooms_more}
use Rattle.peer_windows.proofs.Turns.{IsInTurn, place_in_turn, one_place, one_owner, next_in_turn, next_round}

-- How far gathering has come: what room there is, what was gathered, and the pairs.
pub record Standing : Type 0 where
  pub rooms : List (Option ℕ)
  pub owed : OwedValue
  pub pairs : PairsValue

-- an owner has its turn after so many others
abbrev pub IsTurn : PairsValue → ℕ → ℕ → Type 0
IsTurn first place owner = IsInTurn (length first.dues) first.turn place owner

-- The pairs of the first owners in turn were looked at where they are due, and those of the others stay.
pub record IsRound (h : Held) (now count : ℕ) (first s : Standing) : Type 0 where
  pub turn : count < length first.pairs.dues → IsTurn first.pairs count s.pairs.turn
  pub looks : (place owner : ℕ) → place < count → IsTurn first.pairs place owner → owner < length first.pairs.dues →
      due_at first.pairs owner ≤ now → IsOwnerLookedAt h now first.rooms s.rooms s.owed first.pairs s.pairs owner
  pub rest : (place owner : ℕ) → count ≤ place → place < length first.pairs.dues → IsTurn first.pairs place owner →
      owner < length first.pairs.dues → IsOwnerStill first.pairs s.pairs owner
  pub later : (owner : ℕ) → now < due_at first.pairs owner → IsOwnerStill first.pairs s.pairs owner
  pub apart : (owner peer : ℕ) → room_at first.rooms peer ≡ None →
      pair_at s.pairs owner peer ≡ pair_at first.pairs owner peer
  pub many : IsAsMany first.pairs s.pairs
  pub rooms : AreRoomsAfter first.rooms s.rooms

below_but_one : (place count : ℕ) → place < count + 1 → place ≢ count → place < count
below_but_one place count low apart = elim (cases_lt place count) [
  | inl below ↦ below
  | inr most ↦ absurd (apart (omega (arith, low, most)))
]

time_still : (now owner : ℕ) (a b : PairsValue) → IsOwnerStill a b owner → IsTime now (due_at a owner) a owner →
    IsTime now (due_at b owner) b owner
time_still now owner a b still was =
    elim was [
      | inl none ↦ inl (still.time ∙ none)
      | inr some ↦ elim some [
        | inl soon ↦ inr (inl (still.time ∙ soon))
        | inr pair ↦ inr (inr (
          pair.0,
          still.time ∙ pair.1 ∙ sym (ap (λ (x : Pair). x.look.until) (still.pairs pair.0)),
        ))
      ]
    ]

still_same : (a : PairsValue) (owner : ℕ) → IsOwnerStill a a owner
still_same a owner = record { pairs = λ peer. refl; time = refl }

still_more : (a b c : PairsValue) (owner : ℕ) → IsOwnerStill a b owner → IsOwnerStill b c owner → IsOwnerStill a c owner
still_more a b c owner first next = record {
  pairs = λ peer. next.pairs peer ∙ first.pairs peer;
  time = next.time ∙ first.time;
}

-- an owner was looked at while more is gathered, there is less room, and its pairs stay
looked_still : (h : Held) (now owner : ℕ) (before rooms less : List (Option ℕ)) (owed more : OwedValue)
    (a b c : PairsValue) → AreRoomsAfter rooms less → IsGathered h owed more → IsOwnerStill b c owner →
    IsOwnerLookedAt h now before rooms owed a b owner → IsOwnerLookedAt h now before less more a c owner
looked_still h now owner before rooms less owed more a b c smaller gathered still was = record {
  pairs = λ peer reached.
      looked_as h h now a.longest a.longest owner peer (room_at less peer) more (due_at b owner) (due_at c owner)
      (pair_at a owner peer) (pair_at a owner peer) (pair_at b owner peer) (pair_at c owner peer) refl refl
      (sym still.time) refl (sym (still.pairs peer))
      (looked_more h now a.longest owner peer (room_at rooms peer) (room_at less peer) owed more (due_at b owner)
      (due_at b owner) (pair_at a owner peer) (pair_at b owner peer) (smaller.each peer) gathered (omega arith)
      (was.pairs peer reached));
  time = time_still now owner b c still was.time;
}

-- an owner was looked at, whose pairs had stayed
looked_since : (h : Held) (now owner : ℕ) (before rooms less : List (Option ℕ)) (owed : OwedValue)
    (a b c : PairsValue) → AreRoomsAfter before rooms → IsAsMany a b → IsOwnerStill a b owner →
    IsOwnerLookedAt h now rooms less owed b c owner → IsOwnerLookedAt h now before less owed a c owner
looked_since h now owner before rooms less owed a b c smaller many still was = record {
  pairs = λ peer reached.
      let there : IsReached h b owner peer (room_at rooms peer) = record {
        owner_known = reached.owner_known;
        peer_known = reached.peer_known;
        pair = omega (arith, reached.pair, many.pairs owner);
        connected = (smaller.each peer).connected ∙ reached.connected;
      } in
      looked_as h h now b.longest a.longest owner peer (room_at less peer) owed (due_at c owner) (due_at c owner)
      (pair_at b owner peer) (pair_at a owner peer) (pair_at c owner peer) (pair_at c owner peer) refl many.longest
      refl (still.pairs peer) refl (was.pairs peer there);
  time = was.time;
}

none_of : (room : Option ℕ) → is_some room ≡ false → room ≡ None
none_of None same = refl
none_of (Some free) same = cc

-- a room that is none stays none
no_room_after : (before after : List (Option ℕ)) (peer : ℕ) → AreRoomsAfter before after →
    room_at before peer ≡ None → room_at after peer ≡ None
no_room_after before after peer rooms none =
    none_of (room_at after peer) ((rooms.each peer).connected ∙ ap is_some none)

-- one owner more, whose turn it is
pub round_more : (h : Held) (now count next : ℕ) (first s : Standing) (rooms : List (Option ℕ)) (owed : OwedValue)
    (b : PairsValue) → IsRound h now count first s →
    IsOwnerGathered h now s.pairs.turn s.rooms rooms owed (record s.pairs { turn = next }) b →
    IsGathered h s.owed owed → count < length first.pairs.dues → first.pairs.turn < length first.pairs.dues →
    s.pairs.turn < length first.pairs.dues →
    (s.pairs.turn + 1 < length first.pairs.dues → next ≡ s.pairs.turn + 1) →
    (length first.pairs.dues ≤ s.pairs.turn + 1 → next ≡ 0) →
    IsRound h now (count + 1) first (record { rooms = rooms; owed = owed; pairs = b })
round_more h now count next first s rooms owed b was got more few some within behind round =
    let n : ℕ = length first.pairs.dues in
    let at : ℕ = s.pairs.turn in
    let longest : ℕ = first.pairs.longest in
    let turn : IsTurn first.pairs count at = was.turn few in
    let other : (place owner : ℕ) → place < n → place ≢ count → IsTurn first.pairs place owner → owner ≢ at =
    λ place owner low apart its same.
    apart (one_place n first.pairs.turn place count at low few (subst (IsTurn first.pairs place) same its) turn) in
    let turn_after : count + 1 < n → IsTurn first.pairs (count + 1) b.turn =
    λ below. subst (IsTurn first.pairs (count + 1)) (sym got.change.turn) (elim (cases_lt (at + 1) n) [
      | inl left ↦ subst (IsTurn first.pairs (count + 1)) (sym (behind left))
          (next_in_turn n first.pairs.turn count at within below turn left)
      | inr last ↦ subst (IsTurn first.pairs (count + 1)) (sym (round last))
          (next_round n first.pairs.turn count at some within below turn last)
    ]) in
    let still : (owner : ℕ) → owner ≢ at → IsOwnerStill s.pairs b owner =
    λ owner apart. record {
      pairs = λ peer. got.change.pairs owner peer apart;
      time = got.change.dues owner apart;
    } in
    let here : due_at first.pairs at ≤ now → IsOwnerLookedAt h now first.rooms rooms owed first.pairs b at =
    λ due.
    let stayed : IsOwnerStill first.pairs s.pairs at = was.rest count at (omega arith) few turn within in
    looked_since h now at first.rooms s.rooms rooms owed first.pairs (record s.pairs { turn = next }) b was.rooms
    (record { pairs = was.many.pairs; dues = was.many.dues; longest = was.many.longest })
    (record { pairs = stayed.pairs; time = stayed.time })
    (got.look (omega (arith, due, stayed.time))) in
    record {
      turn = turn_after;
      looks = λ place owner low its inside due. elim (cases_eq place count) [
        | inl same ↦
            let owner_is : owner ≡ at =
            one_owner n first.pairs.turn count owner at inside within (subst (λ k. IsTurn first.pairs k owner) same its)
            turn in
            subst (λ o. due_at first.pairs o ≤ now → IsOwnerLookedAt h now first.rooms rooms owed first.pairs b o)
            (sym owner_is) here due
        | inr apart ↦
            let below : place < count = below_but_one place count low apart in
            looked_still h now owner first.rooms s.rooms rooms s.owed owed first.pairs s.pairs b got.rooms more
            (still owner (other place owner (omega (arith, below, few)) apart its))
            (was.looks place owner below its inside due)
      ];
      rest = λ place owner past low its inside.
          still_more first.pairs s.pairs b owner (was.rest place owner (omega (arith, past)) low its inside)
          (still owner (other place owner low (λ same. omega (arith, past, same)) its));
      later = λ owner late. elim (cases_eq owner at) [
        | inl same ↦
            subst (λ o. now < due_at first.pairs o → IsOwnerStill first.pairs b o) (sym same) (λ yet.
            let stayed : IsOwnerStill first.pairs s.pairs at = was.later at yet in
            let stays : IsOwnerStill (record s.pairs { turn = next }) b at =
            got.later (omega (arith, yet, stayed.time)) in
            still_more first.pairs s.pairs b at stayed (record { pairs = stays.pairs; time = stays.time })) late
        | inr apart ↦ still_more first.pairs s.pairs b owner (was.later owner late) (still owner apart)
      ];
      apart = λ owner peer none. elim (cases_eq owner at) [
        | inl same ↦ subst (λ o. pair_at b o peer ≡ pair_at first.pairs o peer) (sym same)
            (got.apart peer (no_room_after first.rooms s.rooms peer was.rooms none) ∙ was.apart at peer none)
        | inr apart ↦ got.change.pairs owner peer apart ∙ was.apart owner peer none
      ];
      many = many_more first.pairs s.pairs b was.many (record {
        pairs = got.change.many.pairs;
        dues = got.change.many.dues;
        longest = got.change.many.longest;
      });
      rooms = rooms_more first.rooms s.rooms rooms was.rooms got.rooms;
    }

next_below : (turn count : ℕ) → turn + 1 < count → (if nat_lt (turn + 1) count then turn + 1 else 0) ≡ turn + 1
next_below turn count below = grind (arith, nat_tests)

next_past : (turn count : ℕ) → count ≤ turn + 1 → (if nat_lt (turn + 1) count then turn + 1 else 0) ≡ 0
next_past turn count past = grind (arith, nat_tests)

-- The same, where what is behind the lock, the owner and the pairs are known to be these.
pub round_next : (h g : Held) (now count owner : ℕ) (first s : Standing) (rooms : List (Option ℕ)) (owed : OwedValue)
    (a b : PairsValue) → g ≡ h → owner ≡ s.pairs.turn → a ≡ turned s.pairs → IsRound h now count first s →
    IsOwnerGathered g now owner s.rooms rooms owed a b → IsGathered g s.owed owed →
    count < length first.pairs.dues → first.pairs.turn < length first.pairs.dues → s.pairs.turn < length s.pairs.dues →
    IsRound h now (count + 1) first (record { rooms = rooms; owed = owed; pairs = b })
round_next h g now count owner first s rooms owed a b same is next was got more few some within =
    let at : ℕ = s.pairs.turn in
    let here : IsOwnerGathered h now at s.rooms rooms owed (turned s.pairs) b =
    subst (λ x. IsOwnerGathered x now at s.rooms rooms owed (turned s.pairs) b) same
    (subst (λ o. IsOwnerGathered g now o s.rooms rooms owed (turned s.pairs) b) is
    (subst (λ x. IsOwnerGathered g now owner s.rooms rooms owed x b) next got)) in
    round_more h now count (turned s.pairs).turn first s rooms owed b was here
    (subst (λ x. IsGathered x s.owed owed) same more) few some (omega (arith, within, was.many.dues))
    (λ below. next_below at (length s.pairs.dues) (omega (arith, below, was.many.dues)))
    (λ past. next_past at (length s.pairs.dues) (omega (arith, past, was.many.dues)))

-- All owners that are due, or more is not gathered at once; and what came behind that: more is gathered, there is less
-- room, and the pairs stay.
pub all_looked : (h : Held) (now count : ℕ) (first s : Standing) (rooms : List (Option ℕ)) (owed : OwedValue)
    (b : PairsValue) → IsRound h now count first s → (length first.pairs.dues ≤ count) ⊎ (is_full owed ≡ true) →
    first.pairs.turn < length first.pairs.dues → now ≤ most_time → AreRoomsAfter s.rooms rooms →
    IsGathered h s.owed owed → ((owner : ℕ) → IsOwnerStill s.pairs b owner) →
    AreLookedAt h now first.rooms rooms owed first.pairs b
all_looked h now count first s rooms owed b was all some early less more still =
    let n : ℕ = length first.pairs.dues in
    record {
      due = λ owner due.
          let within : owner < n = elim (cases_lt owner n) [
            | inl low ↦ low
            | inr past ↦ absurd (omega (arith, due, early, get_or_past first.pairs.dues owner never past))
          ] in
          let place = place_in_turn n first.pairs.turn owner some within in
          elim (cases_lt place.0 count) [
            | inl below ↦ inl (looked_still h now owner first.rooms s.rooms rooms s.owed owed first.pairs s.pairs b less
                more (still owner) (was.looks place.0 owner below place.2 within due))
            | inr past ↦ elim all [
              | inl complete ↦ absurd (omega (arith, past, complete, place.1))
              | inr full ↦ inr (
                full,
                still_more first.pairs s.pairs b owner
                    (was.rest place.0 owner past place.1 place.2 within) (still owner),
              )
            ]
          ];
      later = λ owner late. still_more first.pairs s.pairs b owner (was.later owner late) (still owner);
      apart = λ owner peer none. (still owner).pairs peer ∙ was.apart owner peer none;
    }

-- The same, where what is behind the lock is known to be that, and behind the owners only probes have changed.
pub all_looked_at : (h g : Held) (now count : ℕ) (first s : Standing) (rooms : List (Option ℕ)) (owed : OwedValue)
    (probes : List ℕ) (b : PairsValue) → g ≡ h → b ≡ record s.pairs { probes = probes } → IsRound h now count first s →
    (length first.pairs.dues ≤ count) ⊎ (is_full owed ≡ true) → first.pairs.turn < length first.pairs.dues →
    now ≤ most_time → AreRoomsAfter s.rooms rooms → IsGathered g s.owed owed →
    AreLookedAt h now first.rooms rooms owed first.pairs b
all_looked_at h g now count first s rooms owed probes b same is was all some early less more =
    subst (AreLookedAt h now first.rooms rooms owed first.pairs) (sym is)
    (all_looked h now count first s rooms owed (record s.pairs { probes = probes }) was all some early less
    (subst (λ x. IsGathered x s.owed owed) same more)
    (λ owner. record { pairs = λ peer. refl; time = refl }))
