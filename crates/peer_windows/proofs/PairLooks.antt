-- What stays where one pair changes, and what was gathered while more is gathered.
use Rattle.std.proofs.Common.{◌≡◌, ◌≢◌, ℕ, ◌+◌, ◌<◌, ◌≤◌, inl, inr, List, [], ◌∷◌, length, get_or, set, sym, ap, ◌∙◌}
use Rattle.std.proofs.Common.{arith, subst, refl}
use Rattle.std.specs.Prelude.{Option, Some, None, true}
use Rattle.std.specs.List.{Contains}
use Rattle.std.proofs.lemmas.Bool.{cases_eq, cases_lt}
use Rattle.std.proofs.lemmas.List.{get_or_past, get_or-set_same, get_or-set_other, set-get_or, set_past, length-set}
use Rattle.std.proofs.lemmas.List.Elements.{Contains-append_left, Contains-append_right}
use Rattle.node_lock.specs.Holds.{Held}
use Rattle.peer_windows.specs.Pauses.{never}
use Rattle.peer_windows.specs.Pairs.{new_pair, is_nothing, attended, attended_step, owing}
use Rattle.peer_windows.specs.Owed.{OwedValue, IsGathered, IsPushed}
use Rattle.peer_windows.specs.Owners.{PairsValue, pair_in, pairs_of, pair_at, with_pair, with_pair_at}
use Rattle.peer_windows.specs.Looks.{free_in, enough_room, next_room, seen_at, share_of, after_sending}
use Rattle.peer_windows.specs.Looks.{IsReached, IsLookedAt}
use Rattle.peer_windows.specs.inside.PairLooks.{IsAsMany, IsOwnersChange, IsPairChange, IsRoomAfter}
use Rattle.peer_windows.specs.inside.PairLooks.{IsPairGathered}
use Rattle.peer_windows.specs.declared.owed.Share.{Share}
use Rattle.peer_windows.specs.declared.pair.Pair.{Pair}
use Rattle.peer_windows.specs.declared.seen.Seen.{Seen}
use Rattle.peer_windows.specs.declared.seen.Step.{Step}

-- the pairs of the owner are those with another pair
pairs_of_here : (a : PairsValue) (owner peer : ℕ) (pair : Pair) →
    pairs_of (with_pair_at a owner peer pair) owner ≡ with_pair (pairs_of a owner) peer pair
pairs_of_here a owner peer pair =
    let pairs : List Pair = with_pair (pairs_of a owner) peer pair in
    elim (cases_lt owner (length a.pairs)) [
      | inl within ↦ get_or-set_same a.pairs owner pairs [] within
      | inr past ↦
          let none : pairs_of a owner ≡ [] = get_or_past a.pairs owner [] past in
          ap (λ all. get_or all owner []) (set_past a.pairs owner pairs past) ∙ none
          ∙ sym (ap (λ ps. set ps peer pair) none)
    ]

pub pair_here : (a : PairsValue) (owner peer : ℕ) (pair : Pair) → peer < length (pairs_of a owner) →
    pair_at (with_pair_at a owner peer pair) owner peer ≡ pair
pair_here a owner peer pair within =
    ap (λ ps. pair_in ps peer) (pairs_of_here a owner peer pair)
    ∙ get_or-set_same (pairs_of a owner) peer pair new_pair within

pair_of_other_peer : (a : PairsValue) (owner peer other : ℕ) (pair : Pair) → other ≢ peer →
    pair_at (with_pair_at a owner peer pair) owner other ≡ pair_at a owner other
pair_of_other_peer a owner peer other pair apart =
    ap (λ ps. pair_in ps other) (pairs_of_here a owner peer pair)
    ∙ get_or-set_other (pairs_of a owner) peer other pair new_pair apart

pairs_of_other : (a : PairsValue) (owner peer other : ℕ) (pair : Pair) → other ≢ owner →
    pairs_of (with_pair_at a owner peer pair) other ≡ pairs_of a other
pairs_of_other a owner peer other pair apart =
    get_or-set_other a.pairs owner other (with_pair (pairs_of a owner) peer pair) [] apart

as_many : (a : PairsValue) (owner peer other : ℕ) (pair : Pair) →
    length (pairs_of (with_pair_at a owner peer pair) other) ≡ length (pairs_of a other)
as_many a owner peer other pair =
    let b : PairsValue = with_pair_at a owner peer pair in
    elim (cases_eq other owner) [
      | inl same ↦ subst (λ o. length (pairs_of b o) ≡ length (pairs_of a o)) (sym same)
          (ap length (pairs_of_here a owner peer pair) ∙ length-set (pairs_of a owner) peer pair)
      | inr apart ↦ ap length (pairs_of_other a owner peer other pair apart)
    ]

pub many_more : (a b c : PairsValue) → IsAsMany a b → IsAsMany b c → IsAsMany a c
many_more a b c first next = record {
  pairs = λ owner. next.pairs owner ∙ first.pairs owner;
  dues = next.dues ∙ first.dues;
  longest = next.longest ∙ first.longest;
}

pub many_same : (a : PairsValue) → IsAsMany a a
many_same a = record { pairs = λ owner. refl; dues = refl; longest = refl }

pub owners_same : (owner : ℕ) (a : PairsValue) → IsOwnersChange owner a a
owners_same owner a = record {
  pairs = λ other peer apart. refl;
  dues = λ other apart. refl;
  many = many_same a;
  turn = refl;
}

pub owners_more : (owner : ℕ) (a b c : PairsValue) → IsOwnersChange owner a b → IsOwnersChange owner b c →
    IsOwnersChange owner a c
owners_more owner a b c first next = record {
  pairs = λ other peer apart. next.pairs other peer apart ∙ first.pairs other peer apart;
  dues = λ other apart. next.dues other apart ∙ first.dues other apart;
  many = many_more a b c first.many next.many;
  turn = next.turn ∙ first.turn;
}

pub change_same : (owner peer : ℕ) (a : PairsValue) → IsPairChange owner peer a a
change_same owner peer a = record { owners = owners_same owner a; peers = λ other apart. refl; dues = refl }

change_of_pair : (a : PairsValue) (owner peer : ℕ) (pair : Pair) →
    IsPairChange owner peer a (with_pair_at a owner peer pair)
change_of_pair a owner peer pair = record {
  owners = record {
    pairs = λ other q apart. ap (λ ps. pair_in ps q) (pairs_of_other a owner peer other pair apart);
    dues = λ other apart. refl;
    many = record { pairs = λ other. as_many a owner peer other pair; dues = refl; longest = refl };
    turn = refl;
  };
  peers = λ other apart. pair_of_other_peer a owner peer other pair apart;
  dues = refl;
}

pub change_to : (owner peer : ℕ) (a b : PairsValue) (pair : Pair) → b ≡ with_pair_at a owner peer pair →
    IsPairChange owner peer a b
change_to owner peer a b pair is = subst (IsPairChange owner peer a) (sym is) (change_of_pair a owner peer pair)

pub change_more : (owner peer : ℕ) (a b c : PairsValue) → IsPairChange owner peer a b → IsPairChange owner peer b c →
    IsPairChange owner peer a c
change_more owner peer a b c first next = record {
  owners = owners_more owner a b c first.owners next.owners;
  peers = λ other apart. next.peers other apart ∙ first.peers other apart;
  dues = next.dues ∙ first.dues;
}

pub room_same : (room : Option ℕ) → IsRoomAfter room room
room_same room = record { connected = refl; free = omega arith }

pub room_more : (a b c : Option ℕ) → IsRoomAfter a b → IsRoomAfter b c → IsRoomAfter a c
room_more a b c first next = record {
  connected = next.connected ∙ first.connected;
  free = omega (arith, first.free, next.free);
}

abbrev share_counting : ℕ → ℕ → Step → ℕ → Share
share_counting owner peer step count = record { owner = owner; peer = peer; step = step; count = count }

-- what is among the shares stays there
share_stays : (h : Held) (a b : OwedValue) (owner peer : ℕ) (step : Step) → IsGathered h a b →
    Contains a.shares (share_of h owner peer step) → Contains b.shares (share_of h owner peer step)
share_stays h a b owner peer step more has =
    subst (λ shares. Contains shares (share_of h owner peer step)) (sym more.shares)
    (Contains-append_left a.shares more.added (share_of h owner peer step) has)

-- what was put behind the shares is among them
pushed_share : (h : Held) (owner peer : ℕ) (step : Step) (count : ℕ) (a b : OwedValue) →
    IsPushed h owner peer step count a b → Contains b.shares (share_of h owner peer step)
pushed_share h owner peer step count a b pushed =
    let share : Share = record { owner = owner; peer = peer; step = step; count = count } in
    let is : share ≡ share_of h owner peer step =
    ap (λ n. share_counting owner peer step n) pushed.counted in
    subst (λ shares. Contains shares (share_of h owner peer step)) (sym pushed.shares)
    (Contains-append_right a.shares (share ∷ []) (share_of h owner peer step)
    (subst (Contains (share ∷ [])) is (0, omega arith, refl)))

-- a pair that was looked at was looked at while more is gathered, and there is less room
pub looked_more : (h : Held) (now longest owner peer : ℕ) (room less : Option ℕ) (a b : OwedValue) (due sooner : ℕ)
    (old new : Pair) → IsRoomAfter room less → IsGathered h a b → sooner ≤ due →
    IsLookedAt h now longest owner peer room a due old new → IsLookedAt h now longest owner peer less b sooner old new
looked_more h now longest owner peer room less a b due sooner old new after more soon looked =
    elim looked [
      | inl quiet ↦ inl (record {
        nothing = quiet.nothing;
        pair = quiet.pair;
        in_time = omega (arith, quiet.in_time, soon);
      })
      | inr rest ↦ elim rest [
        | inl sent ↦ inr (inl (record {
          share = share_stays h a b owner peer (attended_step now (seen_at h owner peer) old) more sent.share;
          pair = sent.pair;
          in_time = omega (arith, sent.in_time, soon);
        }))
        | inr off ↦ inr (inr (record {
          short = omega (arith, off.short, after.free);
          pair = off.pair;
          in_time = omega (arith, off.in_time, soon);
        }))
      ]
    ]

-- the same, where what it is said of is known to be equal
pub looked_as : (g h : Held) (now lasting longest owner peer : ℕ) (room : Option ℕ) (owed : OwedValue) (was due : ℕ)
    (seen old found new : Pair) → g ≡ h → lasting ≡ longest → was ≡ due → seen ≡ old → found ≡ new →
    IsLookedAt g now lasting owner peer room owed was seen found →
    IsLookedAt h now longest owner peer room owed due old new
looked_as g h now lasting longest owner peer room owed was due seen old found new held pause time first last looked =
    subst (λ x. IsLookedAt x now longest owner peer room owed due old new) held
    (subst (λ x. IsLookedAt g now x owner peer room owed due old new) pause
    (subst (λ x. IsLookedAt g now lasting owner peer room owed x old new) time
    (subst (λ x. IsLookedAt g now lasting owner peer room owed was x new) first
    (subst (λ x. IsLookedAt g now lasting owner peer room owed was seen x) last looked))))

-- a look at a pair has brought nothing
pub pair_quiet : (h : Held) (now owner peer : ℕ) (room : Option ℕ) (owed : OwedValue) (due : ℕ) (step : Step)
    (a b : PairsValue) → let old = pair_at a owner peer in
    let looked = attended now a.longest (seen_at h owner peer) old in
    (peer < length (pairs_of a owner) → step ≡ attended_step now (seen_at h owner peer) old) →
    b ≡ with_pair_at a owner peer looked → room ≢ None → is_nothing step ≡ true →
    due ≡ (pair_at b owner peer).look.until → IsPairGathered h now owner peer room room owed due a b
pair_quiet h now owner peer room owed due step a b step_is is some nothing due_is =
    let old : Pair = pair_at a owner peer in
    let looked : Pair = attended now a.longest (seen_at h owner peer) old in
    record {
      look = λ reached. inl (record {
        nothing = ap is_nothing (sym (step_is reached.pair)) ∙ nothing;
        pair = ap (λ (x : PairsValue). pair_at x owner peer) is ∙ pair_here a owner peer looked reached.pair;
        in_time = omega (arith, due_is);
      });
      time = inr (inr due_is);
      apart = λ none. absurd (some none);
      change = change_to owner peer a b looked is;
      room = room_same room;
    }

-- The peer has not enough room, so what a look has brought is owed to it.
pub pair_put_off : (h : Held) (now owner peer : ℕ) (room : Option ℕ) (owed : OwedValue) (due : ℕ) (step : Step)
    (a b c : PairsValue) → let old = pair_at a owner peer in
    let looked = attended now a.longest (seen_at h owner peer) old in
    (peer < length (pairs_of a owner) → step ≡ attended_step now (seen_at h owner peer) old) →
    b ≡ with_pair_at a owner peer looked → c ≡ with_pair_at b owner peer (owing step (pair_at b owner peer)) →
    room ≢ None → free_in room < enough_room → due ≡ now + next_room →
    IsPairGathered h now owner peer room room owed due a c
pair_put_off h now owner peer room owed due step a b c step_is first next some short soon =
    let old : Pair = pair_at a owner peer in
    let looked : Pair = attended now a.longest (seen_at h owner peer) old in
    let put : Pair = owing step (pair_at b owner peer) in
    let change : IsPairChange owner peer a b = change_to owner peer a b looked first in
    record {
      look = λ reached.
          let here : pair_at b owner peer ≡ looked =
          ap (λ (x : PairsValue). pair_at x owner peer) first ∙ pair_here a owner peer looked reached.pair in
          inr (inr (record {
            short = short;
            pair = ap (λ (x : PairsValue). pair_at x owner peer) next
                ∙ pair_here b owner peer put (omega (arith, reached.pair, change.owners.many.pairs owner))
                ∙ ap (owing step) here
                ∙ ap (λ s. owing s looked) (step_is reached.pair);
            in_time = omega (arith, soon);
          }));
      time = inr (inl soon);
      apart = λ none. absurd (some none);
      change = change_more owner peer a b c change (change_to owner peer b c put next);
      room = room_same room;
    }

-- What a look has brought was gathered.
pub pair_sent : (h : Held) (now owner peer count : ℕ) (room less : Option ℕ) (before owed : OwedValue) (due : ℕ)
    (step : Step) (a b c : PairsValue) → let old = pair_at a owner peer in
    let looked = attended now a.longest (seen_at h owner peer) old in
    (peer < length (pairs_of a owner) → step ≡ attended_step now (seen_at h owner peer) old) →
    b ≡ with_pair_at a owner peer looked →
    c ≡ with_pair_at b owner peer (after_sending h now owner peer step (pair_at b owner peer)) →
    room ≢ None → IsRoomAfter room less → IsPushed h owner peer step count before owed →
    due ≡ (pair_at c owner peer).look.until → IsPairGathered h now owner peer room less owed due a c
pair_sent h now owner peer count room less before owed due step a b c step_is first next some smaller pushed due_is =
    let old : Pair = pair_at a owner peer in
    let looked : Pair = attended now a.longest (seen_at h owner peer) old in
    let sent : Pair = after_sending h now owner peer step (pair_at b owner peer) in
    let change : IsPairChange owner peer a b = change_to owner peer a b looked first in
    record {
      look = λ reached.
          let here : pair_at b owner peer ≡ looked =
          ap (λ (x : PairsValue). pair_at x owner peer) first ∙ pair_here a owner peer looked reached.pair in
          let known : step ≡ attended_step now (seen_at h owner peer) old = step_is reached.pair in
          inr (inl (record {
            share = subst (λ s. Contains owed.shares (share_of h owner peer s)) known
                (pushed_share h owner peer step count before owed pushed);
            pair = ap (λ (x : PairsValue). pair_at x owner peer) next
                ∙ pair_here b owner peer sent (omega (arith, reached.pair, change.owners.many.pairs owner))
                ∙ ap (after_sending h now owner peer step) here
                ∙ ap (λ s. after_sending h now owner peer s looked) known;
            in_time = omega (arith, due_is);
          }));
      time = inr (inr due_is);
      apart = λ none. absurd (some none);
      change = change_more owner peer a b c change (change_to owner peer b c sent next);
      room = smaller;
    }

-- with the pair that there is all stays
pub same_pair : (a : PairsValue) (owner peer : ℕ) → with_pair_at a owner peer (pair_at a owner peer) ≡ a
same_pair a owner peer =
    ap (λ ps. record a { pairs = set a.pairs owner ps }) (set-get_or (pairs_of a owner) peer new_pair)
    ∙ ap (λ ps. record a { pairs = ps }) (set-get_or a.pairs owner [])

pub some_room : (free : ℕ) → Some free ≢ None
some_room free same = cc

-- the pair after a look at what is seen
pub attended_at : (now owner peer : ℕ) (a b : PairsValue) (seen is : Seen) → seen ≡ is →
    b ≡ with_pair_at a owner peer (attended now a.longest seen (pair_at a owner peer)) →
    b ≡ with_pair_at a owner peer (attended now a.longest is (pair_at a owner peer))
attended_at now owner peer a b seen is same looked =
    subst (λ s. b ≡ with_pair_at a owner peer (attended now a.longest s (pair_at a owner peer))) same looked

-- the pair after what a look brings was sent
pub sent_at : (g h : Held) (now owner peer : ℕ) (step : Step) (b c : PairsValue) → g ≡ h →
    c ≡ with_pair_at b owner peer (after_sending g now owner peer step (pair_at b owner peer)) →
    c ≡ with_pair_at b owner peer (after_sending h now owner peer step (pair_at b owner peer))
sent_at g h now owner peer step b c same sent =
    subst (λ x. c ≡ with_pair_at b owner peer (after_sending x now owner peer step (pair_at b owner peer))) same sent
