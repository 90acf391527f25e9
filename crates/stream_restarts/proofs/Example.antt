-- The example is a life: byz_world's run of four nodes in the first part, until one has all of that, and an adoption.
use Rattle.std.proofs.Common.{◌≡◌, ℕ, zero, suc, ◌==◌, ◌<◌, ◌≤◌, Bool, true, false, not, ◌&&◌, ◌||◌, List, [], ◌∷◌}
use Rattle.std.proofs.Common.{◌++◌, length, take, drop, Option, Some, None, refl, sym, ap, ◌∙◌, subst, arith, fold}
use Rattle.std.proofs.Common.{take-append-drop, length-append, take_all, eqb-true, append-nil}
use Rattle.std.specs.Prelude.{IsTrue, nat_lt, slice_get, if◌then◌else◌, option_map, find}
use Rattle.std.specs.FinSet as sets
use Rattle.std.specs.List.{list_all}
use Rattle.std.proofs.lemmas.Bool.{and_parts, and_from, lt-ltb, ltb-true, leb-true}
use Rattle.std.proofs.lemmas.Option.{same_Some}
use Rattle.quorum_sizes.proofs.Exported.{len_below}
use Rattle.role_commands.specs.declared.command.Command.{Command}
use Rattle.link_frames.specs.declared.frames.kind.Kind.TheVariants.{Send, Ready}
use Rattle.link_frames.specs.frames.Kinds.{same_kind}
use Rattle.bracha_instance.specs.Broadcast.{Take as Told, is_for, is_vote_of, vote, supporters, command_of, delivered}
use Rattle.bracha_instance.specs.Broadcast.{may_deliver}
use Rattle.bracha_instance.proofs.Exported.{delivery_was_first, contains-supporters}
use Rattle.owner_streams.specs.Places.{takes_at}
use Rattle.role_node.specs.Histories.{packets}
use Rattle.role_node.specs.declared.event.Event.{Event}
use Rattle.role_node.specs.declared.event.Event.TheVariants.{Issue, Take}
use Rattle.byz_world.proofs.Exported.{fronts_are_runs, history_of-append}
use Rattle.byz_world.specs.Example.{four, four_nodes, three_lies, user_seven, told, example_run}
use Rattle.byz_world.specs.Laws.{delivered_by}
use Rattle.byz_world.specs.Runs.{history_of, IsClusterRun}
use Rattle.part_lives.specs.Lives.{is_due, most_acts}
use Rattle.part_lives.specs.Parts.{Act, In, Adopts, part_of, spot_at, told_at, total, adopted}
use Rattle.part_lives.proofs.Acts.{adopted-push, events-same}
use Rattle.part_lives.proofs.Totals.{total_is, told_is, told_in, told_none}
use Rattle.stream_parts.specs.Example.{one_place, first_part, in_first}
use Rattle.stream_parts.specs.LongRuns.{LongRun, acts_of, IsLongRun}
use Rattle.stream_parts.proofs.Example.{done, acts_in, events_done, none_second, none_adopted, got_in, long_first}
use Rattle.stream_parts.proofs.Example.{short_if, seven_first}
use Rattle.stream_parts.proofs.Growing.{acts_push}
use Rattle.stream_restarts.specs.Example.{before_two, told_first, adopts, example_life, AnExample}
use Rattle.stream_restarts.specs.LongLives.{Deed, Does, Crashes, Moment, at_first, after, restored_to, MayDo, May}
use Rattle.stream_restarts.specs.LongLives.{HasSynced}
use Rattle.stream_restarts.proofs.AtOnce.{IsSynced, none_synced, NobodyAdopts, all_at_once}
use Rattle.stream_restarts.proofs.Firm.{MayEach}

-- With READYs of two nodes alone nothing is delivered.

abbrev is_below : Told → Bool
is_below t = not (same_kind Ready t.kind) || nat_lt t.from 2

below_by : (a b : Bool) → (not a || b) ≡ true → a ≡ true → b ≡ true
below_by true b is there = is
below_by false b is there = absurd cc

vote_below : (takes : List Told) (name : ℕ) (c : Command) → list_all is_below takes ≡ true →
    vote Ready name takes ≡ Some c → name < 2
unfolding vote
vote_below [] name c all voted = absurd cc
vote_below (t ∷ takes) name c all voted =
    by (λ v. vote_below takes name c (and_parts (is_below t) (list_all is_below takes) all).1 v)
    (is_vote_of Ready name t) refl voted
  where
    by : (option_map command_of (find (is_vote_of Ready name) takes) ≡ Some c → name < 2) → (b : Bool) →
        is_vote_of Ready name t ≡ b →
        option_map command_of (if b then Some t else find (is_vote_of Ready name) takes) ≡ Some c → name < 2
    by rest true is v =
        let both = and_parts (same_kind Ready t.kind) (name == t.from) is in
        let below = ltb-true t.from 2 (below_by (same_kind Ready t.kind) (nat_lt t.from 2)
        (and_parts (is_below t) (list_all is_below takes) all).0 both.0) in
        omega (arith, below, eqb-true name t.from both.1)
    by rest false is v = rest v

all_taken : (takes : List Told) (m : ℕ) → list_all is_below takes ≡ true → list_all is_below (take m takes) ≡ true
all_taken takes zero all = refl
all_taken [] (suc m) all = refl
all_taken (t ∷ takes) (suc m) all =
    let both = and_parts (is_below t) (list_all is_below takes) all in
    and_from (is_below t) (list_all is_below (take m takes)) both.0 (all_taken takes m both.1)

not_delivered : (takes : List Told) → list_all is_below takes ≡ true → delivered four takes ≡ None
unfolding may_deliver
not_delivered takes all = by (delivered four takes) refl
  where
    some_vote : (past : List Told) (name : ℕ) (c : Command) (o : Option Command) → vote Ready name past ≡ o →
        is_for c o ≡ true → list_all is_below past ≡ true → name < 2
    some_vote past name c None is voted below = absurd cc
    some_vote past name c (Some d) is voted below = vote_below past name d below is

    by : (o : Option Command) → delivered four takes ≡ o → o ≡ None
    by None is = refl
    by (Some c) is =
        let first = delivery_was_first four takes c is in
        let past : List Told = take first.0 takes in
        let few : sets.len (supporters Ready c past) ≤ 2 =
        len_below 2 (supporters Ready c past) (λ name there.
        some_vote past name c (vote Ready name past) refl (sym (contains-supporters Ready c past name) ∙ there)
        (all_taken takes first.0 all)) in
        absurd (omega (arith, few, leb-true 3 (sets.len (supporters Ready c past)) first.2))

-- Deeds one after another.

each_may : (m : Moment) (ds : List Deed) → MayEach one_place three_lies m ds → (k : ℕ) (d : Deed) →
    slice_get ds k ≡ Some d → May one_place three_lies (fold after m (take k ds)) d
each_may m [] may k d there = absurd cc
each_may m (x ∷ ds) may zero d there = subst (May one_place three_lies m) (same_Some x d there) may.0
each_may m (x ∷ ds) may (suc k) d there = each_may (after m x) ds may.1 k d there

each_append : (m : Moment) (ds more : List Deed) → MayEach one_place three_lies m ds →
    MayEach one_place three_lies (fold after m ds) more → MayEach one_place three_lies m (ds ++ more)
each_append m [] more may rest = rest
each_append m (d ∷ ds) more may rest = (may.0, each_append (after m d) ds more may.1 rest)

two_readys : list_all is_below (takes_at 0 0 (packets (history_of 2 before_two))) ≡ true
unfolding history_of packets takes_at
two_readys = refl

six_acts : length (acts_of 2 (in_first before_two)) ≡ 6
unfolding acts_of
six_acts = refl

module _ (is_run : IsClusterRun four_nodes three_lies example_run)
    (at_zero : delivered_by four_nodes example_run 0 0 0 ≡ Some user_seven) where
  front : LongRun
  front = in_first before_two

  h : ℕ → List Event
  h n = history_of n before_two

  short : (n : ℕ) → length (history_of n before_two) ≤ 11
  short n =
      let whole : history_of n example_run ≡ history_of n before_two ++ history_of n (drop 21 example_run) =
      ap (history_of n) (sym (take-append-drop 21 example_run))
      ∙ history_of-append n before_two (drop 21 example_run) in
      omega (
        arith,
        short_if is_run at_zero n,
        ap length whole,
        length-append (history_of n before_two) (history_of n (drop 21 example_run)),
      )

  long_front : IsLongRun one_place three_lies (in_first before_two)
  long_front =
      long_first (drop 1 before_two) (fronts_are_runs four_nodes three_lies example_run 21 is_run) refl short

  nobody : NobodyAdopts one_place three_lies (in_first before_two)
  nobody t node owner number old there =
      no_adoption (got_in (λ pair. (pair.0, In first_part pair.1)) before_two t (node, Adopts owner number old) there)
    where
      no_adoption : (x : ℕ × Event) × (slice_get before_two t ≡ Some x)
          × (◌≡◌ {A = ℕ × Act} (x.0, In first_part x.1) (node, Adopts owner number old)) → ⊥
      no_adoption at = not_in (ap (λ y. y.1) at.2)
        where
          not_in : {e : Event} → In first_part e ≡ Adopts owner number old → ⊥
          not_in is = cc

  all_done : MayEach one_place three_lies at_first told_first
      × IsSynced (fold after at_first told_first) (in_first before_two)
  all_done = all_at_once one_place three_lies at_first [] (in_first before_two) none_synced long_front nobody

  abbrev m : Moment
  m = fold after at_first told_first

  -- Node 0 has its first part whole, and node 2 nothing of it.

  zero_has : total one_place (acts_of 0 (in_first before_two)) 0 ≡ user_seven ∷ []
  unfolding history_of
  zero_has = ap (λ l. total one_place l 0) (acts_in 0 before_two) ∙ seven_first is_run at_zero

  two_has : total one_place (acts_of 2 (in_first before_two)) 0 ≡ []
  two_has =
      ap (λ l. total one_place l 0) (acts_in 2 before_two)
      ∙ total_is one_place 0 (done (history_of 2 before_two)) [] (omega arith) (record {
        starts = ([], ap (λ l. l ++ []) (none_adopted 0 (history_of 2 before_two)));
        told = λ p from to.
            let is : 0 ≡ p = omega (arith, to) in
            subst (λ q. ◌≡◌ {A = Option Command} (told_at one_place (done (history_of 2 before_two)) 0 q)
            (slice_get [] q)) is
            (told_is one_place 0 (done (history_of 2 before_two)) 0 0 (omega arith)
            ∙ ap (λ f. told_in one_place 0 f 0) (events_done (history_of 2 before_two)) ∙ none_told);
      })
    where
      none_told : told_in one_place 0 (history_of 2 before_two) 0 ≡ None
      none_told = not_delivered (takes_at 0 0 (packets (history_of 2 before_two))) two_readys

  -- It may adopt it, twice.

  stands : m.run ≡ in_first before_two
  stands = all_done.1.stands

  due : IsTrue (is_due one_place 2 (acts_of 2 (in_first before_two)) adopts)
  unfolding spot_at
  due =
      and_from (nat_lt (length (acts_of 2 (in_first before_two))) most_acts) _
      (lt-ltb (length (acts_of 2 (in_first before_two))) most_acts (omega (arith, six_acts)))
      (ap (λ l. nat_lt (spot_at one_place (length l)).number 1 && true) two_has)

  abbrev owner_of : Act → ℕ
  owner_of (Adopts owner number past) = owner
  owner_of act = 0

  abbrev past_of : Act → List Command
  past_of (Adopts owner number past) = past
  past_of act = []

  may_now : (r : Moment) → r.run ≡ m.run → r.synced ≡ m.synced → MayDo one_place three_lies r 2 adopts
  may_now r same synced = record {
    correct = is_run.correct 3 2 (Take (told Send user_seven 0 2)) refl;
    due = subst (λ x. IsTrue (is_due one_place 2 (acts_of 2 x) adopts)) (sym (same ∙ stands)) due;
    adopts = λ owner number past is.
        subst (λ w. HasSynced one_place three_lies r w past) (ap owner_of is)
        (subst (HasSynced one_place three_lies r 0) (ap past_of is) (record {
          source = 0;
          honest = is_run.correct 0 0 (Issue user_seven) refl;
          had = (
            [],
            append-nil (user_seven ∷ []) ∙ sym zero_has
                ∙ sym (ap (λ l. total one_place l 0) whole),
          );
        }));
    sound = λ part p is. absurd (no_event part (Take p) is);
    links = λ part p is honest apart. absurd (no_event part (Take p) is);
    own = λ part p is same_node. absurd (no_event part (Take p) is);
  }
    where
      no_event : (part : _) (e : Event) → adopts ≡ In part e → ⊥
      no_event part e is = cc

      whole : take (r.synced 0) (acts_of 0 r.run) ≡ acts_of 0 (in_first before_two)
      whole =
          (λ i. take (synced i 0) (acts_of 0 ((same ∙ stands) i)))
          ∙ take_all (m.synced 0) (acts_of 0 (in_first before_two)) (omega (arith, all_done.1.all 0))

  abbrev once : Moment
  once = after m (Does 2 adopts)

  abbrev back : Moment
  back = after once (Crashes 2 6)

  back_is : back.run ≡ m.run
  back_is = ap (λ r. restored_to 2 (r ++ (2, adopts) ∷ []) 6) stands ∙ left ∙ sym stands
    where
      left : restored_to 2 (in_first before_two ++ (2, adopts) ∷ []) 6 ≡ in_first before_two
      left = refl

  fewer : once.synced 2 ≤ 6
  fewer = omega (arith, all_done.1.all 2, six_acts)

  each_in_turn : MayEach one_place three_lies at_first example_life
  each_in_turn =
      each_append at_first told_first (Does 2 adopts ∷ Crashes 2 6 ∷ Does 2 adopts ∷ []) all_done.0
      (may_now m refl refl, (fewer, (may_now back back_is refl, _)))

  -- what it has then
  adopted_is : (r : LongRun) → r ≡ in_first before_two ++ (2, adopts) ∷ [] →
      total one_place (acts_of 2 r) 0 ≡ user_seven ∷ []
  adopted_is r is =
      let old : List Event = history_of 2 before_two in
      let acts : acts_of 2 r ≡ done old ++ adopts ∷ [] =
      ap (acts_of 2) is ∙ acts_push 2 2 adopts (in_first before_two) true refl
      ∙ ap (λ l. l ++ adopts ∷ []) (acts_in 2 before_two) in
      ap (λ l. total one_place l 0) acts
      ∙ total_is one_place 0 (done old ++ adopts ∷ []) (user_seven ∷ []) (omega arith) (record {
        starts = ([], append-nil (adopted 0 (done old ++ adopts ∷ [])) ∙ adopted-push 0 (done old) adopts);
        told = λ p from to.
            let one : 1 ≡ p = omega (arith, from, to, ap length (adopted-push 0 (done old) adopts)) in
            subst (λ q. told_at one_place (done old ++ adopts ∷ []) 0 q ≡ slice_get (user_seven ∷ []) q) one
            (told_is one_place 0 (done old ++ adopts ∷ []) 1 0 (omega arith)
            ∙ ap (λ f. told_in one_place 0 f 0)
            (events-same (part_of 0 1) (done old) adopts refl ∙ none_second old) ∙ told_none one_place 0 0);
      })

  pub is_example : AnExample
  is_example = record {
    is_life = record {
      is_plan = long_front.is_plan;
      sizes = is_run.sizes;
      few = is_run.few;
      may = each_may at_first example_life each_in_turn;
    };
    was_behind = ap (λ l. total one_place (acts_of 2 l) 0) stands ∙ two_has;
    adopted = adopted_is once.run (ap (λ r. r ++ (2, adopts) ∷ []) stands);
    lost = back_is;
    again = adopted_is (after back (Does 2 adopts)).run (ap (λ r. r ++ (2, adopts) ∷ []) (back_is ∙ stands));
  }
