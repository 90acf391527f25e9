-- What happens in a part is a run of the part's cluster.
use Rattle.std.proofs.Common.{◌≡◌, ℕ, ◌==◌, Bool, true, false, if◌then◌else◌, List, [], ◌∷◌, take, slice_get}
use Rattle.std.proofs.Common.{Option, Some, None, refl, sym, ap, ◌∙◌, subst}
use Rattle.std.specs.Prelude.{IsTrue, option_map}
use Rattle.std.specs.List.{filter_map, cons_option}
use Rattle.std.proofs.lemmas.Option.{same_Some}
use Rattle.quorum_sizes.specs.Sizes.{Counts}
use Rattle.link_frames.specs.declared.frames.packet.Message.{Message}
use Rattle.link_frames.specs.frames.Packets.{message_of}
use Rattle.bracha_instance.specs.Broadcast.{is_for}
use Rattle.role_node.specs.Access.{sent_at}
use Rattle.role_node.specs.Answers.{IsLegal}
use Rattle.role_node.specs.declared.event.Event.{Event}
use Rattle.role_node.specs.declared.event.Event.TheVariants.{Take}
use Rattle.byz_world.specs.Runs.{Run, event_at, history_of, of_kind, has_sent}
use Rattle.part_lives.specs.Parts.{Part, Act, In, part_config, event_in, events_in}
use Rattle.part_lives.proofs.Picking.{picked_at}
use Rattle.part_lives.proofs.Acts.{event_in_is}
use Rattle.part_lives.proofs.Dues.{part_legal}
use Rattle.stream_parts.specs.LongRuns.{LongRun, act_at, acts_of, at_node, pair_in, run_in, has_sent_in}
use Rattle.stream_parts.specs.Laws.{PartsAreRuns}

pair_by : (part : Part) (pair : ℕ × Act) (node : ℕ) (e : Event) (o : Option Event) → event_in part pair.1 ≡ o →
    option_map (at_node pair.0) o ≡ Some (node, e) → pair ≡ (node, In part e)
pair_by part pair node e None is made = absurd cc
pair_by part pair node e (Some event) is made =
    let same : ◌≡◌ {A = ℕ × Event} (pair.0, event) (node, e) = same_Some (pair.0, event) (node, e) made in
    let act : pair.1 ≡ In part event = event_in_is part pair.1 event is in
    λ i. ((same i).0, (act ∙ ap (λ x. In part x) (ap (λ x. x.1) same)) i)

pub pair_in_is : (part : Part) (pair : ℕ × Act) (node : ℕ) (e : Event) → pair_in part pair ≡ Some (node, e) →
    pair ≡ (node, In part e)
pair_in_is part pair node e is = pair_by part pair node e (event_in part pair.1) refl is

-- A node's history in the part's run is that of its life in the part.

both_by : (part : Part) (node : ℕ) (pair : ℕ × Act) (xs : Run) (ys : List Act) →
    filter_map (event_at node) xs ≡ filter_map (event_in part) ys →
    (o : Option Event) → event_in part pair.1 ≡ o → (own : Bool) → (pair.0 == node) ≡ own →
    filter_map (event_at node) (cons_option (option_map (at_node pair.0) o) xs)
    ≡ filter_map (event_in part) (cons_option (if own then Some pair.1 else None) ys)
both_by part node pair xs ys rest None is true own =
    rest ∙ ap (λ o. cons_option o (filter_map (event_in part) ys)) (sym is)
both_by part node pair xs ys rest None is false own = rest
both_by part node pair xs ys rest (Some e) is true own =
    ap (λ b. cons_option (if b then Some e else None) (filter_map (event_at node) xs)) own
    ∙ ap (λ l. e ∷ l) rest ∙ ap (λ o. cons_option o (filter_map (event_in part) ys)) (sym is)
both_by part node pair xs ys rest (Some e) is false own =
    ap (λ b. cons_option (if b then Some e else None) (filter_map (event_at node) xs)) own ∙ rest

picked_both : (part : Part) (node : ℕ) (run : LongRun) →
    filter_map (event_at node) (filter_map (pair_in part) run)
    ≡ filter_map (event_in part) (filter_map (act_at node) run)
picked_both part node [] = refl
picked_both part node (pair ∷ run) =
    both_by part node pair (filter_map (pair_in part) run) (filter_map (act_at node) run) (picked_both part node run)
    (event_in part pair.1) refl (pair.0 == node) refl

pub history_in : (part : Part) (node : ℕ) (run : LongRun) →
    history_of node (run_in part run) ≡ events_in part (acts_of node run)
unfolding history_of run_in events_in acts_of
history_in part node run = picked_both part node run

pub sent_in : (s : Counts) (part : Part) (node : ℕ) (run : LongRun) (m : Message) →
    has_sent s (run_in part run) node m ≡ has_sent_in s run part node m
unfolding has_sent
sent_in s part node run m =
    ap (λ h. is_for m.command (of_kind m.kind (sent_at s node h m.owner m.place))) (history_in part node run)

-- where an event of the part stands in the long run, and what of the part is before it
record StandsIn (run : LongRun) (part : Part) (t node : ℕ) (e : Event) : Type 0 where
  pub at : ℕ
  pub there : slice_get run at ≡ Some (node, In part e)
  pub before : take t (run_in part run) ≡ run_in part (take at run)

stands_in : (run : LongRun) (part : Part) (t node : ℕ) (e : Event) →
    slice_get (run_in part run) t ≡ Some (node, e) → StandsIn run part t node e
unfolding run_in
stands_in run part t node e there =
    let found = picked_at (pair_in part) run (node, e) t there in
    record {
      at = found.0;
      there = found.2 ∙ ap Some (pair_in_is part found.1 node e found.3);
      before = found.4;
    }

pub parts_are_runs : PartsAreRuns
parts_are_runs plan liars run part long =
    record {
      sizes = long.sizes;
      few = long.few;
      correct = λ t node e there.
          let found = stands_in run part t node e there in long.correct found.at node (In part e) found.there;
      legal = λ node.
          subst (IsLegal (part_config plan part.number) node) (sym (history_in part node run))
          (part_legal plan node (acts_of node run) part (long.lives node));
      sound = λ t node p there.
          let found = stands_in run part t node (Take p) there in long.sound found.at node part p found.there;
      links = λ t node p there honest.
          let found = stands_in run part t node (Take p) there in
          subst (λ r. IsTrue (has_sent plan.roles.sizes r p.from (message_of p))) (sym found.before)
          (subst IsTrue (sym (sent_in plan.roles.sizes part p.from (take found.at run) (message_of p)))
          (long.links found.at node part p found.there honest));
    }
