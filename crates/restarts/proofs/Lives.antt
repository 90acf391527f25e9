-- The laws of every life, by what holds at each of its moments.
use Rattle.std.proofs.Common.{◌≡◌, ℕ, zero, suc, ◌+◌, ◌≤◌, List, [], ◌∷◌, ◌++◌, take, drop, Some}
use Rattle.std.proofs.Common.{refl, sym, ap, ◌∙◌, subst, arith}
use Rattle.std.specs.Prelude.{⊤, IsTrue, slice_get, fold}
use Rattle.std.proofs.lemmas.List.{take-append-le, take-take, take-append-drop}
use Rattle.quorum_sizes.specs.Sizes.{Counts}
use Rattle.quorum_sizes.specs.NodeSets.{Nodes}
use Rattle.role_commands.specs.declared.command.Command.{Command}
use Rattle.link_frames.specs.declared.frames.packet.Message.{Message}
use Rattle.role_node.specs.Access.{sent_at}
use Rattle.role_node.specs.Configs.{ConfigValue}
use Rattle.role_node.specs.declared.event.Event.{Event}
use Rattle.byz_world.specs.Runs.{Run, history_of, of_kind, has_sent}
use Rattle.byz_world.proofs.Exported.{history_of-append, has_sent_is}
use Rattle.restarts.specs.Lives.{Act, Records, Syncs, Crashes, Moment, at_first, after, moment, restored_to}
use Rattle.restarts.specs.Lives.{has_left, May, IsLife}
use Rattle.restarts.specs.Laws.{RestartsAreRuns, NothingIsTakenBack, NobodyIsToldTwoStories}
use Rattle.restarts.proofs.Firm.{IsFirm, firm_first, firm_after, synced_more, front_stays}
use Rattle.restarts.proofs.Restoring.{own_history}
use Rattle.restarts.proofs.Sending.{is_said, said_is, said_by_all}

-- each act may be done after those before it, from a moment on
abbrev pub MayAll : ConfigValue → Nodes → Moment → List Act → Type 0
MayAll config liars m [] = ⊤
MayAll config liars m (act ∷ acts) = May config liars m act × MayAll config liars (after m act) acts

-- What is synced at a moment stays so.
pub record Holds (m later : Moment) (node : ℕ) : Type 0 where
  pub no_fewer : m.synced node ≤ later.synced node
  pub same : take (m.synced node) (history_of node later.run) ≡ take (m.synced node) (history_of node m.run)

module _ (config : ConfigValue) (liars : Nodes) where
  may_all : (m : Moment) (acts : List Act) →
      ((k : ℕ) (act : Act) → slice_get acts k ≡ Some act → May config liars (fold after m (take k acts)) act) →
      MayAll config liars m acts
  may_all m [] each = _
  may_all m (act ∷ acts) each = (each 0 act refl, may_all (after m act) acts (λ k next there. each (suc k) next there))

  pub each_may : (m : Moment) (acts : List Act) → MayAll config liars m acts →
      (k : ℕ) (act : Act) → slice_get acts k ≡ Some act → May config liars (fold after m (take k acts)) act
  each_may m [] may k act there = absurd cc
  each_may m (first ∷ acts) may zero act there =
      let same : first ≡ act = cc in subst (May config liars m) same may.0
  each_may m (first ∷ acts) may (suc k) act there = each_may (after m first) acts may.1 k act there

  firm_from : (m : Moment) (acts : List Act) (k : ℕ) → IsFirm config liars m → MayAll config liars m acts →
      IsFirm config liars (fold after m (take k acts))
  firm_from m acts zero firm may = firm
  firm_from m [] (suc k) firm may = firm
  firm_from m (act ∷ acts) (suc k) firm may =
      firm_from (after m act) acts k (firm_after config liars m act firm may.0) may.1

  holds_now : (m : Moment) (node : ℕ) → Holds m m node
  holds_now m node = record { no_fewer = omega arith; same = refl }

  holds_after : (m : Moment) (act : Act) (n : ℕ) → IsFirm config liars m → May config liars m act →
      Holds m (after m act) n
  holds_after m (Records node event) n firm may = record {
    no_fewer = omega arith;
    same = ap (take (m.synced n)) (history_of-append n m.run ((node, event) ∷ []))
        ∙ take-append-le (m.synced n) (history_of n m.run) (history_of n ((node, event) ∷ [])) (firm.within n);
  }
  holds_after m (Syncs node) n firm may = record {
    no_fewer = synced_more config liars m node n firm;
    same = refl;
  }
  holds_after m (Crashes node count) n firm may = record {
    no_fewer = omega arith;
    same = front_stays config liars m node count n m.run may;
  }

  holds_on : (m between later : Moment) (n : ℕ) → Holds m between n → Holds between later n → Holds m later n
  holds_on m between later n first then_on = record {
    no_fewer = omega (arith, first.no_fewer, then_on.no_fewer);
    same = sym (take-take (m.synced n) (between.synced n) (history_of n later.run) first.no_fewer)
        ∙ ap (take (m.synced n)) then_on.same
        ∙ take-take (m.synced n) (between.synced n) (history_of n between.run) first.no_fewer ∙ first.same;
  }

  holds_from : (m : Moment) (acts : List Act) (k later n : ℕ) → k ≤ later → IsFirm config liars m →
      MayAll config liars m acts → Holds (fold after m (take k acts)) (fold after m (take later acts)) n
  holds_from m acts zero zero n le firm may = holds_now m n
  holds_from m acts (suc k) zero n le firm may = absurd (omega (arith, le))
  holds_from m [] zero (suc later) n le firm may = holds_now m n
  holds_from m [] (suc k) (suc later) n le firm may = holds_now m n
  holds_from m (act ∷ acts) zero (suc later) n le firm may =
      let next = firm_after config liars m act firm may.0 in
      holds_on m (after m act) (fold after (after m act) (take later acts)) n (holds_after m act n firm may.0)
      (holds_from (after m act) acts 0 later n (omega arith) next may.1)
  holds_from m (act ∷ acts) (suc k) (suc later) n le firm may =
      holds_from (after m act) acts k later n (omega (arith, le)) (firm_after config liars m act firm may.0) may.1

  firm_at : (acts : List Act) (k : ℕ) → IsLife config liars acts → IsFirm config liars (moment acts k)
  firm_at acts k life =
      firm_from at_first acts k (firm_first config liars life.sizes life.few) (may_all at_first acts life.may)

  holds_at : (acts : List Act) (k later node : ℕ) → IsLife config liars acts → k ≤ later →
      Holds (moment acts k) (moment acts later) node
  holds_at acts k later node life le =
      holds_from at_first acts k later node le (firm_first config liars life.sizes life.few)
      (may_all at_first acts life.may)

pub restarts_are_runs : RestartsAreRuns
restarts_are_runs config liars acts k life = (firm_at config liars acts k life).cluster

pub nothing_is_taken_back : NothingIsTakenBack
nothing_is_taken_back config liars acts k later node life le =
    let count : ℕ = (moment acts k).synced node in
    let history : List Event = history_of node (moment acts later).run in (
      drop count history,
      ap (λ es. es ++ drop count history) (sym (holds_at config liars acts k later node life le).same)
          ∙ take-append-drop count history,
    )

-- Nobody is told two stories.

-- what has left a node is said by its history at each later moment
pub left_is_said : (config : ConfigValue) (liars : Nodes) (acts : List Act) (k later node : ℕ) (message : Message) →
    IsLife config liars acts → k ≤ later → IsTrue (has_left config.roles.sizes (moment acts k) node message) →
    IsTrue (has_sent config.roles.sizes (moment acts later).run node message)
left_is_said config liars acts k later node message life le left =
    let s : Counts = config.roles.sizes in
    let m : Moment = moment acts k in
    let end : Run = (moment acts later).run in
    let now : has_left s m node message ≡ is_said s node (take (m.synced node) (history_of node end)) message =
    said_is s (restored_to node m.run (m.synced node)) node message
    ∙ ap (λ h. is_said s node h message)
    (own_history node m.run (m.synced node) ∙ sym (holds_at config liars acts k later node life le).same) in
    subst IsTrue (sym (said_is s end node message))
    (said_by_all s (m.synced node) node (history_of node end) message (subst IsTrue now left))

-- a node sends one message of a kind about a place
one_message : (s : Counts) (run : Run) (node : ℕ) (one other : Message) → IsTrue (has_sent s run node one) →
    IsTrue (has_sent s run node other) → one.kind ≡ other.kind → one.owner ≡ other.owner → one.place ≡ other.place →
    one ≡ other
one_message s run node one other sent_one sent_other kind owner place =
    λ i. record { kind = kind i; owner = owner i; place = place i; command = command i }
  where
    same : of_kind one.kind (sent_at s node (history_of node run) one.owner one.place)
        ≡ of_kind other.kind (sent_at s node (history_of node run) other.owner other.place)
    same = λ i. of_kind (kind i) (sent_at s node (history_of node run) (owner i) (place i))

    of_some : (c d : Command) → Some c ≡ Some d → c ≡ d
    of_some c d e = cc

    command : one.command ≡ other.command
    command = of_some one.command other.command
        (sym (has_sent_is s run node one sent_one) ∙ same ∙ has_sent_is s run node other sent_other)

pub nobody_is_told_two_stories : NobodyIsToldTwoStories
nobody_is_told_two_stories config liars acts k later node one other life left_one left_other =
    let s : Counts = config.roles.sizes in
    let end : ℕ = k + later in
    one_message s (moment acts end).run node one other
    (left_is_said config liars acts k end node one life (omega arith) left_one)
    (left_is_said config liars acts later end node other life (omega arith) left_other)
