-- The answer that is due to a step, and the run after it, by where it arrives.
use Rattle.std.proofs.Common.{◌≡◌, ℕ, suc, Bool, true, false, ◌&&◌, List, [], ◌∷◌, ◌++◌, length, Option}
use Rattle.std.proofs.Common.{Some, None, Result, Ok, Err, refl, sym, ap, ◌∙◌, subst, append-nil}
use Rattle.std.specs.Prelude.{if◌then◌else◌, not, nat_lt, IsTrue, IfOk, IfErr, OnOk, slice_get}
use Rattle.link_frames.specs.frames.Packets.{PacketValue, IsSound, message_of}
use Rattle.link_frames.specs.declared.frames.opening.LinkFault.{LinkFault}
use Rattle.bracha_instance.specs.declared.instance.Effect.{Effect}
use Rattle.bracha_instance.specs.declared.instance.Effect.TheVariants as effect
use Rattle.role_node.specs.Answers.{outlook, answered, reply_to, is_recorded}
use Rattle.role_node.specs.Nodes.{due_at}
use Rattle.role_node.specs.declared.event.Event.{Event}
use Rattle.role_node.specs.declared.event.Event.TheVariants as event
use Rattle.role_node.specs.declared.event.Reply.{Reply}
use Rattle.role_node.specs.declared.event.Reply.TheVariants as reply
use Rattle.role_node.specs.declared.faults.NodeFault.{NodeFault}
use Rattle.byz_world.specs.Runs.{history_of, has_sent, IsClusterRun}
use Rattle.byz_world.specs.Pools.{pool, WasSent}
use Rattle.byz_world.specs.Worlds.{WorldValue, node_in, is_correct_in}
use Rattle.byz_world.specs.Steps.{Arrival, arrival, arrives, given, unless_forged, opened_at, of_opened}
use Rattle.byz_world.specs.Steps.{is_pool_full, is_forged, of_reply, of_answer, answer_of, step_due}
use Rattle.byz_world.specs.Steps.{recorded_pair, with_run, after_step, after_steps, adds, IsStepAnswer, IsSoundStep}
use Rattle.byz_world.specs.inside.Kept.{MayHappen}
use Rattle.byz_world.specs.Worlds.{IsClusterRunOf}
use Rattle.byz_world.specs.declared.step.Step.{Step}
use Rattle.byz_world.specs.declared.step.Step.TheVariants.{Issue, Give, Lie, Bytes, Client}
use Rattle.byz_world.specs.declared.step.StepReply.{StepReply}
use Rattle.byz_world.specs.declared.step.StepReply.TheVariants.{Absorbed, Node}
use Rattle.byz_world.specs.declared.faults.WorldFault.{WorldFault}
use Rattle.byz_world.specs.declared.faults.WorldFault.TheVariants as fault
use Rattle.byz_world.proofs.Elements.{contained}
use Rattle.byz_world.proofs.Pooled.{pooled_is_sent}
use Rattle.byz_world.proofs.Sound.{pooled_is_sound}
use Rattle.byz_world.proofs.Growing.{cluster_run_push}
use Rattle.byz_world.proofs.Opened.{opened_at_is_sound}
use Rattle.byz_world.proofs.Recording.{counted_recorded}

-- A step that comes to an event.

abbrev reply_at : WorldValue → ℕ → Event → Reply
reply_at w at e = reply_to w.config.roles at (history_of at w.run) e

abbrev outlook_at : WorldValue → ℕ → Event → Result Effect NodeFault
outlook_at w at e = outlook w.config at (history_of at w.run) e

due_where : (w : WorldValue) (step : Step) (at : ℕ) (e : Event) → arrival w step ≡ Ok (Some (at, e)) →
    step_due w step ≡ of_answer w (answered (outlook_at w at e) (reply_at w at e))
unfolding step_due
due_where w step at e arrives' = ap (answer_of w) arrives'

pub after_where : (w : WorldValue) (step : Step) (a : Arrival) → arrival w step ≡ a →
    after_step w step ≡ with_run w (w.run ++ recorded_pair w a)
unfolding after_step
after_where w step a e = ap (λ x. with_run w (w.run ++ recorded_pair w x)) e

recorded_where : (w : WorldValue) (at : ℕ) (e : Event) (b : Bool) → is_recorded (due_at (node_in w at) e) ≡ b →
    recorded_pair w (Ok (Some (at, e))) ≡ (if b then (at, e) ∷ [] else [])
recorded_where w at e b h = ap (λ t. if t then (at, e) ∷ [] else []) h

-- what leaves the run leaves the world
pub same_run : (w : WorldValue) → with_run w (w.run ++ []) ≡ w
same_run w = λ i. record { config = w.config; liars = w.liars; run = append-nil w.run i }

adds_where : (w : WorldValue) (step : Step) (at : ℕ) (e : Event) → arrival w step ≡ Ok (Some (at, e)) →
    outlook_at w at e ≡ Ok effect.Counted → IsTrue (adds w step)
adds_where w step at e arrives' counts =
    let recorded = recorded_where w at e true (counted_recorded w.config at (history_of at w.run) e counts) in
    ap (λ x. nat_lt 0 (length (recorded_pair w x))) arrives' ∙ ap (λ ps. nat_lt 0 (length ps)) recorded

pub recorded_answer : (w : WorldValue) (step : Step) (at : ℕ) (e : Event) (r : Result StepReply WorldFault) →
    arrival w step ≡ Ok (Some (at, e)) → outlook_at w at e ≡ Ok effect.Counted
    → IfOk r (λ x. x ≡ of_reply w (reply_at w at e)) →
    IfErr r (λ f. f ≡ fault.Memory) → IsStepAnswer w step r
recorded_answer w step at e (Ok x) arrives' counts ok memory =
    due_where w step at e arrives' ∙ ap (λ o. of_answer w (answered o (reply_at w at e))) counts ∙ ap Ok (sym ok)
recorded_answer w step at e (Err f) arrives' counts ok memory =
    let P : WorldFault → Type 0 = λ x. IsStepAnswer w step (Err x) in subst P (sym memory)
    (adds_where w step at e arrives' counts)

pub recorded_after : {A : Type 0} (w w' : WorldValue) (step : Step) (at : ℕ) (e : Event) (r : Result A WorldFault) →
    arrival w step ≡ Ok (Some (at, e)) → outlook_at w at e ≡ Ok effect.Counted →
    OnOk r (w' ≡ with_run w (w.run ++ (at, e) ∷ [])) → OnOk r (w' ≡ after_step w step)
recorded_after w w' step at e (Ok x) arrives' counts ok =
    let recorded = recorded_where w at e true (counted_recorded w.config at (history_of at w.run) e counts) in
    ok ∙ ap (λ ps. with_run w (w.run ++ ps)) (sym recorded) ∙ sym (after_where w step _ arrives')
recorded_after w w' step at e (Err f) arrives' counts ok = tt

pub idle_answer : (w : WorldValue) (step : Step) (at : ℕ) (e : Event) (first : ℕ) → arrival w step ≡ Ok (Some (at, e)) →
    outlook_at w at e ≡ Ok effect.Idle → first ≡ length (pool w.config w.run) →
    step_due w step ≡ Ok (Node reply.Idle first 0)
idle_answer w step at e first arrives' idle number =
    due_where w step at e arrives' ∙ ap (λ o. of_answer w (answered o (reply_at w at e))) idle
    ∙ ap (λ n. Ok (Node reply.Idle n 0)) (sym number)

pub idle_after : (w : WorldValue) (step : Step) (at : ℕ) (e : Event) → arrival w step ≡ Ok (Some (at, e)) →
    outlook_at w at e ≡ Ok effect.Idle → w ≡ after_step w step
idle_after w step at e arrives' idle =
    let recorded = recorded_where w at e false (ap (λ o. is_recorded (answered o (reply_at w at e))) idle) in
    sym (after_where w step _ arrives' ∙ ap (λ ps. with_run w (w.run ++ ps)) recorded ∙ same_run w)

pub refused_answer : (w : WorldValue) (step : Step) (at : ℕ) (e : Event) (f : NodeFault)
    → arrival w step ≡ Ok (Some (at, e)) →
    outlook_at w at e ≡ Err f → step_due w step ≡ Err (fault.Node f)
refused_answer w step at e f arrives' refused =
    due_where w step at e arrives' ∙ ap (λ o. of_answer w (answered o (reply_at w at e))) refused

-- A step that is absorbed.

pub absorbed_answer : (w : WorldValue) (step : Step) → arrival w step ≡ Ok None → step_due w step ≡ Ok Absorbed
unfolding step_due
absorbed_answer w step e = ap (answer_of w) e

pub absorbed_after : (w : WorldValue) (step : Step) → arrival w step ≡ Ok None → w ≡ after_step w step
absorbed_after w step e = sym (after_where w step _ e ∙ same_run w)

-- A step that is refused.

full_other : (b : Bool) (pair : ℕ × Event)
    → ◌≡◌ {A = Arrival} (if b then Err fault.PoolFull else Ok (Some pair)) (Err fault.Memory) → ⊥
full_other true pair e = cc
full_other false pair e = cc

issue_other : (a b : Bool) (pair : ℕ × Event) →
    ◌≡◌ {A = Arrival} (if a then (if b then Err fault.PoolFull else Ok (Some pair)) else Err fault.NotCorrect)
    (Err fault.Memory) → ⊥
issue_other true b pair e = full_other b pair e
issue_other false b pair e = cc

arrives_other : (a b : Bool) (pair : ℕ × Event) →
    ◌≡◌ {A = Arrival} (if a then (if b then Err fault.PoolFull else Ok (Some pair)) else Ok None) (Err fault.Memory) → ⊥
arrives_other true b pair e = full_other b pair e
arrives_other false b pair e = cc

given_other : (w : WorldValue) (o : Option PacketValue) → given w o ≡ Err fault.Memory → ⊥
given_other w None e = cc
given_other w (Some p) e = arrives_other (is_correct_in w p.to) (is_pool_full w) (p.to, event.Take p) e

unforged_other : (b : Bool) (c : Arrival) → (c ≡ Err fault.Memory → ⊥) →
    ◌≡◌ {A = Arrival} (if b then Err fault.NotSent else c) (Err fault.Memory) → ⊥
unforged_other true c h e = cc
unforged_other false c h e = h e

packet_other : (w : WorldValue) (p : PacketValue) → unless_forged w p ≡ Err fault.Memory → ⊥
packet_other w p e =
    unforged_other (is_forged w p) (arrives w p)
    (arrives_other (is_correct_in w p.to) (is_pool_full w) (p.to, event.Take p)) e

lie_other : (a : Bool) (c : Arrival) → (c ≡ Err fault.Memory → ⊥) →
    ◌≡◌ {A = Arrival} (if not a then Err fault.NotCorrect else c) (Err fault.Memory) → ⊥
lie_other false c h e = cc
lie_other true c h e = h e

bytes_other : (w : WorldValue) (o : Option (Result PacketValue LinkFault)) → of_opened w o ≡ Err fault.Memory → ⊥
bytes_other w None e = cc
bytes_other w (Some (Err f)) e = cc
bytes_other w (Some (Ok p)) e = packet_other w p e

client_other : (a : Bool) (pair : ℕ × Event) →
    ◌≡◌ {A = Arrival} (if a then Ok (Some pair) else Err fault.NotCorrect) (Err fault.Memory) → ⊥
client_other true pair e = cc
client_other false pair e = cc

-- want of memory is no refusal that is due
arrival_other : (w : WorldValue) (step : Step) → arrival w step ≡ Err fault.Memory → ⊥
arrival_other w (Issue node c) e = issue_other (is_correct_in w node) (is_pool_full w) (node, event.Issue c) e
arrival_other w (Give k) e = given_other w (slice_get (pool w.config w.run) k) e
arrival_other w (Lie p) e =
    lie_other (nat_lt p.from w.config.roles.sizes.nodes && nat_lt p.to w.config.roles.sizes.nodes) (unless_forged w p)
    (packet_other w p) e
arrival_other w (Bytes to bytes) e = bytes_other w (opened_at w to bytes) e
arrival_other w (Client node act) e = client_other (is_correct_in w node) (node, event.Client act) e

err_by : (w : WorldValue) (step : Step) (f : WorldFault) → step_due w step ≡ Err f → (f ≡ fault.Memory → ⊥)
    → IsStepAnswer w step (Err f)
err_by w step fault.TooManyLiars e other = e
err_by w step fault.NotCorrect e other = e
err_by w step fault.NoSuchPacket e other = e
err_by w step fault.NotSent e other = e
err_by w step fault.PoolFull e other = e
err_by w step (fault.Link f) e other = e
err_by w step (fault.Node f) e other = e
err_by w step fault.NoSession e other = e
err_by w step fault.Memory e other = absurd (other refl)

pub early_answer : (w : WorldValue) (step : Step) (f : WorldFault) → arrival w step ≡ Err f
    → IsStepAnswer w step (Err f)
unfolding step_due
early_answer w step f e = err_by w step f (ap (answer_of w) e) (λ m. arrival_other w step (e ∙ ap Err m))

-- a refusal that is due leaves the world
due_err : (w : WorldValue) (step : Step) (f : WorldFault) → IsStepAnswer w step (Err f) → (f ≡ fault.Memory → ⊥)
    → step_due w step ≡ Err f
due_err w step fault.TooManyLiars e other = e
due_err w step fault.NotCorrect e other = e
due_err w step fault.NoSuchPacket e other = e
due_err w step fault.NotSent e other = e
due_err w step fault.PoolFull e other = e
due_err w step (fault.Link f) e other = e
due_err w step (fault.Node f) e other = e
due_err w step fault.NoSession e other = e
due_err w step fault.Memory e other = absurd (other refl)

unrecorded : (w : WorldValue) (a : Arrival) (f : WorldFault) → answer_of w a ≡ Err f → recorded_pair w a ≡ []
unrecorded w (Ok (Some pair)) f e = by pair (due_at (node_in w pair.0) pair.1) e
  where
    by : (pair : ℕ × Event) (r : Result Reply NodeFault) → of_answer w r ≡ Err f
        → (if is_recorded r then pair ∷ [] else []) ≡ []
    by pair (Ok r) e = absurd cc
    by pair (Err g) e = refl
unrecorded w (Ok None) f e = refl
unrecorded w (Err g) f e = refl

pub refused_after : (w : WorldValue) (step : Step) (f : WorldFault) → IsStepAnswer w step (Err f)
    → (f ≡ fault.Memory → ⊥) →
    w ≡ after_step w step
unfolding step_due
refused_after w step f answer other =
    let none = unrecorded w (arrival w step) f (due_err w step f answer other) in
    sym (after_where w step _ refl ∙ ap (λ ps. with_run w (w.run ++ ps)) none ∙ same_run w)

-- What arrives may happen.

full_is : (w : WorldValue) (b : Bool) (pair q : ℕ × Event) →
    ◌≡◌ {A = Arrival} (if b then Err fault.PoolFull else Ok (Some pair)) (Ok (Some q)) → (b ≡ false) × (pair ≡ q)
full_is w true pair q e = absurd cc
full_is w false pair q e = (refl, cc)

issue_is : (w : WorldValue) (a b : Bool) (pair q : ℕ × Event) →
    ◌≡◌ {A = Arrival} (if a then (if b then Err fault.PoolFull else Ok (Some pair)) else Err fault.NotCorrect)
    (Ok (Some q)) →
    (a ≡ true) × (b ≡ false) × (pair ≡ q)
issue_is w true b pair q e = let rest = full_is w b pair q e in (refl, rest.0, rest.1)
issue_is w false b pair q e = absurd cc

arrives_is : (w : WorldValue) (a b : Bool) (pair q : ℕ × Event) →
    ◌≡◌ {A = Arrival} (if a then (if b then Err fault.PoolFull else Ok (Some pair)) else Ok None) (Ok (Some q)) →
    (a ≡ true) × (b ≡ false) × (pair ≡ q)
arrives_is w true b pair q e = let rest = full_is w b pair q e in (refl, rest.0, rest.1)
arrives_is w false b pair q e = absurd cc

client_is : (a : Bool) (pair q : ℕ × Event) →
    ◌≡◌ {A = Arrival} (if a then Ok (Some pair) else Err fault.NotCorrect) (Ok (Some q)) → (a ≡ true) × (pair ≡ q)
client_is true pair q e = (refl, cc)
client_is false pair q e = absurd cc

lie_is : (a : Bool) (c : Arrival) (q : ℕ × Event) →
    ◌≡◌ {A = Arrival} (if not a then Err fault.NotCorrect else c) (Ok (Some q)) → c ≡ Ok (Some q)
lie_is false c q e = absurd cc
lie_is true c q e = e

unforged_is : (b : Bool) (c : Arrival) (q : ℕ × Event) →
    ◌≡◌ {A = Arrival} (if b then Err fault.NotSent else c) (Ok (Some q)) → (b ≡ false) × (c ≡ Ok (Some q))
unforged_is true c q e = absurd cc
unforged_is false c q e = (refl, e)

abbrev pub MayBe : WorldValue → ℕ × Event → Type 0
MayBe w q = MayHappen w q.0 q.1

same_take : (p q : PacketValue) → event.Take p ≡ event.Take q → p ≡ q
same_take p q e = cc

-- a packet that is sound, and was sent, if its sender is correct
pub taken_may : (w : WorldValue) (p : PacketValue) (q : ℕ × Event) → IsSound p →
    (is_correct_in w p.from ≡ true → IsTrue (has_sent w.config.roles.sizes w.run p.from (message_of p))) →
    arrives w p ≡ Ok (Some q) → MayBe w q
taken_may w p q sound sent e =
    let is = arrives_is w (is_correct_in w p.to) (is_pool_full w) (p.to, event.Take p) q e in
    subst (MayBe w) is.2
    (record {
      follows = record {
        correct = is.0;
        sound = λ x same. subst IsSound (same_take p x same) sound;
        links = λ x same.
            let L : PacketValue → Type 0 = λ y. is_correct_in w y.from ≡ true
            → IsTrue (has_sent w.config.roles.sizes w.run y.from (message_of y)) in
            subst L (same_take p x same) sent;
      };
      room = λ act. is.1;
    })

pub unforged : (a b : Bool) → (a && not b) ≡ false → a ≡ true → b ≡ true
unforged true true e h = refl
unforged true false e h = absurd cc
unforged false b e h = absurd cc

unforged_may : (w : WorldValue) (p : PacketValue) (q : ℕ × Event) → IsSound p → unless_forged w p ≡ Ok (Some q) →
    MayBe w q
unforged_may w p q sound e =
    let is = unforged_is (is_forged w p) (arrives w p) q e in
    taken_may w p q sound (unforged (is_correct_in w p.from)
    (has_sent w.config.roles.sizes w.run p.from (message_of p)) is.0) is.1

opened_may : (w : WorldValue) (o : Option (Result PacketValue LinkFault)) (q : ℕ × Event) →
    ((p : PacketValue) → o ≡ Some (Ok p) → IsSound p) → of_opened w o ≡ Ok (Some q) → MayBe w q
opened_may w None q sound e = absurd cc
opened_may w (Some (Err f)) q sound e = absurd cc
opened_may w (Some (Ok p)) q sound e = unforged_may w p q (sound p refl) e

pub given_may : (w : WorldValue) (o : Option PacketValue) (k : ℕ) (q : ℕ × Event) → IsClusterRunOf w →
    slice_get (pool w.config w.run) k ≡ o → given w o ≡ Ok (Some q) → MayBe w q
given_may w None k q is at e = absurd cc
given_may w (Some p) k q is at e =
    let pooled : WasSent w.config w.liars w.run p =
    pooled_is_sent w.config w.liars w.run p is (contained (pool w.config w.run) k p at) in
    taken_may w p q (pooled_is_sound w.config w.liars w.run is p (contained (pool w.config w.run) k p at))
    (λ correct. pooled.sent) e

pub may_arrive : (w : WorldValue) (step : Step) (at : ℕ) (e : Event) → IsClusterRunOf w → IsSoundStep step →
    arrival w step ≡ Ok (Some (at, e)) → MayHappen w at e
may_arrive w (Issue node c) at e is sound h =
    let i = issue_is w (is_correct_in w node) (is_pool_full w) (node, event.Issue c) (at, e) h in
    subst (MayBe w) i.2
    (record {
      follows = record { correct = i.0; sound = λ x same. absurd cc; links = λ x same. absurd cc };
      room = λ act. i.1;
    })
may_arrive w (Give k) at e is sound h = given_may w (slice_get (pool w.config w.run) k) k (at, e) is refl h
may_arrive w (Lie p) at e is sound h =
    unforged_may w p (at, e) sound
    (lie_is (nat_lt p.from w.config.roles.sizes.nodes && nat_lt p.to w.config.roles.sizes.nodes)
    (unless_forged w p) (at, e) h)
may_arrive w (Bytes to bytes) at e is sound h =
    opened_may w (opened_at w to bytes) (at, e) (opened_at_is_sound w to bytes) h
may_arrive w (Client node act) at e is sound h =
    let i = client_is (is_correct_in w node) (node, event.Client act) (at, e) h in
    subst (MayBe w) i.1
    (record {
      follows = record { correct = i.0; sound = λ x same. absurd cc; links = λ x same. absurd cc };
      room = λ none. absurd cc;
    })

-- Steps in a row.

pub after_steps-push : (w : WorldValue) (steps : List Step) (step : Step) →
    after_steps w (steps ++ step ∷ []) ≡ after_step (after_steps w steps) step
unfolding after_steps
after_steps-push w [] step = refl
after_steps-push w (first ∷ steps) step = after_steps-push (after_step w first) steps step

pub after_steps-none : (w : WorldValue) → after_steps w [] ≡ w
unfolding after_steps
after_steps-none w = refl

-- the run of a world stays a cluster run
pub after_step_runs : (w : WorldValue) (step : Step) → IsClusterRunOf w → IsSoundStep step
    → IsClusterRunOf (after_step w step)
after_step_runs w step is sound =
    subst IsClusterRunOf (sym (after_where w step (arrival w step) refl)) (grown (arrival w step) refl)
  where
    recorded : (pair : ℕ × Event) → MayBe w pair → (b : Bool) → is_recorded (due_at (node_in w pair.0) pair.1) ≡ b →
        IsClusterRun w.config w.liars (w.run ++ (if b then pair ∷ [] else []))
    recorded pair may true e = cluster_run_push w.config w.liars w.run pair.0 pair.1 is may.follows e
    recorded pair may false e = subst (IsClusterRun w.config w.liars) (sym (append-nil w.run)) is

    grown : (a : Arrival) → arrival w step ≡ a → IsClusterRunOf (with_run w (w.run ++ recorded_pair w a))
    grown (Ok (Some pair)) e =
        recorded pair (may_arrive w step pair.0 pair.1 is sound e) (is_recorded (due_at (node_in w pair.0) pair.1)) refl
    grown (Ok None) e = subst (IsClusterRun w.config w.liars) (sym (append-nil w.run)) is
    grown (Err f) e = subst (IsClusterRun w.config w.liars) (sym (append-nil w.run)) is

pub after_steps_runs : (w : WorldValue) (steps : List Step) → IsClusterRunOf w →
    ((k : ℕ) (step : Step) → slice_get steps k ≡ Some step → IsSoundStep step) → IsClusterRunOf (after_steps w steps)
unfolding after_steps
after_steps_runs w [] is sound = is
after_steps_runs w (step ∷ steps) is sound =
    after_steps_runs (after_step w step) steps (after_step_runs w step is (sound 0 step refl))
    (λ k s at. sound (suc k) s at)
