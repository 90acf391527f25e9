-- What comes to a node, as the code finds it: the tests one after another say where a step arrives.
use Rattle.std.proofs.Common.{◌≡◌, ℕ, Bool, true, false, ◌&&◌, List, Some, None, Ok, Err, refl, sym, ap, ◌∙◌}
use Rattle.std.specs.Prelude.{if◌then◌else◌, not, nat_lt, slice_get}
use Rattle.link_frames.specs.frames.Packets.{PacketValue}
use Rattle.link_frames.specs.declared.frames.opening.LinkFault.{LinkFault}
use Rattle.role_commands.specs.declared.command.Command.{Command}
use Rattle.role_sessions.specs.declared.event.ClientEvent.{ClientEvent}
use Rattle.role_node.specs.declared.event.Event.{Event}
use Rattle.role_node.specs.declared.event.Event.TheVariants as event
use Rattle.role_node.specs.Answers.{EntryValue, outlook, reply_to}
use Rattle.bracha_instance.specs.declared.instance.Effect.TheVariants as effect
use Rattle.byz_world.specs.Runs.{history_of}
use Rattle.byz_world.specs.Pools.{pool}
use Rattle.byz_world.specs.Worlds.{WorldValue, is_correct_in, IsClusterRunOf}
use Rattle.byz_world.specs.Steps.{Arrival, arrival, arrives, given, unless_forged, opened_at, of_opened}
use Rattle.byz_world.specs.Steps.{is_pool_full, is_forged, of_reply, step_due, after_step, IsStepAnswer}
use Rattle.byz_world.specs.inside.Kept.{MayArrive, result_reply}
use Rattle.byz_world.specs.declared.step.Step.{Step}
use Rattle.byz_world.specs.declared.step.Step.TheVariants.{Issue, Give, Lie, Bytes, Client}
use Rattle.byz_world.specs.declared.step.StepOutcome.TheVariants as outcome
use Rattle.byz_world.specs.declared.step.StepReply.TheVariants.{Absorbed}
use Rattle.byz_world.specs.declared.faults.WorldFault.TheVariants as fault
use Rattle.byz_world.proofs.Stepping.{MayBe, given_may}
use Rattle.byz_world.proofs.Stepping.{early_answer, absorbed_answer, absorbed_after, recorded_answer}

-- What may be taken.

may_be : (w : WorldValue) (a : Arrival) → ((q : ℕ × Event) → a ≡ Ok (Some q) → MayBe w q) → MayArrive w a
may_be w (Ok (Some q)) may = may q refl
may_be w (Ok None) may = tt
may_be w (Err f) may = tt

-- a packet of the pool may be taken
pub pooled_may : (w : WorldValue) (k : ℕ) (p : PacketValue) → IsClusterRunOf w →
    slice_get (pool w.config w.run) k ≡ Some p → MayArrive w (arrives w p)
pooled_may w k p is at = may_be w (arrives w p) (λ q. given_may w (Some p) k q is at)

-- What is refused before a node is asked.

pub issued_elsewhere : (w : WorldValue) (name : ℕ) (command : Command) → is_correct_in w name ≡ false →
    IsStepAnswer w (Issue name command) (Err fault.NotCorrect)
issued_elsewhere w name command liar =
    early_answer w (Issue name command) fault.NotCorrect (ap (λ b. if b then (
    if is_pool_full w then Err fault.PoolFull else Ok (Some (name, event.Issue command))
    ) else Err fault.NotCorrect) liar)

two_tests : {A : Type 0} (a b : Bool) (x y z : A) → a ≡ true → b ≡ true → (if a then (if b then x else y) else z) ≡ x
two_tests a b x y z ha hb = rw (ha, hb) refl

pub issued_too_much : (w : WorldValue) (name : ℕ) (command : Command) → is_correct_in w name ≡ true →
    is_pool_full w ≡ true → IsStepAnswer w (Issue name command) (Err fault.PoolFull)
issued_too_much w name command correct full =
    early_answer w (Issue name command) fault.PoolFull
    (two_tests (is_correct_in w name) (is_pool_full w) (Err fault.PoolFull) (Ok (Some (name, event.Issue command)))
    (Err fault.NotCorrect) correct full)

pub acted_elsewhere : (w : WorldValue) (name : ℕ) (act : ClientEvent) → is_correct_in w name ≡ false →
    IsStepAnswer w (Client name act) (Err fault.NotCorrect)
acted_elsewhere w name act liar =
    early_answer w (Client name act) fault.NotCorrect
    (ap (λ b. if b then Ok (Some (name, event.Client act)) else Err fault.NotCorrect) liar)

pub none_given : (w : WorldValue) (k : ℕ) → slice_get (pool w.config w.run) k ≡ None →
    IsStepAnswer w (Give k) (Err fault.NoSuchPacket)
none_given w k none = early_answer w (Give k) fault.NoSuchPacket (ap (given w) none)

pub lied_outside : (w : WorldValue) (p : PacketValue) →
    (nat_lt p.from w.config.roles.sizes.nodes && nat_lt p.to w.config.roles.sizes.nodes) ≡ false →
    IsStepAnswer w (Lie p) (Err fault.NotCorrect)
lied_outside w p outside =
    early_answer w (Lie p) fault.NotCorrect
    (ap (λ b. if not b then Err fault.NotCorrect else unless_forged w p) outside)

pub opened_nowhere : (w : WorldValue) (to : ℕ) (bytes : List ℕ) → opened_at w to bytes ≡ None →
    IsStepAnswer w (Bytes to bytes) (Err fault.NotCorrect)
opened_nowhere w to bytes none = early_answer w (Bytes to bytes) fault.NotCorrect (ap (of_opened w) none)

pub opened_badly : (w : WorldValue) (to : ℕ) (bytes : List ℕ) (f : LinkFault) → opened_at w to bytes ≡ Some (Err f) →
    IsStepAnswer w (Bytes to bytes) (Err (fault.Link f))
opened_badly w to bytes f bad = early_answer w (Bytes to bytes) (fault.Link f) (ap (of_opened w) bad)

pub forged_refused : (w : WorldValue) (step : Step) (p : PacketValue) → arrival w step ≡ unless_forged w p →
    is_forged w p ≡ true → IsStepAnswer w step (Err fault.NotSent)
forged_refused w step p at forged =
    early_answer w step fault.NotSent (at ∙ ap (λ b. if b then Err fault.NotSent else arrives w p) forged)

pub full_refused : (w : WorldValue) (step : Step) (p : PacketValue) → arrival w step ≡ arrives w p →
    is_correct_in w p.to ≡ true → is_pool_full w ≡ true → IsStepAnswer w step (Err fault.PoolFull)
full_refused w step p at correct full =
    early_answer w step fault.PoolFull
    (at ∙ two_tests (is_correct_in w p.to) (is_pool_full w) (Err fault.PoolFull) (Ok (Some (p.to, event.Take p)))
    (Ok None) correct full)

-- What a liar absorbs.

liar_absorbs : (w : WorldValue) (p : PacketValue) → is_correct_in w p.to ≡ false → arrives w p ≡ Ok None
liar_absorbs w p liar = ap (λ b. if b then (
    if is_pool_full w then Err fault.PoolFull else Ok (Some (p.to, event.Take p))
    ) else Ok None) liar

pub absorbed_due : (w : WorldValue) (step : Step) (p : PacketValue) → arrival w step ≡ arrives w p →
    is_correct_in w p.to ≡ false → step_due w step ≡ Ok Absorbed
absorbed_due w step p at liar = absorbed_answer w step (at ∙ liar_absorbs w p liar)

pub absorbed_stays : (w : WorldValue) (step : Step) (p : PacketValue) → arrival w step ≡ arrives w p →
    is_correct_in w p.to ≡ false → w ≡ after_step w step
absorbed_stays w step p at liar = absorbed_after w step (at ∙ liar_absorbs w p liar)

-- What is told of an event that counts.

pub recorded_told : (w : WorldValue) (step : Step) (at : ℕ) (e : Event) (entry : EntryValue) →
    arrival w step ≡ Ok (Some (at, e)) → outlook w.config at (history_of at w.run) e ≡ Ok effect.Counted →
    entry.reply ≡ reply_to w.config.roles at (history_of at w.run) e →
    IsStepAnswer w step (result_reply w (Ok (outcome.Recorded entry)))
recorded_told w step at e entry arrives' counts due =
    recorded_answer w step at e (Ok (of_reply w entry.reply)) arrives' counts (ap (of_reply w) due) tt

-- what nothing refuses comes to its node
pub comes : (w : WorldValue) (step : Step) (p : PacketValue) (to : ℕ) → to ≡ p.to → arrival w step ≡ arrives w p →
    is_correct_in w p.to ≡ true → is_pool_full w ≡ false → arrival w step ≡ Ok (Some (to, event.Take p))
comes w step p to here at correct room = at ∙ rw (here, correct, room) refl

-- what was looked up in a world stands in the pool of the same world
pub stands_in : (v w : WorldValue) (k : ℕ) (p : PacketValue) → v ≡ w → Some p ≡ slice_get (pool w.config w.run) k →
    slice_get (pool v.config v.run) k ≡ Some p
stands_in v w k p same at = ap (λ u. slice_get (pool u.config u.run) k) same ∙ sym at
