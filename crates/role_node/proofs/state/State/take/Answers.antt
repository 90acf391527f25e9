use Rattle.std.proofs.Common.{◌≡◌, [], ◌∷◌, ◌++◌, Ok, refl, sym, ap, ◌∙◌, subst, arith}
use Rattle.owner_streams.specs.Steps.{step_of, step_due}
use Rattle.owner_streams.specs.declared.steps.StreamStep.{StreamStep}
use Rattle.role_sessions.specs.Decisions.{relations_of}
use Rattle.role_node.specs.Answers.{EntryValue, counted_reply}
use Rattle.role_node.specs.inside.Entries.{IsOwn}
use Rattle.role_node.specs.Histories.{packets}
use Rattle.role_node.specs.declared.event.Event.TheVariants.{Take}
use Rattle.role_node.proofs.StateLemmas.{after_take, stays_on_err, step_is_due}
use Rattle.role_node.proofs.StateLemmas.{policy_grown, policy_stays, kept_with_room}
use Rattle.role_node.proofs.CauseLemmas.{step_is_own}
use Rattle.role_node.proofs.state.State.take.Goals as goal
use Rattle.role_node.proofs.state.State.take.Goals.{then-step, else-step}

pub returns-in_err-make_room-clause-err : goal.returns-in_err-make_room-clause-err
returns-in_err-make_room-clause-err c =
    stays_on_err c.from_residual.result refl refl c.make_room.ensures.same refl

pub returns-in_err-step-clause-err : goal.returns-in_err-step-clause-err
returns-in_err-step-clause-err c =
    stays_on_err c.from_residual-in_err-step.result refl c.in_err-step.ensures.err
    c.make_room.ensures.same refl

pub taken-requires-clause-own : goal.taken-requires-clause-own
taken-requires-clause-own c =
    let roles = c.requires.reached.0 in
    let history = c.requires.reached.1 in
    let h = c.requires.reached.2 in
    let due : step_due roles.sizes (packets history) c.args.packet.now ≡ Ok c.in_ok-step.step =
    rw (← h.sizes) (c.in_ok-step.ensures.due (packets history) h.streams h.sends) in
    subst (IsOwn c.args.packet.now.command)
    (step_is_due roles.sizes (packets history) c.args.packet.now c.in_ok-step.step due)
    (step_is_own roles.sizes (packets history) c.args.packet.now)

pub returns-clause-entry : goal.returns-clause-entry
returns-clause-entry c me roles history h =
    let p = c.args.packet.now in
    let due : step_due roles.sizes (packets history) p ≡ Ok c.in_ok-step.step =
    rw (← h.sizes) (c.in_ok-step.ensures.due (packets history) h.streams h.sends) in
    let entry : StreamStep → EntryValue = λ step. record { event = Take p; reply = counted_reply p step } in
    c.taken.ensures ∙ ap entry (sym (step_is_due roles.sizes (packets history) p c.in_ok-step.step due))

pub returns-clause-ok : goal.returns-clause-ok
returns-clause-ok c roles history h =
    let p = c.args.packet.now in
    let due : step_due roles.sizes (packets history) c.args.packet.now ≡ Ok c.in_ok-step.step =
    rw (← h.sizes) (c.in_ok-step.ensures.due (packets history) h.streams h.sends) in
    let is : step_of roles.sizes (packets history) c.args.packet.now ≡ c.in_ok-step.step =
    step_is_due roles.sizes (packets history) c.args.packet.now c.in_ok-step.step due in
    elim c.if-step.branch [
      | then-step w ↦
          rw w.self-is
          (after_take roles history p h c.message-message.ensures.kept.0 refl c.take_new.ensures.sizes
          (c.in_ok-step.ensures.state (packets history) h.streams)
          (w.obey.ensures.table ∙ c.make_room.ensures.same.table)
          (policy_grown roles.sizes (packets history) p
          (c.take_new.ensures.sizes
          ∙ h.sizes) (ap (λ m. m.owner) c.message-message.ensures.value) is h.policy c.make_room.ensures.same
          (w.obey.ensures.policy (packets history ++ p ∷ []) (c.in_ok-step.ensures.state (packets history) h.streams)))
          w.forget_answers.ensures.state (w.forget_answers.ensures.kept (relations_of w.obey.new.policy)))
      | else-step w ↦
          rw w.self-is
          (after_take roles history p h c.message-message.ensures.kept.0 refl c.take_new.ensures.sizes
          (c.in_ok-step.ensures.state (packets history) h.streams)
          c.make_room.ensures.same.table
          (policy_stays roles.sizes (packets history) p is
          (omega arith) h.policy c.make_room.ensures.same)
          refl (kept_with_room c.args.self.now.sessions
          c.make_room.ensures.same h.kept))
    ]
