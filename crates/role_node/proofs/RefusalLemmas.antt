-- Want of memory is no refusal that is due.
use Rattle.std.proofs.Common.{◌≡◌, ℕ, Bool, true, false, List, length, Option}
use Rattle.std.proofs.Common.{Some, None, Result, Ok, Err, refl, ap, ◌∙◌}
use Rattle.std.specs.Prelude.{if◌then◌else◌, nat_le, option_map}
use Rattle.std.specs.FinMap as map
use Rattle.role_commands.specs.Tables.{Table}
use Rattle.link_frames.specs.frames.Packets.{PacketValue}
use Rattle.bracha_instance.specs.declared.instance.Effect.{Effect}
use Rattle.bracha_instance.specs.declared.instance.Effect.TheVariants as effect
use Rattle.owner_streams.specs.Steps.{step_of, step_due, effect_due}
use Rattle.owner_streams.specs.declared.steps.StreamStep.{StreamStep}
use Rattle.owner_streams.specs.declared.steps.StreamFault.TheVariants as stream_fault
use Rattle.role_sessions.specs.Sessions.{Session, SessionState}
use Rattle.role_sessions.specs.Decisions.{Relations}
use Rattle.role_sessions.specs.Refusals.{activate_in, drop_due, close_due}
use Rattle.role_sessions.specs.declared.event.ClientEvent.{ClientEvent}
use Rattle.role_sessions.specs.declared.event.ClientEvent.TheVariants.{Open, Activate, DropRole, Close}
use Rattle.role_sessions.specs.declared.faults.SessionFault.{SessionFault}
use Rattle.role_sessions.specs.declared.faults.SessionFault.TheVariants as session
use Rattle.role_sessions.specs.declared.faults.EndFault.{EndFault}
use Rattle.role_node.specs.Access.{relations_at, sessions_at}
use Rattle.role_node.specs.Configs.{ConfigValue}
use Rattle.role_node.specs.Faults.{of_session_fault}
use Rattle.role_node.specs.Histories.{packets}
use Rattle.role_node.specs.Answers.{outlook, outlook_with_room, take_outlook, act_fault, unless_full, or_counted}
use Rattle.role_node.specs.Answers.{of_effect_due, is_routed, answer_due, answered, reply_to, IsAnswer}
use Rattle.role_node.specs.declared.event.Event.{Event}
use Rattle.role_node.specs.declared.event.Event.TheVariants.{Issue, Take, Client}
use Rattle.role_node.specs.declared.event.Reply.{Reply}
use Rattle.role_node.specs.declared.faults.NodeFault.{NodeFault}
use Rattle.role_node.specs.declared.faults.NodeFault.TheVariants as fault

abbrev IsOther : Option NodeFault → Type 0
IsOther o = o ≡ Some fault.Memory → ⊥

issue_other : (a b c : Bool)
    → IsOther (if a then Some fault.NotMine
    else (if b then Some fault.StreamFull else (if c then Some fault.Busy else None)))
issue_other true b c e = cc
issue_other false true c e = cc
issue_other false false true e = cc
issue_other false false false e = cc

session_other : (o : Option SessionFault) → (o ≡ Some session.Memory → ⊥) → IsOther (option_map of_session_fault o)
session_other None h e = cc
session_other (Some session.Memory) h e = h refl
session_other (Some f) h e = cc

open_other : (b : Bool)
    → ◌≡◌ {A = Option SessionFault} (if b then Some session.TooManySessions else None) (Some session.Memory)
    → ⊥
open_other true e = cc
open_other false e = cc

activate_other : (a b c d f : Bool) →
    ◌≡◌ {A = Option SessionFault}
    (if a then Some session.NotYours
    else (if b then Some session.NoSuchRole
    else (if c then Some session.NotAssigned
    else (if d then Some session.AlreadyActive
    else (if f then Some session.TooManyRoles
    else None))))) (Some session.Memory) → ⊥
activate_other true b c d f e = cc
activate_other false true c d f e = cc
activate_other false false true d f e = cc
activate_other false false false true f e = cc
activate_other false false false false true e = cc
activate_other false false false false false e = cc

activate_in_other : (roles : Table) (relations : Relations) (found : Option Session) (user role : ℕ) →
    activate_in roles relations found user role ≡ Some session.Memory → ⊥
activate_in_other roles relations None user role e = cc
activate_in_other roles relations (Some found) user role e = activate_other _ _ _ _ _ e

end_other : (o : Option EndFault) → IsOther (option_map fault.End o)
end_other None e = cc
end_other (Some f) e = cc

act_other : (roles : Table) (relations : Relations) (sessions : SessionState) (act : ClientEvent)
    → IsOther (act_fault roles relations sessions act)
act_other roles relations sessions (Open user) = session_other _ (open_other _)
act_other roles relations sessions (Activate s user role) =
    session_other _ (activate_in_other roles relations (map.get sessions.open_sessions s) user role)
act_other roles relations sessions (DropRole s user role) = end_other (drop_due sessions s user role)
act_other roles relations sessions (Close s user) = end_other (close_due sessions s user)

or_counted_other : (o : Option NodeFault) → IsOther o → or_counted o ≡ Err fault.Memory → ⊥
or_counted_other None h e = cc
or_counted_other (Some f) h e = let same : f ≡ fault.Memory = cc in h (ap Some same)

step_other : (routed beyond : Bool) (place end : ℕ) (step : StreamStep) →
    ◌≡◌ {A = Result Effect NodeFault}
    (if routed then of_effect_due (effect_due (if beyond then Err (stream_fault.Beyond place end) else Ok step))
    else Err fault.Misrouted) (Err fault.Memory) → ⊥
step_other false beyond place end step e = cc
step_other true true place end step e = cc
step_other true false place end step e = cc

take_other : (roles : Table) (me : ℕ) (history : List Event) (p : PacketValue)
    → take_outlook roles me history p ≡ Err fault.Memory → ⊥
unfolding step_due
take_other roles me history p e =
    step_other (is_routed roles.sizes me p) _ _ _ (step_of roles.sizes (packets history) p) e

early_other : (roles : Table) (me : ℕ) (history : List Event) (event : Event)
    → outlook_with_room roles me history event ≡ Err fault.Memory → ⊥
early_other roles me history (Issue c) e = or_counted_other _ (issue_other _ _ _) e
early_other roles me history (Take p) e = take_other roles me history p e
early_other roles me history (Client act) e =
    or_counted_other _ (act_other roles (relations_at roles history) (sessions_at history) act) e

full_other : (full : Bool) (r : Result Effect NodeFault) → (r ≡ Err fault.Memory → ⊥)
    → unless_full full r ≡ Err fault.Memory → ⊥
full_other full (Ok effect.Idle) h e = cc
full_other true (Ok effect.Counted) h e = cc
full_other false (Ok effect.Counted) h e = cc
full_other full (Err f) h e = h e

not_memory : (config : ConfigValue) (me : ℕ) (history : List Event) (event : Event)
    → outlook config me history event ≡ Err fault.Memory → ⊥
not_memory config me history event e =
    full_other (nat_le config.limit (length history)) (outlook_with_room config.roles me history event)
    (early_other config.roles me history event) e

is_refusal : (due : Result Reply NodeFault) (f : NodeFault) → due ≡ Err f → (f ≡ fault.Memory → ⊥)
    → IsAnswer due (Err f)
is_refusal due fault.Memory e h = absurd (h refl)
is_refusal due f e h = e

-- a refusal is the answer that is due
pub refused_is_due : (config : ConfigValue) (me : ℕ) (history : List Event) (event : Event) (f : NodeFault) →
    outlook config me history event ≡ Err f → IsAnswer (answer_due config me history event) (Err f)
refused_is_due config me history event f e =
    is_refusal (answer_due config me history event) f
    (ap (λ o. answered o (reply_to config.roles me history event)) e)
    (λ m. not_memory config me history event (e ∙ ap Err m))
