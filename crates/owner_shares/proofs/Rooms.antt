-- What has a share finds room.
use Rattle.std.proofs.Common.{◌≡◌, ◌≢◌, ℕ, ◌+◌, ◌<◌, ◌≤◌, ⊎_elim, Bool, true, false, not, List, [], ◌∷◌, ◌++◌}
use Rattle.std.proofs.Common.{length, take, Option, Some, None, Result, Ok, Err, refl, sym, ap, ◌∙◌, subst, arith}
use Rattle.std.proofs.Common.{length-append}
use Rattle.std.specs.Prelude.{if◌then◌else◌, nat_le, slice_get, option_map, IsTrue}
use Rattle.std.proofs.Math.Seq.{take-append_seam}
use Rattle.std.proofs.lemmas.Bool.Decides.{nat_tests}
use Rattle.std.proofs.lemmas.List.{take-append-le}
use Rattle.role_commands.specs.Tables.{Table}
use Rattle.bracha_instance.specs.declared.instance.Effect.{Effect}
use Rattle.bracha_instance.specs.declared.instance.Effect.TheVariants as effect
use Rattle.owner_streams.specs.Steps.{step_due, effect_due}
use Rattle.owner_streams.specs.declared.steps.StreamFault.{StreamFault}
use Rattle.owner_streams.specs.declared.steps.StreamFault.TheVariants as stream
use Rattle.role_sessions.specs.Refusals.{open_due, activate_due, drop_due, close_due}
use Rattle.role_sessions.specs.declared.event.ClientEvent.TheVariants.{Open, Activate, DropRole, Close}
use Rattle.role_sessions.specs.declared.faults.SessionFault.{SessionFault}
use Rattle.role_sessions.specs.declared.faults.SessionFault.TheVariants as session
use Rattle.role_sessions.specs.declared.faults.EndFault.{EndFault}
use Rattle.role_node.specs.Access.{relations_at, sessions_at}
use Rattle.role_node.specs.Answers.{or_counted, is_routed, of_effect_due}
use Rattle.role_node.specs.Answers.{outlook, outlook_with_room, unless_full, answered, answer_due, reply_to, is_recorded}
use Rattle.role_node.specs.Answers.{IsLegal}
use Rattle.role_node.specs.Configs.{ConfigValue, most_events}
use Rattle.role_node.specs.Faults.{of_session_fault}
use Rattle.role_node.specs.Histories.{packets}
use Rattle.role_node.specs.declared.event.Event.{Event}
use Rattle.role_node.specs.declared.event.Event.TheVariants as event
use Rattle.role_node.specs.declared.event.Reply.{Reply}
use Rattle.role_node.specs.declared.faults.NodeFault.{NodeFault}
use Rattle.role_node.specs.declared.faults.NodeFault.TheVariants as fault
use Rattle.role_node.proofs.Exported.{at_push, legal_within}
use Rattle.owner_shares.specs.Laws.{AreSound, IsWithinShares, HasShare, NeverFull}
use Rattle.owner_shares.proofs.Short.{shares_hold}
use Rattle.owner_shares.proofs.Stays.{spends}

-- Room apart, nothing is refused since the history is full.

abbrev Due : Type 0
Due = Result Effect NodeFault

abbrev IsOther : Due → Type 0
IsOther due = ◌≡◌ {A = Due} due (Err fault.Full) → ⊥

issue_is_other : (owned spent busy : Bool) →
    IsOther (or_counted (if not owned then Some fault.NotMine
    else (if spent then Some fault.StreamFull else (if busy then Some fault.Busy else None))))
issue_is_other false spent busy e = cc
issue_is_other true true busy e = cc
issue_is_other true false true e = cc
issue_is_other true false false e = cc

effect_is_other : (due : Result Effect StreamFault) → IsOther (of_effect_due due)
effect_is_other (Ok x) e = cc
effect_is_other (Err (stream.Beyond place end)) e = cc
effect_is_other (Err stream.Memory) e = cc

take_is_other : (routed : Bool) (due : Result Effect StreamFault) →
    IsOther (if routed then of_effect_due due else Err fault.Misrouted)
take_is_other true due e = effect_is_other due e
take_is_other false due e = cc

session_is_other : (o : Option SessionFault) → IsOther (or_counted (option_map of_session_fault o))
session_is_other None e = cc
session_is_other (Some session.NoSession) e = cc
session_is_other (Some session.NotYours) e = cc
session_is_other (Some session.TooManySessions) e = cc
session_is_other (Some session.NoSuchRole) e = cc
session_is_other (Some session.NotAssigned) e = cc
session_is_other (Some session.AlreadyActive) e = cc
session_is_other (Some session.TooManyRoles) e = cc
session_is_other (Some session.Memory) e = cc

end_is_other : (o : Option EndFault) → IsOther (or_counted (option_map fault.End o))
end_is_other None e = cc
end_is_other (Some f) e = cc

other_with_room : (roles : Table) (me : ℕ) (history : List Event) (e : Event) →
    IsOther (outlook_with_room roles me history e)
other_with_room roles me history (event.Issue c) = issue_is_other _ _ _
other_with_room roles me history (event.Take p) =
    take_is_other (is_routed roles.sizes me p) (effect_due (step_due roles.sizes (packets history) p))
other_with_room roles me history (event.Client (Open user)) = session_is_other (open_due (sessions_at history))
other_with_room roles me history (event.Client (Activate id user role)) =
    session_is_other (activate_due roles (relations_at roles history) (sessions_at history) id user role)
other_with_room roles me history (event.Client (DropRole id user role)) =
    end_is_other (drop_due (sessions_at history) id user role)
other_with_room roles me history (event.Client (Close id user)) = end_is_other (close_due (sessions_at history) id user)

answer_is_other : (due : Due) (r : Reply) → IsOther due → answered due r ≢ Err fault.Full
answer_is_other (Ok effect.Idle) r other e = cc
answer_is_other (Ok effect.Counted) r other e = cc
answer_is_other (Err f) r other e = other (cc)

-- With room for one event more.

abbrev roomier : ConfigValue → ConfigValue
roomier config = record config { limit = config.limit + 1 }

recorded_still : (full fuller : Bool) (due : Due) (r : Reply) → (full ≡ false → fuller ≡ false) →
    is_recorded (answered (unless_full full due) r) ≡ true → is_recorded (answered (unless_full fuller due) r) ≡ true
recorded_still full fuller (Ok effect.Idle) r room e = e
recorded_still true fuller (Ok effect.Counted) r room e = absurd cc
recorded_still false fuller (Ok effect.Counted) r room e =
    ap (λ b. is_recorded (answered (unless_full b (Ok effect.Counted)) r)) (room refl) ∙ e
recorded_still full fuller (Err f) r room e = e

more_room : (limit n : ℕ) → nat_le limit n ≡ false → nat_le (limit + 1) n ≡ false
more_room limit n e = grind (arith, nat_tests)

legal_still : (config : ConfigValue) (me : ℕ) (history : List Event) → IsLegal config me history →
    IsLegal (roomier config) me history
legal_still config me history legal k e at =
    let past : List Event = take k history in
    recorded_still (nat_le config.limit (length past)) (nat_le (config.limit + 1) (length past))
    (outlook_with_room config.roles me past e) (reply_to config.roles me past e)
    (more_room config.limit (length past)) (legal k e at)

legal_push : (config : ConfigValue) (me : ℕ) (history : List Event) (e : Event) → IsLegal config me history →
    is_recorded (answer_due config me history e) ≡ true → IsLegal config me (history ++ e ∷ [])
legal_push config me history e legal recorded k f at =
    let P : List Event → Type 0 = λ past. IsTrue (is_recorded (answer_due config me past f)) in
    ⊎_elim
    (λ (h : (k < length history) × (slice_get history k ≡ Some f)).
    subst P (sym (take-append-le k history (e ∷ []) (omega (arith, h.0)))) (legal k f h.1))
    (λ (h : (k ≡ length history) × (e ≡ f)).
    let Q : Event → Type 0 = λ x. IsTrue (is_recorded (answer_due config me history x)) in
    let past : take k (history ++ e ∷ []) ≡ history =
    ap (λ n. take n (history ++ e ∷ [])) h.0 ∙ take-append_seam history (e ∷ []) in
    subst P (sym past) (subst Q h.1 recorded))
    (at_push history e k f at)

not_yet_full : (limit n : ℕ) → n ≤ limit → nat_le (limit + 1) n ≡ false
not_yet_full limit n le = grind (arith, nat_tests)

reply_is_recorded : (roles : Table) (me : ℕ) (history : List Event) (e : Event) →
    is_recorded (Ok (reply_to roles me history e)) ≡ true
reply_is_recorded roles me history (event.Issue c) = refl
reply_is_recorded roles me history (event.Take p) = refl
reply_is_recorded roles me history (event.Client (Open user)) = refl
reply_is_recorded roles me history (event.Client act) = refl

-- what counts is recorded where there is room for one event more
counts_once_more : (config : ConfigValue) (me : ℕ) (history : List Event) (e : Event) → IsLegal config me history →
    outlook_with_room config.roles me history e ≡ Ok effect.Counted →
    is_recorded (answer_due (roomier config) me history e) ≡ true
counts_once_more config me history e legal counts =
    let room : nat_le (config.limit + 1) (length history) ≡ false =
    not_yet_full config.limit (length history) (legal_within config me history legal) in
    ap (λ (due : Due). is_recorded (answered (unless_full (nat_le (config.limit + 1) (length history)) due)
    (reply_to config.roles me history e))) counts
    ∙ ap (λ b. is_recorded (answered (unless_full b (Ok effect.Counted)) (reply_to config.roles me history e))) room
    ∙ reply_is_recorded config.roles me history e

spare : (limit n : ℕ) → n < limit → nat_le limit n ≡ false
spare limit n h = grind (arith, nat_tests)

-- so with it the history is short, and before it there was room
has_room : (config : ConfigValue) (me : ℕ) (history : List Event) (e : Event) → config.limit ≡ most_events →
    IsLegal config me history → AreSound (history ++ e ∷ []) → IsWithinShares config.roles me history →
    HasShare config.roles me history e → outlook_with_room config.roles me history e ≡ Ok effect.Counted →
    nat_le config.limit (length history) ≡ false
has_room config me history e most legal sound within has counts =
    let more : ConfigValue = roomier config in
    let recorded = counts_once_more config me history e legal counts in
    let before = legal_still config me history legal in
    let after = legal_push more me history e before recorded in
    let stays = spends more me history e before has recorded within in
    let short = shares_hold more me (history ++ e ∷ []) after sound stays in
    spare config.limit (length history)
    (omega (arith, short.room, length-append history (e ∷ []), most))

unless_it_counts : (full : Bool) (due : Due) → (due ≡ Ok effect.Counted → full ≡ false) → unless_full full due ≡ due
unless_it_counts full (Ok effect.Idle) room = refl
unless_it_counts true (Ok effect.Counted) room = absurd (let clash = room refl in cc)
unless_it_counts false (Ok effect.Counted) room = refl
unless_it_counts full (Err f) room = refl

pub never_full : NeverFull
never_full config me history e most legal sound within has =
    let with_room : Due = outlook_with_room config.roles me history e in
    let same : outlook config me history e ≡ with_room =
    unless_it_counts (nat_le config.limit (length history)) with_room
    (has_room config me history e most legal sound within has) in
    record {
      room = same;
      not_full = answer_is_other (outlook config me history e) (reply_to config.roles me history e)
          (subst IsOther (sym same) (other_with_room config.roles me history e));
      stays = λ recorded. spends config me history e legal has recorded within;
    }
