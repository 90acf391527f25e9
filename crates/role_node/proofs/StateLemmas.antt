-- The state after one more event.
use Rattle.std.proofs.Common.{◌≡◌, ℕ, ◌+◌, ◌≤◌, Bool, true, false, List, [], ◌∷◌, ◌++◌}
use Rattle.std.proofs.Common.{Result, Ok, Err, sym, ap, ◌∙◌, subst, le_refl, arith}
use Rattle.std.specs.Prelude.{if◌then◌else◌, nat_le, OnErr}
use Rattle.std.proofs.lemmas.List.Elements.{All-nil, All-push}
use Rattle.quorum_sizes.specs.Sizes.{Counts}
use Rattle.role_commands.specs.Tables.{Table}
use Rattle.role_commands.specs.declared.command.Command.{Command}
use Rattle.link_frames.specs.frames.Packets.{PacketValue, SentByOwner}
use Rattle.owner_streams.specs.Places.{stream, reach}
use Rattle.owner_streams.specs.Steps.{step_of, step_due}
use Rattle.owner_streams.specs.Values.{IsStateOf}
use Rattle.owner_streams.specs.declared.steps.StreamStep.{StreamStep}
use Rattle.rbac_state.specs.Policies.{PolicyValue, IsBlank, SameRelations, IsPolicyOf}
use Rattle.rbac_state.proofs.Exported.{blank_is_of_no_commands, same_is_of_the_same}
use Rattle.role_sessions.proofs.Exported.{relations_stay}
use Rattle.role_sessions.specs.Sessions.{state_of, Happened}
use Rattle.role_sessions.specs.Decisions.{Relations, relations_of}
use Rattle.role_sessions.specs.Kept.{SessionsValue, KeptAreRight, KeepsRight}
use Rattle.role_sessions.specs.declared.event.ClientEvent.{ClientEvent}
use Rattle.role_node.specs.Histories.{packets, client_events}
use Rattle.role_node.specs.inside.Kept.{ArePartsOf, IsStateAfter, Stays, obeyed}
use Rattle.role_node.specs.declared.event.Event.{Event}
use Rattle.role_node.specs.declared.event.Event.TheVariants.{Issue, Take, Client}
use Rattle.role_node.specs.declared.state.State.{State}
use Rattle.role_node.proofs.HistoryLemmas.{issued-Issue, issued-Take, issued-Client, packets-Issue, packets-Take}
use Rattle.role_node.proofs.HistoryLemmas.{packets-Client, client_events-Issue, client_events-Take}
use Rattle.role_node.proofs.HistoryLemmas.{client_events-Client, issued-none, packets-none, client_events-none}
use Rattle.role_node.proofs.StreamLemmas.{obeyed_none, obeyed_all, policy_same, stream_same, stream_of_nothing}

parts_same : {roles : Table} {commands commands' : List Command} {taken taken' : List PacketValue}
    {acts acts' : List ClientEvent} {a : State} → commands ≡ commands' → taken ≡ taken' → acts ≡ acts' →
    ArePartsOf roles commands' taken' acts' a → ArePartsOf roles commands taken acts a
parts_same {roles = roles} {commands = commands} {commands' = commands'} {taken = taken} {taken' = taken'} {acts =
    acts} {a = a}
    c t e h =
    let P : List Command → Type 0 = λ x. ArePartsOf roles x taken acts a in
    let Q : List PacketValue → Type 0 = λ x. ArePartsOf roles commands' x acts a in
    let R : List ClientEvent → Type 0 = λ x. ArePartsOf roles commands' taken' x a in
    subst P (sym c) (subst Q (sym t) (subst R (sym e) h))

-- answers that were right under a policy are so with more room in it
pub kept_with_room : {old new : PolicyValue} (sessions : SessionsValue) → SameRelations old new →
    KeptAreRight (relations_of old) sessions → KeptAreRight (relations_of new) sessions
kept_with_room {old = old} {new = new} sessions same h =
    let P : Relations → Type 0 = λ relations. KeptAreRight relations sessions in
    subst P (sym (relations_stay old new same)) h

pub after_issue : (roles : Table) (history : List Event) (c : Command) {old new : State}
    → IsStateAfter roles history old →
    new.issued.items ≡ old.issued.items ++ c ∷ [] → new.streams ≡ old.streams → new.policy ≡ old.policy
    → new.sessions ≡ old.sessions →
    IsStateAfter roles (history ++ Issue c ∷ []) new
after_issue roles history c h i s p t =
    parts_same (issued-Issue history c) (packets-Issue history c) (client_events-Issue history c)
    (record {
      issued = i ∙ ap (λ commands. commands ++ c ∷ []) h.issued;
      sizes = ap (λ streams. streams.sizes) s ∙ h.sizes;
      streams = rw s h.streams;
      sends = h.sends;
      table = ap (λ policy. policy.table) p ∙ h.table;
      policy = rw p h.policy;
      sessions = ap (λ sessions. sessions.state) t ∙ h.sessions;
      kept = rw (p, t) h.kept;
    })

pub after_act : (roles : Table) (history : List Event) {act a : ClientEvent} {old new : State}
    → IsStateAfter roles history old
    → act ≡ a →
    Happened a old.sessions.state new.sessions.state → KeepsRight old.sessions new.sessions →
    new.issued ≡ old.issued → new.streams ≡ old.streams → new.policy ≡ old.policy →
    IsStateAfter roles (history ++ Client act ∷ []) new
after_act roles history {act = act} {old = old} h e happened keeps i s p =
    parts_same (issued-Client history act) (packets-Client history act) (client_events-Client history act)
    (record {
      issued = ap (λ items. items.items) i ∙ h.issued;
      sizes = ap (λ streams. streams.sizes) s ∙ h.sizes;
      streams = rw s h.streams;
      sends = h.sends;
      table = ap (λ policy. policy.table) p ∙ h.table;
      policy = rw p h.policy;
      sessions = happened (client_events history) h.sessions
          ∙ ap (λ x. state_of (client_events history ++ x ∷ [])) (sym e);
      kept = rw p (keeps (relations_of old.policy) h.kept);
    })

-- what a packet needs of the parts that it changes
pub after_take : (roles : Table) (history : List Event) (p : PacketValue) {old new : State}
    → IsStateAfter roles history old →
    SentByOwner p → new.issued ≡ old.issued → new.streams.sizes ≡ old.streams.sizes →
    IsStateOf new.streams (packets history ++ p ∷ []) → new.policy.table ≡ old.policy.table →
    IsPolicyOf (λ owner. stream roles.sizes owner (packets history ++ p ∷ [])) new.policy →
    new.sessions.state ≡ old.sessions.state → KeptAreRight (relations_of new.policy) new.sessions →
    IsStateAfter roles (history ++ Take p ∷ []) new
after_take roles history p h sent i s streams t policy sessions kept =
    parts_same (issued-Take history p) (packets-Take history p) (client_events-Take history p)
    (record {
      issued = ap (λ items. items.items) i ∙ h.issued;
      sizes = s ∙ h.sizes;
      streams = streams;
      sends = All-push SentByOwner (packets history) p h.sends sent;
      table = t ∙ h.table;
      policy = policy;
      sessions = sessions ∙ h.sessions;
      kept = kept;
    })

-- room in the policy changes nothing
pub stays_with_room : (roles : Table) (history : List Event) {old new : State} → IsStateAfter roles history old →
    new.issued ≡ old.issued → new.streams ≡ old.streams → SameRelations old.policy new.policy
    → new.sessions ≡ old.sessions →
    IsStateAfter roles history new
stays_with_room roles history {old = old} {new = new} h i s same t =
    record {
      issued = ap (λ items. items.items) i ∙ h.issued;
      sizes = ap (λ streams. streams.sizes) s ∙ h.sizes;
      streams = rw s h.streams;
      sends = h.sends;
      table = same.table ∙ h.table;
      policy =
          same_is_of_the_same (λ owner. stream roles.sizes owner (packets history)) old.policy new.policy h.policy same;
      sessions = ap (λ sessions. sessions.state) t ∙ h.sessions;
      kept = rw t (kept_with_room old.sessions same h.kept);
    }

ok_is : {A E : Type 0} (b : Bool) (e : E) (x y : A) → ◌≡◌ {A = Result A E} (if b then Err e else Ok x) (Ok y) → x ≡ y
ok_is true e x y h = absurd cc
ok_is false e x y h = cc

-- the step that is due is what the packet causes
pub step_is_due : (s : Counts) (taken : List PacketValue) (p : PacketValue) (step : StreamStep)
    → step_due s taken p ≡ Ok step
    → step_of s taken p ≡ step
unfolding step_due
step_is_due s taken p step e = ok_is (nat_le (reach s p.owner taken + 64) p.place) _ (step_of s taken p) step e

-- the policy after the packet, where the new commands of its owner's stream were obeyed
pub policy_grown : (s : Counts) (taken : List PacketValue) (p : PacketValue) {step : StreamStep} {sizes : Counts}
    {owner : ℕ}
    {old room new : PolicyValue} → sizes ≡ s → owner ≡ p.owner → step_of s taken p ≡ step →
    IsPolicyOf (λ o. stream s o taken) old → SameRelations old room →
    (IsPolicyOf (obeyed sizes (taken ++ p ∷ []) owner step.from) room →
    IsPolicyOf (obeyed sizes (taken ++ p ∷ []) owner step.to) new) →
    IsPolicyOf (λ o. stream s o (taken ++ p ∷ [])) new
policy_grown s taken p {step = step} {sizes = sizes} {owner = owner} {old = old} {room = room} {new =
    new} es eo e was same obeys =
    let from : step.from ≡ reach s p.owner taken = ap (λ x. x.from) (sym e) in
    let to : step.to ≡ reach s p.owner (taken ++ p ∷ []) = ap (λ x. x.to) (sym e) in
    let after : List PacketValue = taken ++ p ∷ [] in
    let before : IsPolicyOf (obeyed s after p.owner (reach s p.owner taken)) room =
    policy_same (λ o. stream s o taken) (obeyed s after p.owner (reach s p.owner taken)) room (λ node.
    sym (obeyed_none s taken p node))
    (same_is_of_the_same (λ o. stream s o taken) old room was same) in
    let now : IsPolicyOf (obeyed sizes after owner step.to) new = obeys (rw (es, eo, from) before) in
    let of_sizes : Counts → Type 0 = λ z. IsPolicyOf (obeyed z after owner step.to) new in
    let of_owner : ℕ → Type 0 = λ o. IsPolicyOf (obeyed s after o step.to) new in
    let of_end : ℕ → Type 0 = λ n. IsPolicyOf (obeyed s after p.owner n) new in
    let then' : IsPolicyOf (obeyed s after p.owner (reach s p.owner after)) new =
    subst of_end to (subst of_owner eo (subst of_sizes es now)) in
    policy_same (obeyed s after p.owner (reach s p.owner after)) (λ o.
    stream s o after) new (obeyed_all s after p.owner (reach s p.owner after) (le_refl _)) then'

-- .. and where the stream did not grow
pub policy_stays : (s : Counts) (taken : List PacketValue) (p : PacketValue) {step : StreamStep}
    {old room : PolicyValue} →
    step_of s taken p ≡ step → step.to ≤ step.from →
    IsPolicyOf (λ o. stream s o taken) old → SameRelations old room →
    IsPolicyOf (λ o. stream s o (taken ++ p ∷ [])) room
policy_stays s taken p {step = step} {old = old} {room = room} e no_more was same =
    let from : step.from ≡ reach s p.owner taken = ap (λ x. x.from) (sym e) in
    let to : step.to ≡ reach s p.owner (taken ++ p ∷ []) = ap (λ x. x.to) (sym e) in
    let no_further : reach s p.owner (taken ++ p ∷ []) ≤ reach s p.owner taken = omega arith in
    policy_same (λ o. stream s o taken) (λ o. stream s o (taken ++ p ∷ [])) room (stream_same s taken p no_further)
    (same_is_of_the_same (λ o. stream s o taken) old room was same)

pub none_kept : (relations : Relations) (sessions : SessionsValue) → sessions.kept ≡ []
    → KeptAreRight relations sessions
none_kept relations sessions e = rw e (All-nil _)

-- a blank policy is that of no packets
pub blank_policy : (roles : Table) (streams : ℕ → List Command) (p : PolicyValue) → ((node : ℕ) → streams node ≡ [])
    → IsBlank roles p → IsPolicyOf streams p
blank_policy roles streams p nothing blank =
    policy_same (λ node. []) streams p (λ node. sym (nothing node))
    (blank_is_of_no_commands roles p blank)

-- a refusal keeps the state, with what room was made
pub stays_on_err : {X Fault : Type 0} (r : Result X Fault) {old new : State} → new.issued ≡ old.issued
    → new.streams ≡ old.streams →
    SameRelations old.policy new.policy → new.sessions ≡ old.sessions → OnErr r (Stays old new)
stays_on_err (Ok reply) i s same t = tt
stays_on_err (Err f) i s same t = λ roles history h. stays_with_room roles history h i s same t

-- the parts before the first event
pub parts_of_nothing : (roles : Table) {a : State} → a.issued.items ≡ [] → a.streams.sizes ≡ roles.sizes
    → IsStateOf a.streams [] →
    IsBlank roles a.policy → a.sessions.state ≡ state_of [] → a.sessions.kept ≡ [] → IsStateAfter roles [] a
parts_of_nothing roles {a = a} i s streams blank t kept =
    parts_same issued-none packets-none client_events-none
    (record {
      issued = i;
      sizes = s;
      streams = streams;
      sends = All-nil SentByOwner;
      table = blank.table;
      policy = blank_policy roles (λ owner. stream roles.sizes owner []) a.policy (stream_of_nothing roles.sizes) blank;
      sessions = t;
      kept = none_kept (relations_of a.policy) a.sessions kept;
    })
