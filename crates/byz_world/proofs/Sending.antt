-- What one more event has a node send: its answer says it, and what was sent before stays.
use Rattle.std.proofs.Common.{◌≡◌, ℕ, ◌<◌, ◌⊎◌, inl, inr, ⊎_elim, Bool, true, false, cond, ◌&&◌, ◌==◌, List, [], ◌∷◌}
use Rattle.std.proofs.Common.{◌++◌, length, Option, Some, None, Result, Ok, Err, refl, sym, ap, ◌∙◌, subst}
use Rattle.std.specs.Prelude.{if◌then◌else◌, slice_get, option_map}
use Rattle.std.specs.Option.{option_or}
use Rattle.std.proofs.lemmas.List.Elements.{filter_map-append}
use Rattle.std.proofs.lemmas.Bool.{and_parts, eq-eqb}
use Rattle.std.proofs.lemmas.Option.{same_Some}
use Rattle.std.proofs.lemmas.Map.Views.{exact_unsigned_eq}
use Rattle.quorum_sizes.specs.Sizes.{Counts}
use Rattle.role_commands.proofs.Exported.{slice_get-seam}
use Rattle.role_commands.specs.Tables.{Table}
use Rattle.role_commands.specs.declared.command.Command.{Command}
use Rattle.link_frames.specs.declared.frames.kind.Kind.{Kind}
use Rattle.link_frames.specs.declared.frames.kind.Kind.TheVariants.{Send, Echo, Ready}
use Rattle.link_frames.specs.declared.frames.packet.Message.{Message}
use Rattle.link_frames.specs.frames.Packets.{PacketValue}
use Rattle.link_frames.specs.frames.Kinds.{same_kind}
use Rattle.bracha_instance.proofs.Exported as bracha
use Rattle.bracha_instance.specs.Broadcast.{Take, is_for, supporters, echoed, readied, may_ready}
use Rattle.bracha_instance.specs.Taking.{newly, sent_for, newly_sent}
use Rattle.bracha_instance.specs.declared.instance.Effect.{Effect}
use Rattle.bracha_instance.specs.declared.instance.Effect.TheVariants as effect
use Rattle.owner_streams.proofs.Exported.{takes_at-append, takes_at-own, takes_at-other}
use Rattle.owner_streams.specs.Places.{take_of, takes_at}
use Rattle.role_sessions.specs.declared.event.ClientEvent.TheVariants.{Open, Activate, DropRole, Close}
use Rattle.role_node.proofs.Exported.{at_push, issued-Issue, issued-Take, issued-Client}
use Rattle.role_node.proofs.Exported.{packets-Issue, packets-Take, packets-Client}
use Rattle.role_node.specs.Configs.{ConfigValue}
use Rattle.role_node.specs.Histories.{issued, packets, command_in, packet_in}
use Rattle.role_node.specs.Access.{sent_at}
use Rattle.role_node.specs.Answers.{outlook, answered, answer_due, reply_to, sent_by, sent_by_answer, is_recorded}
use Rattle.role_node.specs.Answers.{said_at}
use Rattle.role_node.specs.declared.event.Event.{Event}
use Rattle.role_node.specs.declared.event.Event.TheVariants as event
use Rattle.role_node.specs.declared.event.Reply.{Reply}
use Rattle.role_node.specs.declared.faults.NodeFault.{NodeFault}
use Rattle.byz_world.specs.Runs.{of_kind}
use Rattle.byz_world.proofs.Elements.{at_front}

-- what the node has sent of this message's kind, owner and place
abbrev pub said : Counts → ℕ → List Event → Message → Option Command
said s me history m = of_kind m.kind (sent_at s me history m.owner m.place)

-- An answer that records, or that sends, is the reply of an event that counts.

replied_by : (o : Result Effect NodeFault) (r : Reply) → is_recorded (answered o r) ≡ true → answered o r ≡ Ok r
replied_by (Ok effect.Idle) r e = absurd cc
replied_by (Ok effect.Counted) r e = refl
replied_by (Err f) r e = absurd cc

sends_by : (o : Result Effect NodeFault) (r : Reply) (m : Message) → sent_by_answer (answered o r) ≡ Some m
    → answered o r ≡ Ok r
sends_by (Ok effect.Idle) r m e = absurd cc
sends_by (Ok effect.Counted) r m e = refl
sends_by (Err f) r m e = absurd cc

-- What was sent stays.

issued-append : (before later : List Event) → issued (before ++ later) ≡ issued before ++ issued later
unfolding issued
issued-append before later = filter_map-append command_in before later

packets-append : (before later : List Event) → packets (before ++ later) ≡ packets before ++ packets later
unfolding packets
packets-append before later = filter_map-append packet_in before later

own_stays : (b : Bool) (xs ys : List Command) (k : ℕ) (c : Command) →
    ◌≡◌ {A = Option Command} (if b then slice_get xs k else None) (Some c) →
    ◌≡◌ {A = Option Command} (if b then slice_get (xs ++ ys) k else None) (Some c)
own_stays true xs ys k c e = at_front xs ys k c e
own_stays false xs ys k c e = absurd cc

takes_more : (owner place : ℕ) (before later : List Event) →
    takes_at owner place (packets (before ++ later))
    ≡ takes_at owner place (packets before) ++ takes_at owner place (packets later)
takes_more owner place before later =
    ap (takes_at owner place) (packets-append before later)
    ∙ takes_at-append owner place (packets before) (packets later)

stays_by : (s : Counts) (me : ℕ) (before later : List Event) (kind : Kind) (owner place : ℕ) (c : Command) →
    of_kind kind (sent_at s me before owner place) ≡ Some c
    → of_kind kind (sent_at s me (before ++ later) owner place) ≡ Some c
stays_by s me before later Send owner place c e =
    ap (λ cs. if owner == me then slice_get cs place else None) (issued-append before later)
    ∙ own_stays (owner == me) (issued before) (issued later) place c e
stays_by s me before later Echo owner place c e =
    ap echoed (takes_more owner place before later)
    ∙ bracha.echo_stays (takes_at owner place (packets before)) (takes_at owner place (packets later)) c e
stays_by s me before later Ready owner place c e =
    ap (readied s) (takes_more owner place before later)
    ∙ bracha.ready_stays s (takes_at owner place (packets before)) (takes_at owner place (packets later)) c e

pub said_stays : (s : Counts) (me : ℕ) (before later : List Event) (m : Message) (c : Command) →
    said s me before m ≡ Some c → said s me (before ++ later) m ≡ Some c
said_stays s me before later m c e = stays_by s me before later m.kind m.owner m.place c e

-- A SEND readies nothing.

not_a_send : (kind : Kind) → (kind ≡ Send → ⊥) → same_kind kind Send ≡ false
not_a_send Send other = absurd (other refl)
not_a_send Echo other = refl
not_a_send Ready other = refl

supporters_of_send : (kind : Kind) (c : Command) (ts : List Take) (t : Take) → (kind ≡ Send → ⊥) → t.kind ≡ Send →
    supporters kind c (ts ++ t ∷ []) ≡ supporters kind c ts
supporters_of_send kind c ts t other send =
    bracha.supporters_alike kind c ts (ts ++ t ∷ [])
    (λ q. ap (is_for c) (bracha.vote_push-other kind q ts t (ap (same_kind kind) send ∙ not_a_send kind other)))

send_readies_nothing : (s : Counts) (ts : List Take) (t : Take) → t.kind ≡ Send
    → readied s (ts ++ t ∷ []) ≡ readied s ts
send_readies_nothing s ts t send =
    bracha.readies_its_own s ts t
    ∙ bracha.or_else_if-never (readied s ts) (may_ready s (ts ++ t ∷ []) t.command) t.command
    (λ none.
    bracha.may_ready-alike s ts (ts ++ t ∷ []) t.command
    (supporters_of_send Echo t.command ts t (λ e. absurd cc) send)
    (supporters_of_send Ready t.command ts t (λ e. absurd cc) send)
    ∙ bracha.not_ready s ts none t.command)

-- A packet that counts sends what is new.

new_is_newly : (a b : Option Command) (c : Command) → a ≡ None → b ≡ Some c → newly a b ≡ Some c
new_is_newly None b c n e = e
new_is_newly (Some d) b c n e = absurd cc

none_is_new : (a b : Option Command) → a ≡ None → b ≡ None → newly a b ≡ None
none_is_new a b e f = λ i. newly (e i) (f i)

some_or_none : (o : Option Command) → ((d : Command) × (o ≡ Some d)) ⊎ (o ≡ None)
some_or_none None = inr refl
some_or_none (Some d) = inl (d, refl)

echo_is_new : (ts : List Take) (t : Take) (c : Command) → echoed ts ≡ None → echoed (ts ++ t ∷ []) ≡ Some c
    → t.kind ≡ Send
echo_is_new ts t c none e = echo_by (same_kind Send t.kind) refl
  where
    echo_by : (b : Bool) → same_kind Send t.kind ≡ b → t.kind ≡ Send
    echo_by true k = sym (bracha.same_kind-true Send t.kind k)
    echo_by false k =
        let now : echoed (ts ++ t ∷ []) ≡ None =
        bracha.echoed_push ts t ∙ (λ i. option_or (none i) (cond (k i) (Some t.command) None)) in
        absurd cc

-- where a READY is new no ECHO is
ready_alone : (s : Counts) (ts : List Take) (t : Take) (c : Command) → readied s ts ≡ None
    → readied s (ts ++ t ∷ []) ≡ Some c →
    newly (echoed ts) (echoed (ts ++ t ∷ [])) ≡ None
ready_alone s ts t c none e =
    ⊎_elim
    (λ (was : (d : Command) × (echoed ts ≡ Some d)). bracha.newly_again _ _ was.0 was.1)
    (λ (was : echoed ts ≡ None).
    ⊎_elim
    (λ (now : (d : Command) × (echoed (ts ++ t ∷ []) ≡ Some d)).
    let same = send_readies_nothing s ts t (echo_is_new ts t now.0 was now.1) in absurd cc)
    (λ (now : echoed (ts ++ t ∷ []) ≡ None). none_is_new _ _ was now)
    (some_or_none (echoed (ts ++ t ∷ []))))
    (some_or_none (echoed ts))

sends_echo : (e r : Option Command) (c : Command) → e ≡ Some c → sent_for e r ≡ Some (Echo, c)
sends_echo e r c h = ap (λ o. sent_for o r) h

sends_ready : (e r : Option Command) (c : Command) → e ≡ None → r ≡ Some c → sent_for e r ≡ Some (Ready, c)
sends_ready e r c h k = λ i. sent_for (h i) (k i)

-- The message of a packet's own instance.

own_instance : (a b c d : ℕ) → ((a == b) && (c == d)) ≡ true → (b ≡ a) × (d ≡ c)
own_instance a b c d e =
    let both = and_parts _ _ e in
    (sym (exact_unsigned_eq a b both.0), sym (exact_unsigned_eq c d both.1))

takes_with : (owner place : ℕ) (history : List Event) (p : PacketValue) →
    takes_at owner place (packets (history ++ event.Take p ∷ [])) ≡ takes_at owner place (packets history ++ p ∷ [])
takes_with owner place history p = ap (takes_at owner place) (packets-Take history p)

-- what the node sends when it takes a packet that counts
abbrev sends_at_take : Counts → List Event → PacketValue → Option Message
sends_at_take s history p =
    option_map (said_at p)
    (newly_sent s (takes_at p.owner p.place (packets history)) (takes_at p.owner p.place (packets history ++ p ∷ [])))

echo_at_take : (s : Counts) (history : List Event) (p : PacketValue) (c : Command) →
    echoed (takes_at p.owner p.place (packets history ++ p ∷ [])) ≡ Some c →
    (echoed (takes_at p.owner p.place (packets history)) ≡ Some c)
    ⊎ (sends_at_take s history p ≡ Some (record { kind = Echo; owner = p.owner; place = p.place; command = c }))
echo_at_take s history p c e =
    let before : List Take = takes_at p.owner p.place (packets history) in
    let after : List Take = takes_at p.owner p.place (packets history ++ p ∷ []) in
    ⊎_elim
    (λ (was : (d : Command) × (echoed before ≡ Some d)).
    let stays : echoed after ≡ Some was.0 =
    ap echoed (takes_at-own (packets history) p) ∙ bracha.echo_stays before (take_of p ∷ []) was.0 was.1 in
    inl (was.1 ∙ sym stays ∙ e))
    (λ (was : echoed before ≡ None).
    inr (ap (option_map (said_at p))
    (sends_echo (newly (echoed before) (echoed after)) (newly (readied s before)
    (readied s after)) c (new_is_newly _ _ c was e))))
    (some_or_none (echoed before))

ready_at_take : (s : Counts) (history : List Event) (p : PacketValue) (c : Command) →
    readied s (takes_at p.owner p.place (packets history ++ p ∷ [])) ≡ Some c →
    (readied s (takes_at p.owner p.place (packets history)) ≡ Some c)
    ⊎ (sends_at_take s history p ≡ Some (record { kind = Ready; owner = p.owner; place = p.place; command = c }))
ready_at_take s history p c e =
    let before : List Take = takes_at p.owner p.place (packets history) in
    let after : List Take = takes_at p.owner p.place (packets history ++ p ∷ []) in
    let own = takes_at-own (packets history) p in
    ⊎_elim
    (λ (was : (d : Command) × (readied s before ≡ Some d)).
    let stays : readied s after ≡ Some was.0 = ap (readied s) own
    ∙ bracha.ready_stays s before (take_of p ∷ []) was.0 was.1 in
    inl (was.1 ∙ sym stays ∙ e))
    (λ (was : readied s before ≡ None).
    let alone : newly (echoed before) (echoed after) ≡ None =
    ap (λ ts. newly (echoed before) (echoed ts)) own
    ∙ ready_alone s before (take_of p) c was (ap (readied s) (sym own) ∙ e) in
    inr (ap (option_map (said_at p))
    (sends_ready (newly (echoed before) (echoed after)) (newly (readied s before)
    (readied s after)) c alone (new_is_newly _ _ c was e))))
    (some_or_none (readied s before))

-- What an event newly has a node send, its answer sends.

-- what the answer of an event that counts sends
abbrev sent_as : Table → ℕ → List Event → Event → Option Message
sent_as roles me history e = sent_by (reply_to roles me history e)

abbrev message : Kind → ℕ → ℕ → Command → Message
message kind owner place c = record { kind = kind; owner = owner; place = place; command = c }

issue_sends : (roles : Table) (me : ℕ) (history : List Event) (own c : Command) (owner place : ℕ) (b : Bool)
    → (owner == me) ≡ b →
    ◌≡◌ {A = Option Command} (if b then slice_get (issued history ++ own ∷ []) place else None) (Some c) →
    (◌≡◌ {A = Option Command} (if b then slice_get (issued history) place else None) (Some c))
    ⊎ (sent_as roles me history (event.Issue own) ≡ Some (message Send owner place c))
issue_sends roles me history own c owner place false k e = absurd cc
issue_sends roles me history own c owner place true k e =
    ⊎_elim
    (λ (h : (place < length (issued history)) × (slice_get (issued history) place ≡ Some c)). inl h.1)
    (λ (h : (place ≡ length (issued history)) × (own ≡ c)).
    let mine : me ≡ owner = sym (exact_unsigned_eq owner me k) in
    inr (λ i. Some (message Send (mine i) (sym h.0 i) (h.1 i))))
    (at_push (issued history) own place c e)

-- a packet of another instance changes nothing of this one
elsewhere : (owner place : ℕ) (history : List Event) (p : PacketValue)
    → ((p.owner == owner) && (p.place == place)) ≡ false →
    takes_at owner place (packets (history ++ event.Take p ∷ [])) ≡ takes_at owner place (packets history)
elsewhere owner place history p k = takes_with owner place history p ∙ takes_at-other owner place (packets history) p k

echo_sends : (roles : Table) (me : ℕ) (history : List Event) (p : PacketValue) (c : Command) (owner place : ℕ)
    (b : Bool) →
    ((p.owner == owner) && (p.place == place)) ≡ b →
    echoed (takes_at owner place (packets (history ++ event.Take p ∷ []))) ≡ Some c →
    (echoed (takes_at owner place (packets history)) ≡ Some c)
    ⊎ (sent_as roles me history (event.Take p) ≡ Some (message Echo owner place c))
echo_sends roles me history p c owner place false k e = inl (ap echoed (sym (elsewhere owner place history p k)) ∙ e)
echo_sends roles me history p c owner place true k e =
    let own = own_instance p.owner owner p.place place k in
    let P : ℕ → ℕ → Type 0 = λ o n.
    echoed (takes_at o n (packets (history ++ event.Take p ∷ []))) ≡ Some c →
    (echoed (takes_at o n (packets history)) ≡ Some c) ⊎ (sent_as roles me history (event.Take p)
    ≡ Some (message Echo o n c)) in
    subst (λ o. P o place) (sym own.0) (subst (P p.owner) (sym own.1)
    (λ h. echo_at_take roles.sizes history p c (ap echoed (sym (takes_with p.owner p.place history p)) ∙ h))) e

ready_sends : (roles : Table) (me : ℕ) (history : List Event) (p : PacketValue) (c : Command) (owner place : ℕ)
    (b : Bool) →
    ((p.owner == owner) && (p.place == place)) ≡ b →
    readied roles.sizes (takes_at owner place (packets (history ++ event.Take p ∷ []))) ≡ Some c →
    (readied roles.sizes (takes_at owner place (packets history)) ≡ Some c)
    ⊎ (sent_as roles me history (event.Take p) ≡ Some (message Ready owner place c))
ready_sends roles me history p c owner place false k e =
    inl (ap (readied roles.sizes) (sym (elsewhere owner place history p k)) ∙ e)
ready_sends roles me history p c owner place true k e =
    let own = own_instance p.owner owner p.place place k in
    let P : ℕ → ℕ → Type 0 = λ o n.
    readied roles.sizes (takes_at o n (packets (history ++ event.Take p ∷ []))) ≡ Some c →
    (readied roles.sizes (takes_at o n (packets history)) ≡ Some c) ⊎ (sent_as roles me history (event.Take p)
    ≡ Some (message Ready o n c)) in
    subst (λ o. P o place) (sym own.0) (subst (P p.owner) (sym own.1)
    (λ h. ready_at_take roles.sizes history p c (ap (readied roles.sizes)
    (sym (takes_with p.owner p.place history p)) ∙ h))) e

new_by : (roles : Table) (me : ℕ) (history : List Event) (e : Event) (kind : Kind) (owner place : ℕ) (c : Command) →
    of_kind kind (sent_at roles.sizes me (history ++ e ∷ []) owner place) ≡ Some c →
    (of_kind kind (sent_at roles.sizes me history owner place) ≡ Some c) ⊎ (sent_as roles me history e
    ≡ Some (message kind owner place c))
new_by roles me history (event.Issue own) Send owner place c h =
    issue_sends roles me history own c owner place (owner == me) refl
    (ap (λ cs. if owner == me then slice_get cs place else None) (sym (issued-Issue history own)) ∙ h)
new_by roles me history (event.Issue own) Echo owner place c h =
    inl (ap (λ ps. echoed (takes_at owner place ps)) (sym (packets-Issue history own)) ∙ h)
new_by roles me history (event.Issue own) Ready owner place c h =
    inl (ap (λ ps. readied roles.sizes (takes_at owner place ps)) (sym (packets-Issue history own)) ∙ h)
new_by roles me history (event.Take p) Send owner place c h =
    inl (ap (λ cs. if owner == me then slice_get cs place else None) (sym (issued-Take history p)) ∙ h)
new_by roles me history (event.Take p) Echo owner place c h = echo_sends roles me history p c owner place _ refl h
new_by roles me history (event.Take p) Ready owner place c h = ready_sends roles me history p c owner place _ refl h
new_by roles me history (event.Client act) Send owner place c h =
    inl (ap (λ cs. if owner == me then slice_get cs place else None) (sym (issued-Client history act)) ∙ h)
new_by roles me history (event.Client act) Echo owner place c h =
    inl (ap (λ ps. echoed (takes_at owner place ps)) (sym (packets-Client history act)) ∙ h)
new_by roles me history (event.Client act) Ready owner place c h =
    inl (ap (λ ps. readied roles.sizes (takes_at owner place ps)) (sym (packets-Client history act)) ∙ h)

-- what an event that is recorded newly has the node send, the answer due to it sends
pub said_newly : (config : ConfigValue) (me : ℕ) (history : List Event) (e : Event) (m : Message) →
    is_recorded (answer_due config me history e) ≡ true
    → said config.roles.sizes me (history ++ e ∷ []) m ≡ Some m.command →
    (said config.roles.sizes me history m ≡ Some m.command) ⊎ (sent_by_answer (answer_due config me history e) ≡ Some m)
said_newly config me history e m recorded h =
    let answer = replied_by (outlook config me history e) (reply_to config.roles me history e) recorded in
    ⊎_elim
    (λ (was : said config.roles.sizes me history m ≡ Some m.command). inl was)
    (λ (now : sent_as config.roles me history e ≡ Some m). inr (ap sent_by_answer answer ∙ now))
    (new_by config.roles me history e m.kind m.owner m.place m.command h)

-- What the answer sends was newly sent.

sent_by_take : (s : Counts) (history : List Event) (p : PacketValue) (e r : Option Command) (m : Message) →
    option_map (said_at p) (sent_for e r) ≡ Some m →
    ((c : Command) × (e ≡ Some c) × (message Echo p.owner p.place c ≡ m)) ⊎ ((c : Command) × (r
    ≡ Some c) × (message Ready p.owner p.place c ≡ m))
sent_by_take s history p (Some c) r m h = inl (c, refl, same_Some _ _ h)
sent_by_take s history p None (Some c) m h = inr (c, refl, same_Some _ _ h)
sent_by_take s history p None None m h = absurd cc

take_said : (s : Counts) (me : ℕ) (history : List Event) (p : PacketValue) (m : Message)
    → sends_at_take s history p ≡ Some m →
    said s me (history ++ event.Take p ∷ []) m ≡ Some m.command
take_said s me history p m h =
    let before : List Take = takes_at p.owner p.place (packets history) in
    let after : List Take = takes_at p.owner p.place (packets history ++ p ∷ []) in
    let P : Message → Type 0 = λ x. said s me (history ++ event.Take p ∷ []) x ≡ Some x.command in
    ⊎_elim
    (λ (echo : (c : Command) × (newly (echoed before) (echoed after) ≡ Some c) × (message Echo p.owner p.place c ≡ m)).
    let now : P (message Echo p.owner p.place echo.0) = ap echoed (takes_with p.owner p.place history p)
    ∙ bracha.newly_now _ _ _ echo.1 in
    subst P echo.2 now)
    (λ (ready : (c : Command) × (newly (readied s before) (readied s after)
    ≡ Some c) × (message Ready p.owner p.place c ≡ m)).
    let now : P (message Ready p.owner p.place ready.0) = ap (readied s) (takes_with p.owner p.place history p)
    ∙ bracha.newly_now _ _ _ ready.1 in
    subst P ready.2 now)
    (sent_by_take s history p (newly (echoed before) (echoed after)) (newly (readied s before) (readied s after)) m h)

if_same : {A : Type 0} (b : Bool) (x y : A) → b ≡ true → (if b then x else y) ≡ x
if_same b x y e = ap (λ t. if t then x else y) e

issue_said : (s : Counts) (me : ℕ) (history : List Event) (c : Command) (m : Message) →
    message Send me (length (issued history)) c ≡ m → said s me (history ++ event.Issue c ∷ []) m ≡ Some m.command
issue_said s me history c m h =
    let P : Message → Type 0 = λ x. said s me (history ++ event.Issue c ∷ []) x ≡ Some x.command in
    let now : P (message Send me (length (issued history)) c) =
    if_same (me == me) _ _ (eq-eqb me me refl)
    ∙ ap (λ cs. slice_get cs (length (issued history))) (issued-Issue history c)
    ∙ slice_get-seam (issued history) [] c in
    subst P h now

said_by : (roles : Table) (me : ℕ) (history : List Event) (e : Event) (m : Message)
    → sent_as roles me history e ≡ Some m →
    said roles.sizes me (history ++ e ∷ []) m ≡ Some m.command
said_by roles me history (event.Issue c) m h = issue_said roles.sizes me history c m (same_Some _ _ h)
said_by roles me history (event.Take p) m h = take_said roles.sizes me history p m h
said_by roles me history (event.Client (Open user)) m h = absurd cc
said_by roles me history (event.Client (Activate session user role)) m h = absurd cc
said_by roles me history (event.Client (DropRole session user role)) m h = absurd cc
said_by roles me history (event.Client (Close session user)) m h = absurd cc

-- what the answer due to an event sends, the node has sent then
pub answered_is_said : (config : ConfigValue) (me : ℕ) (history : List Event) (e : Event) (m : Message) →
    sent_by_answer (answer_due config me history e) ≡ Some m
    → said config.roles.sizes me (history ++ e ∷ []) m ≡ Some m.command
answered_is_said config me history e m h =
    let answer = sends_by (outlook config me history e) (reply_to config.roles me history e) m h in
    said_by config.roles me history e m (ap sent_by_answer (sym answer) ∙ h)
