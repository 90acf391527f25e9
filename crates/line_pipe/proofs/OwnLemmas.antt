-- A node's own packets come to an end: what it sends when it takes one is an ECHO or a READY, its own ECHO causes no
-- other ECHO, and its own READY, which it sent as it was ready, causes nothing.
use Rattle.std.proofs.Common.{◌⊎◌, inl, inr, ◌≡◌, ℕ, zero, suc, ◌+◌, ◌<◌, ◌≤◌, Bool, true, false, cond}
use Rattle.std.proofs.Common.{List, [], ◌∷◌, ◌++◌}
use Rattle.std.proofs.Common.{Option, Some, None, Result, Ok, Err, refl, sym, ap, ◌∙◌, subst, arith, option_map}
use Rattle.std.specs.Prelude.{◌||◌, nat_le, if◌then◌else◌}
use Rattle.std.proofs.lemmas.Option.{none-some}
use Rattle.std.specs.Option.{option_or}
use Rattle.role_commands.specs.declared.command.Command.{Command}
use Rattle.link_frames.specs.frames.Kinds.{same_kind}
use Rattle.link_frames.specs.frames.Packets.{PacketValue, place_count, packet_of, is_relayed}
use Rattle.link_frames.specs.declared.frames.kind.Kind.{Kind}
use Rattle.link_frames.specs.declared.frames.kind.Kind.TheVariants.{Send, Echo, Ready}
use Rattle.link_frames.specs.declared.frames.packet.Message.{Message}
use Rattle.bracha_instance.specs.Broadcast.{Take, echoed, readied}
use Rattle.bracha_instance.specs.Taking.{newly, sent_for, newly_sent}
use Rattle.bracha_instance.specs.declared.instance.Effect.{Effect}
use Rattle.bracha_instance.specs.declared.instance.Effect.TheVariants as effect
use Rattle.bracha_instance.proofs.Exported.{echoed_push, newly_now, newly_same, newly_again, or_nothing}
use Rattle.owner_streams.specs.Places.{take_of, takes_at}
use Rattle.owner_streams.proofs.Exported.{takes_at-own}
use Rattle.role_node.specs.Answers.{answered, outlook, reply_to, said_at, sent_by_answer}
use Rattle.role_node.specs.Histories.{packets}
use Rattle.role_node.specs.Nodes.{NodeValue, with_event}
use Rattle.role_node.specs.declared.event.Event.TheVariants as event
use Rattle.role_node.specs.declared.event.Reply.TheVariants as reply
use Rattle.role_node.specs.declared.faults.NodeFault.{NodeFault}
use Rattle.role_node.proofs.Exported.{packets-Take}
use Rattle.line_pipe.specs.Answers.{after_answer, after_event, own_packet, after_own, sent_own}
use Rattle.line_pipe.specs.Answers.{take_own, settled}
use Rattle.line_pipe.specs.Laws.{NoneIsLeft, OwnPacketsEnd}

-- ---- what one more message has a node send

-- an ECHO of what was newly echoed, or a READY for what was newly readied
sent_is : (echo ready : Option Command) (said : Kind × Command) → sent_for echo ready ≡ Some said
    → ((said.0 ≡ Echo) × (echo ≡ Some said.1)) ⊎ ((said.0 ≡ Ready) × (ready ≡ Some said.1))
sent_is (Some c) ready said e =
    let is : (Echo, c) ≡ said = cc in
    inl (ap (λ (k : Kind × Command). k.0) (sym is), ap (λ (k : Kind × Command). Some k.1) is)
sent_is None (Some c) said e =
    let is : (Ready, c) ≡ said = cc in
    inr (ap (λ (k : Kind × Command). k.0) (sym is), ap (λ (k : Kind × Command). Some k.1) is)
sent_is None None said e = absurd cc

-- only a SEND has it echo
echoed_other : (ts : List Take) (t : Take) → same_kind Send t.kind ≡ false → echoed (ts ++ t ∷ []) ≡ echoed ts
echoed_other ts t other =
    echoed_push ts t ∙ ap (λ b. option_or (echoed ts) (cond b (Some t.command) None)) other ∙ or_nothing (echoed ts)

-- ---- a packet that has a node send

abbrev takes : NodeValue → PacketValue → List Take
takes node p = takes_at p.owner p.place (packets node.history)

abbrev more_takes : NodeValue → PacketValue → List Take
more_takes node p = takes node p ++ take_of p ∷ []

-- taking the packet has the node send the message
record Sends (node : NodeValue) (p : PacketValue) (m : Message) : Type 0 where
  said : Kind × Command
  is : said_at p said ≡ m
  newly_so : newly_sent node.config.roles.sizes (takes node p) (more_takes node p) ≡ Some said
  recorded : after_own node (Some p) ≡ with_event node (event.Take p)

counted : (o : Result Effect NodeFault) (send delivered : _) (from to : ℕ) (m : Message)
    → sent_by_answer (answered o (reply.Counted send delivered from to)) ≡ Some m
    → (o ≡ Ok effect.Counted) × (send ≡ Some m)
counted (Ok effect.Idle) send delivered from to m e = absurd cc
counted (Ok effect.Counted) send delivered from to m e = (refl, e)
counted (Err f) send delivered from to m e = absurd cc

said : (p : PacketValue) (b : Option (Kind × Command)) (m : Message) → option_map (said_at p) b ≡ Some m
    → (k : Kind × Command) × (b ≡ Some k) × (said_at p k ≡ m)
said p None m e = absurd cc
said p (Some k) m e = (k, refl, cc)

sends : (node : NodeValue) (p : PacketValue) (m : Message) → sent_own node (Some p) ≡ Some m → Sends node p m
unfolding after_event
sends node p m e =
    let (counts, is) = counted (outlook node.config node.me node.history (event.Take p)) _ _ _ _ m e in
    let (k, sent, message) = said p _ m is in
    record {
      said = k;
      is = message;
      newly_so = ap (newly_sent node.config.roles.sizes (takes node p)) (sym (takes_at-own (packets node.history) p))
          ∙ sent;
      recorded = ap (λ o. after_answer node (event.Take p) (answered o (reply_to node.config.roles node.me node.history
          (event.Take p)))) counts;
    }

-- the message is a READY, and the node is ready at its place
pub record IsReady (node : NodeValue) (m : Message) : Type 0 where
  pub kind : m.kind ≡ Ready
  pub command : Command
  pub is : readied node.config.roles.sizes (takes_at m.owner m.place (packets node.history)) ≡ Some command

-- the node newly echoed something when it took the packet
abbrev Echoes : NodeValue → PacketValue → Type 0
Echoes node p = (c : Command) × (newly (echoed (takes node p)) (echoed (more_takes node p)) ≡ Some c)

-- a message that is sent is an ECHO, or a READY of a node that is ready
what_is_sent : (node : NodeValue) (p : PacketValue) (m : Message) → Sends node p m
    → ((m.kind ≡ Echo) × Echoes node p) ⊎ IsReady (after_own node (Some p)) m
what_is_sent node p m s = by_kind (sent_is _ _ s.said s.newly_so)
  where
    kind_is : m.kind ≡ s.said.0
    kind_is = ap (λ (m : Message). m.kind) (sym s.is)

    ready_at : s.said.0 ≡ Ready → readied node.config.roles.sizes (more_takes node p) ≡ Some s.said.1
        → IsReady (with_event node (event.Take p)) (said_at p s.said)
    ready_at kind is =
        let grown : takes_at p.owner p.place (packets (node.history ++ event.Take p ∷ [])) ≡ more_takes node p =
        ap (takes_at p.owner p.place) (packets-Take node.history p) ∙ takes_at-own (packets node.history) p in
        record { kind = kind; command = s.said.1; is = ap (readied node.config.roles.sizes) grown ∙ is }

    by_kind : ((s.said.0 ≡ Echo) × (newly (echoed (takes node p)) (echoed (more_takes node p)) ≡ Some s.said.1))
        ⊎ ((s.said.0 ≡ Ready) × (newly (readied node.config.roles.sizes (takes node p))
        (readied node.config.roles.sizes (more_takes node p)) ≡ Some s.said.1))
        → ((m.kind ≡ Echo) × Echoes node p) ⊎ IsReady (after_own node (Some p)) m
    by_kind (inl (kind, new)) = inl (kind_is ∙ kind, (s.said.1, new))
    by_kind (inr (kind, new)) =
        inr (subst (λ (m : Message). IsReady (after_own node (Some p)) m) s.is (subst (λ (n : NodeValue). IsReady n
        (said_at p s.said)) (sym s.recorded) (ready_at kind (newly_now _ _ _ new))))

-- nothing is newly echoed when a packet of another kind is taken
no_echo : (node : NodeValue) (p : PacketValue) → same_kind Send p.kind ≡ false → Echoes node p → ⊥
no_echo node p other (c, new) =
    let none = newly_same _ _ (echoed_other (takes node p) (take_of p) other) in
    none-some c (sym none ∙ new)

echo_causes : (node : NodeValue) (p : PacketValue) (m : Message) → p.kind ≡ Echo → Sends node p m
    → IsReady (after_own node (Some p)) m
echo_causes node p m echo s = by_kind (what_is_sent node p m s)
  where
    by_kind : ((m.kind ≡ Echo) × Echoes node p) ⊎ IsReady (after_own node (Some p)) m
        → IsReady (after_own node (Some p)) m
    by_kind (inl (kind, new)) = absurd (no_echo node p (ap (same_kind Send) echo) new)
    by_kind (inr ready) = ready

ready_causes : (node : NodeValue) (p : PacketValue) (m : Message) (c : Command) → p.kind ≡ Ready
    → readied node.config.roles.sizes (takes node p) ≡ Some c → Sends node p m → ⊥
ready_causes node p m c ready is s = by_kind (sent_is _ _ s.said s.newly_so)
  where
    by_kind : ((s.said.0 ≡ Echo) × (newly (echoed (takes node p)) (echoed (more_takes node p)) ≡ Some s.said.1))
        ⊎ ((s.said.0 ≡ Ready) × (newly (readied node.config.roles.sizes (takes node p))
        (readied node.config.roles.sizes (more_takes node p)) ≡ Some s.said.1)) → ⊥
    by_kind (inl (kind, new)) = no_echo node p (ap (same_kind Send) ready) (s.said.1, new)
    by_kind (inr (kind, new)) =
        let none = newly_again _ (readied node.config.roles.sizes (more_takes node p)) c is in
        none-some s.said.1 (sym none ∙ new)

-- ---- own packets

-- the node after it took the packet of its message, and what then waits
abbrev next : NodeValue → Message → NodeValue
next node m = after_own node (own_packet node m)

abbrev waits : NodeValue → Message → Option Message
waits node m = sent_own node (own_packet node m)

-- the packet of a message to the node itself
abbrev own : NodeValue → Message → PacketValue
own node m = packet_of node.me node.me m

own_is : (node : NodeValue) (m more : Message) → waits node m ≡ Some more → own_packet node m ≡ Some (own node m)
own_is node m more e = by_refusal (is_relayed node.me m || nat_le place_count m.place) e
  where
    by_refusal : (b : Bool) → sent_own node (if b then None else Some (own node m)) ≡ Some more
        → (if b then None else Some (own node m)) ≡ Some (own node m)
    by_refusal true e = absurd cc
    by_refusal false e = refl

own_sends : (node : NodeValue) (m more : Message) → waits node m ≡ Some more → Sends node (own node m) more
own_sends node m more e = sends node (own node m) more (sym (ap (sent_own node) (own_is node m more e)) ∙ e)

next_ready : (node : NodeValue) (m more : Message) → waits node m ≡ Some more
    → IsReady (after_own node (Some (own node m))) more → IsReady (next node m) more
next_ready node m more e ready =
    subst (λ (p : Option PacketValue). IsReady (after_own node p) more) (sym (own_is node m more e)) ready

any_step : (node : NodeValue) (m more : Message) → waits node m ≡ Some more
    → (more.kind ≡ Echo) ⊎ IsReady (next node m) more
any_step node m more e = by_kind (what_is_sent node (own node m) more (own_sends node m more e))
  where
    by_kind : ((more.kind ≡ Echo) × Echoes node (own node m)) ⊎ IsReady (after_own node (Some (own node m))) more
        → (more.kind ≡ Echo) ⊎ IsReady (next node m) more
    by_kind (inl (kind, new)) = inl kind
    by_kind (inr ready) = inr (next_ready node m more e ready)

echo_step : (node : NodeValue) (m more : Message) → m.kind ≡ Echo → waits node m ≡ Some more
    → IsReady (next node m) more
echo_step node m more echo e =
    next_ready node m more e (echo_causes node (own node m) more echo (own_sends node m more e))

ready_step : (node : NodeValue) (m : Message) → IsReady node m → waits node m ≡ None
ready_step node m ready = by_waiting (waits node m) refl
  where
    by_waiting : (w : Option Message) → waits node m ≡ w → waits node m ≡ None
    by_waiting None e = e
    by_waiting (Some more) e =
        absurd (ready_causes node (own node m) more ready.command ready.kind ready.is (own_sends node m more e))

one_is_enough : (node : NodeValue) (w : Option Message) → ((m : Message) → w ≡ Some m → IsReady node m)
    → NoneIsLeft node w 1
unfolding take_own
one_is_enough node None each = refl
one_is_enough node (Some m) each = ready_step node m (each m refl)

two_are_enough : (node : NodeValue) (w : Option Message)
    → ((m : Message) → w ≡ Some m → (m.kind ≡ Echo) ⊎ IsReady node m)
    → NoneIsLeft node w 2
unfolding take_own
two_are_enough node None each = refl
two_are_enough node (Some m) each = by_kind (each m refl)
  where
    by_kind : (m.kind ≡ Echo) ⊎ IsReady node m → NoneIsLeft (next node m) (waits node m) 1
    by_kind (inl echo) = one_is_enough (next node m) (waits node m) (λ more e. echo_step node m more echo e)
    by_kind (inr ready) = ap (λ w. (take_own 1 (next node m) w).1) (ready_step node m ready)

pub three_are_enough : (node : NodeValue) (w : Option Message) → NoneIsLeft node w 3
unfolding take_own
three_are_enough node None = refl
three_are_enough node (Some m) = two_are_enough (next node m) (waits node m) (λ more e. any_step node m more e)

-- ---- where none is left

nothing_more : (k : ℕ) (node : NodeValue) (w : Option Message) → w ≡ None → take_own k node w ≡ (node, w)
unfolding take_own
nothing_more zero node w e = refl
nothing_more (suc k) node None e = refl
nothing_more (suc k) node (Some m) e = absurd cc

stays : (k more : ℕ) (node : NodeValue) (w : Option Message) → NoneIsLeft node w k → k ≤ more
    → take_own more node w ≡ take_own k node w
unfolding take_own
stays zero more node w none h = nothing_more more node w none
stays (suc k) zero node w none h = absurd (omega arith)
stays (suc k) (suc more) node None none h = refl
stays (suc k) (suc more) node (Some m) none h = stays k more (next node m) (waits node m) none (omega arith)

pub same_end : (node : NodeValue) (w : Option Message) (count : ℕ) → NoneIsLeft node w count
    → (take_own count node w).0 ≡ settled node w
unfolding settled
same_end node w count none =
    ap (λ (x : NodeValue × Option Message). x.0) (sym (stays count (count + 3) node w none (omega arith))
    ∙ stays 3 (count + 3) node w (three_are_enough node w) (omega arith))

pub own_packets_end : OwnPacketsEnd
own_packets_end node w = (three_are_enough node w, λ count none. same_end node w count none)

-- ---- the loop

-- how many own packets are taken, of so many at most
unfoldable pub owed : ℕ → NodeValue → Option Message → ℕ
owed zero node w = 0
owed (suc k) node None = 0
owed (suc k) node (Some m) = suc (owed k (next node m) (waits node m))

owed_enough : (k : ℕ) (node : NodeValue) (w : Option Message) → NoneIsLeft node w k
    → owed (suc k) node w ≡ owed k node w
unfolding owed take_own
owed_enough zero node None none = refl
owed_enough zero node (Some m) none = absurd cc
owed_enough (suc k) node None none = refl
owed_enough (suc k) node (Some m) none = ap suc (owed_enough k (next node m) (waits node m) none)

fewer_owed : (node : NodeValue) (m : Message) → owed 3 (next node m) (waits node m) < owed 3 node (Some m)
unfolding owed take_own
fewer_owed node m =
    let none : NoneIsLeft (next node m) (waits node m) 2 = three_are_enough node (Some m) in
    let same : owed 3 (next node m) (waits node m) ≡ owed 2 (next node m) (waits node m) =
    owed_enough 2 (next node m) (waits node m) none in
    omega (arith, same)

pub less_owed : (now new : NodeValue) (waiting more : Option Message) (m : Message) → waiting ≡ Some m
    → more ≡ waits now m → new ≡ next now m → owed 3 new more < owed 3 now waiting
less_owed now new waiting more m is sent after =
    let here : owed 3 now waiting ≡ owed 3 now (Some m) = ap (owed 3 now) is in
    let there : owed 3 new more ≡ owed 3 (next now m) (waits now m) = (λ i. owed 3 (after i) (sent i)) in
    omega (arith, fewer_owed now m, here, there)

-- so many were taken so far
pub record TakenSoFar (start now : NodeValue) (first waiting : Option Message) : Type 0 where
  pub count : ℕ
  pub is : take_own count start first ≡ (now, waiting)

pub nothing_taken : (node : NodeValue) (w : Option Message) → TakenSoFar node node w w
unfolding take_own
nothing_taken node w = record { count = 0; is = refl }

then_one : (k : ℕ) (node : NodeValue) (w : Option Message)
    → take_own (suc k) node w ≡ take_own 1 (take_own k node w).0 (take_own k node w).1
unfolding take_own
then_one zero node w = refl
then_one (suc k) node None = refl
then_one (suc k) node (Some m) = then_one k (next node m) (waits node m)

pub one_taken : (start now new : NodeValue) (first more : Option Message) (m : Message)
    → TakenSoFar start now first (Some m) → more ≡ waits now m → new ≡ next now m → TakenSoFar start new first more
unfolding take_own
one_taken start now new first more m so sent after = record {
  count = suc so.count;
  is = then_one so.count start first ∙ ap (λ (x : NodeValue × Option Message). take_own 1 x.0 x.1) so.is
      ∙ (λ i. (sym after i, sym sent i));
}

pub all_taken : (start now : NodeValue) (first : Option Message) → TakenSoFar start now first None
    → now ≡ settled start first
all_taken start now first so =
    sym (ap (λ (x : NodeValue × Option Message). x.0) so.is)
    ∙ same_end start first so.count (ap (λ (x : NodeValue × Option Message). x.1) so.is)
