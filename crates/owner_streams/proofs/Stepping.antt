-- The step that is due to a packet, from what is kept at its place.
use Rattle.std.proofs.Common.{◌≡◌, ℕ, ◌+◌, ◌<◌, ◌≤◌, ⊎_elim, Bool, true, false, cond, List, [], ◌∷◌}
use Rattle.std.proofs.Common.{◌++◌, Option, Some, None, Ok, Err, refl, sym, ap, ◌∙◌, arith}
use Rattle.std.specs.Prelude.{nat_le, is_some}
use Rattle.std.proofs.lemmas.Bool.{cases_lt, cases_Bool}
use Rattle.std.proofs.lemmas.Bool.Decides.{nat_tests}
use Rattle.quorum_sizes.specs.Sizes.{Counts}
use Rattle.role_commands.proofs.Exported.{same_Ok}
use Rattle.role_commands.specs.declared.command.Command.{Command}
use Rattle.link_frames.specs.declared.frames.kind.Kind.{Kind}
use Rattle.link_frames.specs.declared.frames.kind.Kind.TheVariants.{Send, Echo, Ready}
use Rattle.std.specs.FinSet as sets
use Rattle.std.specs.Ordering.{nat_cmp}
use Rattle.link_frames.specs.frames.Packets.{PacketValue}
use Rattle.bracha_instance.proofs.Exported.{voted, idle_state, state-echoed, state-readied, state-delivered, newly_same}
use Rattle.bracha_instance.specs.Broadcast.{Take, vote, voters, delivered, echoed, readied}
use Rattle.bracha_instance.specs.States.{State, state}
use Rattle.bracha_instance.specs.Taking.{effect_of, sent_for, newly_sent, newly_delivered, has_voted}
use Rattle.bracha_instance.specs.declared.instance.Effect.{Effect}
use Rattle.bracha_instance.specs.declared.instance.Effect.TheVariants.{Idle, Counted}
use Rattle.bracha_instance.specs.declared.instance.Taken.{Taken}
use Rattle.owner_streams.specs.Places.{window, take_of, takes_at, reach}
use Rattle.owner_streams.specs.Steps.{step_of, step_due, effect_due}
use Rattle.owner_streams.specs.inside.Slots.{state_in, voted_in, IsTaken}
use Rattle.owner_streams.specs.inside.Kept.{reach_in, held, look_in}
use Rattle.owner_streams.specs.declared.owner_stream.OwnerStream.{OwnerStream}
use Rattle.owner_streams.specs.declared.steps.StreamFault.TheVariants.{Beyond}
use Rattle.owner_streams.proofs.Taken.{takes_at-own}

-- a packet beyond the window is refused ..
pub due_beyond : (s : Counts) (packets : List PacketValue) (p : PacketValue) (n : ℕ) → reach s p.owner packets ≡ n
    → n + window ≤ p.place →
    step_due s packets p ≡ Err (Beyond p.place (n + window))
unfolding step_due
due_beyond s packets p n e h =
    let refused : nat_le (n + window) p.place ≡ true = grind (arith, nat_tests) in
    ap (λ m. cond (nat_le (m + window) p.place) (Err (Beyond p.place (m + window))) (Ok (step_of s packets p))) e
    ∙ rw refused refl

-- .. and each other one is not
pub due_within : (s : Counts) (packets : List PacketValue) (p : PacketValue) (n : ℕ) → reach s p.owner packets ≡ n
    → p.place < n + window →
    step_due s packets p ≡ Ok (step_of s packets p)
unfolding step_due
due_within s packets p n e h =
    let taken : nat_le (n + window) p.place ≡ false = grind (arith, nat_tests) in
    ap (λ m. cond (nat_le (m + window) p.place) (Err (Beyond p.place (m + window))) (Ok (step_of s packets p))) e
    ∙ rw taken refl

-- the step that is due, from what the instance answers and how far the stream reaches
pub step_is : (s : Counts) (packets : List PacketValue) (p : PacketValue) (taken : Taken) (from to : ℕ) →
    effect_of (takes_at p.owner p.place packets) (take_of p) ≡ Counted
    → IsTaken s (takes_at p.owner p.place packets) (take_of p) taken →
    reach s p.owner packets ≡ from → reach s p.owner (packets ++ p ∷ []) ≡ to →
    step_of s packets p ≡ record {
      effect = Counted;
      broadcast = taken.broadcast;
      delivered = taken.delivered;
      from = from;
      to = to;
    }
step_is s packets p taken from to counts t f e =
    let before : List Take = takes_at p.owner p.place packets in
    let broadcast : newly_sent s before (takes_at p.owner p.place (packets ++ p ∷ [])) ≡ taken.broadcast =
    ap (newly_sent s before) (takes_at-own packets p) ∙ sym t.broadcast in
    let delivered : newly_delivered s before (takes_at p.owner p.place (packets ++ p ∷ [])) ≡ taken.delivered =
    ap (newly_delivered s before) (takes_at-own packets p) ∙ sym t.delivered in
    λ i. record { effect = counts i; broadcast = broadcast i; delivered = delivered i; from = f i; to = e i }

nothing_sent : (a b : Option Command) → a ≡ None → b ≡ None → sent_for a b ≡ None
nothing_sent a b e f = λ i. sent_for (e i) (f i)

-- the step that is due to a message that leaves its instance as it was
pub idle_step_is : (s : Counts) (packets : List PacketValue) (p : PacketValue) (n : ℕ) →
    effect_of (takes_at p.owner p.place packets) (take_of p) ≡ Idle →
    state s (takes_at p.owner p.place (packets ++ p ∷ [])) ≡ state s (takes_at p.owner p.place packets) →
    reach s p.owner packets ≡ n → reach s p.owner (packets ++ p ∷ []) ≡ n →
    step_of s packets p ≡ record { effect = Idle; broadcast = None; delivered = None; from = n; to = n }
idle_step_is s packets p n idle same f e =
    let before : List Take = takes_at p.owner p.place packets in
    let after : List Take = takes_at p.owner p.place (packets ++ p ∷ []) in
    let echo : echoed after ≡ echoed before = sym (state-echoed s after) ∙ ap (λ st. st.echoed) same
    ∙ state-echoed s before in
    let ready : readied s after ≡ readied s before = sym (state-readied s after) ∙ ap (λ st. st.readied) same
    ∙ state-readied s before in
    let done : delivered s after ≡ delivered s before = sym (state-delivered s after) ∙ ap (λ st. st.delivered) same
    ∙ state-delivered s before in
    let broadcast : newly_sent s before after ≡ None =
    nothing_sent _ _ (newly_same (echoed before) (echoed after) echo)
    (newly_same (readied s before) (readied s after) ready) in
    let delivery : newly_delivered s before after ≡ None =
    newly_same (delivered s before) (delivered s after) done in
    λ i. record { effect = idle i; broadcast = broadcast i; delivered = delivery i; from = f i; to = e i }

-- a packet that is not refused is before the end of the window
pub look_within : (a : OwnerStream) (p : PacketValue) (e : Effect) → Ok e ≡ look_in a p → p.place < reach_in a + window
look_within a p e is =
    ⊎_elim (λ (within : p.place < reach_in a + window). within)
    (λ (past : reach_in a + window ≤ p.place).
    let test : nat_le (reach_in a + window) p.place ≡ true = grind (arith, nat_tests) in
    let refused : Ok e ≡ Err (Beyond p.place (reach_in a + window)) = is ∙ rw test refl in
    absurd cc)
    (cases_lt p.place (reach_in a + window))

idle_test : (b : Bool) → Idle ≡ cond b Idle Counted → b ≡ true
idle_test true e = refl
idle_test false e = absurd cc

-- one that is idle changes nothing at its place
pub look_idle : (a : OwnerStream) (p : PacketValue) → Ok Idle ≡ look_in a p
    → voted_in (held a p.place) p.kind p.from ≡ true
look_idle a p is =
    let within : p.place < reach_in a + window = look_within a p Idle is in
    let test : nat_le (reach_in a + window) p.place ≡ false = grind (arith, nat_tests) in
    idle_test _ (same_Ok _ _ (is ∙ rw test refl))

pub voted_changes_nothing : (s : Counts) (slot : Option State) (t : Take) → voted_in slot t.kind t.from ≡ true
    → (takes : List Take) → state_in s slot ≡ state s takes →
    state_in s slot ≡ state s (takes ++ t ∷ [])
voted_changes_nothing s None t v takes is = absurd cc
voted_changes_nothing s (Some st) t v takes is = idle_state s takes t st v is

-- the effect that was looked up is that of the step
pub effect_is : (s : Counts) (packets : List PacketValue) (p : PacketValue) (e : Effect)
    → step_due s packets p ≡ Ok (step_of s packets p) →
    Ok e ≡ effect_due (step_due s packets p) → effect_of (takes_at p.owner p.place packets) (take_of p) ≡ e
effect_is s packets p e due is = sym (same_Ok e _ (is ∙ ap effect_due due))

pub counts : (e : Effect) → (e ≡ Idle → ⊥) → e ≡ Counted
counts Idle other = absurd (other refl)
counts Counted other = refl

-- where nothing was taken no node has voted
pub fresh_has_voted : (s : Counts) (kind : Kind) (name : ℕ) → has_voted (state s []) kind name ≡ false
unfolding state echoed voters
fresh_has_voted s Send name = refl
fresh_has_voted s Echo name = sets.contains-empty nat_cmp name
fresh_has_voted s Ready name = sets.contains-empty nat_cmp name

-- where no instance is, no node has voted
pub none_voted : (s : Counts) (takes : List Take) (kind : Kind) (name : ℕ) → state s [] ≡ state s takes
    → false ≡ is_some (vote kind name takes)
none_voted s takes kind name same =
    ⊎_elim
    (λ (yes_voted : is_some (vote kind name takes) ≡ true).
    let clash : false ≡ true = sym (fresh_has_voted s kind name) ∙ ap (λ st. has_voted st kind name) same
    ∙ voted s takes kind name yes_voted in
    absurd cc)
    (λ (none : is_some (vote kind name takes) ≡ false). sym none)
    (cases_Bool (is_some (vote kind name takes)))

-- the effect by the test whether the node has voted
pub look_is : (s : Counts) (packets : List PacketValue) (p : PacketValue) (e : Effect) (b : Bool)
    → cond b Idle Counted ≡ e →
    b ≡ is_some (vote p.kind p.from (takes_at p.owner p.place packets))
    → step_due s packets p ≡ Ok (step_of s packets p) →
    Ok e ≡ effect_due (step_due s packets p)
look_is s packets p e b test is due = ap Ok (sym test ∙ ap (λ t. cond t Idle Counted) is) ∙ sym (ap effect_due due)
