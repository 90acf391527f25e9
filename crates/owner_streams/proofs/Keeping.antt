-- What an owner's stream keeps when one more packet is taken.
use Rattle.std.proofs.Common.{◌≡◌, ◌≢◌, ℕ, ◌<◌, ⊎_elim, false, ◌&&◌, List, [], ◌∷◌, ◌++◌}
use Rattle.std.proofs.Common.{Option, Some, None, refl, sym, ap, ◌∙◌, subst, arith}
use Rattle.std.specs.Prelude.{◌==◌, IsSome, is_some}
use Rattle.std.proofs.lemmas.Bool.{cases_eq}
use Rattle.std.proofs.lemmas.Bool.Decides.{nat_tests}
use Rattle.quorum_sizes.specs.Sizes.{Counts}
use Rattle.link_frames.specs.frames.Packets.{PacketValue}
use Rattle.bracha_instance.proofs.Exported.{delivery_stays}
use Rattle.bracha_instance.specs.Broadcast.{Take, delivered}
use Rattle.bracha_instance.specs.States.{State, state}
use Rattle.bracha_instance.specs.Taking.{newly}
use Rattle.bracha_instance.specs.declared.instance.Taken.{Taken}
use Rattle.role_commands.proofs.Exported.{some_value}
use Rattle.role_commands.specs.declared.command.Command.{Command}
use Rattle.owner_streams.specs.Places.{place_count, take_of, takes_at}
use Rattle.owner_streams.specs.inside.Slots.{state_in, delivered_in, IsTaken}
use Rattle.owner_streams.specs.inside.Kept.{reach_in, held, IsOwnerStream, SamePlaces}
use Rattle.owner_streams.specs.declared.owner_stream.OwnerStream.{OwnerStream}
use Rattle.owner_streams.proofs.Taken.{takes_at-own, takes_at-other}
use Rattle.owner_streams.proofs.Reaching.{delivered_is}

some_of : {A : Type 0} (o : Option A) (x : A) → o ≡ Some x → IsSome o
some_of o x e = ap is_some e

not_there : (owner a b : ℕ) → b ≢ a → ((owner == owner) && (a == b)) ≡ false
not_there owner a b apart = let turned : a ≢ b = λ e. apart (sym e) in grind (arith, nat_tests)

-- the places that hold the messages of the packets hold those of one more
pub states_push : (s : Counts) (before after : ℕ → Option State) (packets : List PacketValue) (p : PacketValue) →
    ((place : ℕ) → place ≢ p.place → after place ≡ before place) →
    ((takes : List Take) → state_in s (before p.place) ≡ state s takes
    → state_in s (after p.place) ≡ state s (takes ++ take_of p ∷ [])) →
    ((place : ℕ) → state_in s (before place) ≡ state s (takes_at p.owner place packets)) →
    (place : ℕ) → state_in s (after place) ≡ state s (takes_at p.owner place (packets ++ p ∷ []))
states_push s before after packets p others one is place =
    ⊎_elim
    (λ (e : place ≡ p.place).
    let here : state_in s (after p.place) ≡ state s (takes_at p.owner p.place (packets ++ p ∷ [])) =
    one (takes_at p.owner p.place packets) (is p.place) ∙ ap (state s) (sym (takes_at-own packets p)) in
    subst (λ k. state_in s (after k) ≡ state s (takes_at p.owner k (packets ++ p ∷ []))) (sym e) here)
    (λ (apart : place ≢ p.place).
    ap (state_in s) (others place apart) ∙ is place
    ∙ ap (state s) (sym (takes_at-other p.owner place packets p (not_there p.owner p.place place apart))))
    (cases_eq place p.place)

-- what a packet does at its place keeps all that holds of the owner's stream
pub still_run : (s : Counts) (before after : ℕ → Option State) (p : PacketValue) (n : ℕ) →
    ((place : ℕ) → place ≢ p.place → after place ≡ before place) →
    ((takes : List Take) → state_in s (before p.place) ≡ state s takes
    → state_in s (after p.place) ≡ state s (takes ++ take_of p ∷ [])) →
    ((place : ℕ) → (takes : List Take) × (state_in s (before place) ≡ state s takes)) →
    ((place : ℕ) → place < n → IsSome (delivered_in (before place))) →
    (place : ℕ) → place < n → IsSome (delivered_in (after place))
still_run s before after p n others one states run place h =
    ⊎_elim
    (λ (e : place ≡ p.place).
    let known = states p.place in
    let there : IsSome (delivered_in (before p.place)) =
    subst (λ k. IsSome (delivered_in (before k))) e (run place h) in
    let c = some_value _ there in
    let first : delivered s known.0 ≡ Some c.0 = sym (delivered_is s (before p.place) known.0 known.1) ∙ c.1 in
    let now : delivered_in (after p.place) ≡ Some c.0 =
    delivered_is s (after p.place) (known.0 ++ take_of p ∷ []) (one known.0 known.1)
    ∙ delivery_stays s known.0 (take_of p ∷ []) c.0 first in
    subst (λ k. IsSome (delivered_in (after k))) (sym e) (some_of _ c.0 now))
    (λ (apart : place ≢ p.place). subst (λ slot. IsSome (delivered_in slot)) (sym (others place apart)) (run place h))
    (cases_eq place p.place)

newly_nothing : (was now : Option Command) → was ≡ None → is_some (newly was now) ≡ false → now ≡ None
newly_nothing None None e h = refl
newly_nothing None (Some c) e h = absurd cc
newly_nothing (Some d) now e h = absurd cc

-- where the packet delivers nothing, the front of the window is not delivered
pub still_ends : (s : Counts) (before after : ℕ → Option State) (p : PacketValue) (taken : Taken) (n : ℕ) →
    ((place : ℕ) → place ≢ p.place → after place ≡ before place) →
    ((takes : List Take) → state_in s (before p.place) ≡ state s takes
    → state_in s (after p.place) ≡ state s (takes ++ take_of p ∷ [])) →
    ((takes : List Take) → state_in s (before p.place) ≡ state s takes → IsTaken s takes (take_of p) taken) →
    ((place : ℕ) → (takes : List Take) × (state_in s (before place) ≡ state s takes)) →
    delivered_in (before n) ≡ None → is_some taken.delivered ≡ false → delivered_in (after n) ≡ None
still_ends s before after p taken n others one answer states ends nothing =
    ⊎_elim
    (λ (e : n ≡ p.place).
    let known = states p.place in
    let first : delivered s known.0 ≡ None =
    sym (delivered_is s (before p.place) known.0 known.1) ∙ subst (λ k. delivered_in (before k) ≡ None) e ends in
    let now : delivered_in (after p.place) ≡ None =
    delivered_is s (after p.place) (known.0 ++ take_of p ∷ []) (one known.0 known.1)
    ∙ newly_nothing (delivered s known.0) (delivered s (known.0 ++ take_of p ∷ [])) first
    (ap is_some (sym (answer known.0 known.1).delivered) ∙ nothing) in
    subst (λ k. delivered_in (after k) ≡ None) (sym e) now)
    (λ (apart : n ≢ p.place). ap delivered_in (others n apart) ∙ ends)
    (cases_eq n p.place)

pub still_states : (s : Counts) (before after : ℕ → Option State) (p : PacketValue) →
    ((place : ℕ) → place ≢ p.place → after place ≡ before place) →
    ((takes : List Take) → state_in s (before p.place) ≡ state s takes
    → state_in s (after p.place) ≡ state s (takes ++ take_of p ∷ [])) →
    ((place : ℕ) → (takes : List Take) × (state_in s (before place) ≡ state s takes)) →
    (place : ℕ) → (takes : List Take) × (state_in s (after place) ≡ state s takes)
still_states s before after p others one states place =
    ⊎_elim
    (λ (e : place ≡ p.place).
    let known = states p.place in
    let now : state_in s (after place) ≡ state s (known.0 ++ take_of p ∷ []) =
    subst (λ k. state_in s (after k) ≡ state s (known.0 ++ take_of p ∷ [])) (sym e) (one known.0 known.1) in
    (known.0 ++ take_of p ∷ [], now))
    (λ (apart : place ≢ p.place). let known = states place in (known.0, ap (state_in s) (others place apart) ∙ known.1))
    (cases_eq place p.place)

pub same_states : (s : Counts) (before after : ℕ → Option State)
    → ((place : ℕ) → after place ≡ before place) →
    ((place : ℕ) → (takes : List Take) × (state_in s (before place) ≡ state s takes)) →
    (place : ℕ) → (takes : List Take) × (state_in s (after place) ≡ state s takes)
same_states s before after same states place = let known = states place in
    (known.0, ap (state_in s) (same place) ∙ known.1)

-- what holds at the packet's place and at all others holds at each
pub at_each : (before after : ℕ → Option State) (here : ℕ)
    → ((place : ℕ) → place ≢ here → after place ≡ before place) →
    after here ≡ before here → (place : ℕ) → after place ≡ before place
at_each before after here others same place =
    ⊎_elim (λ (e : place ≡ here). subst (λ k. after k ≡ before k) (sym e) same) (others place)
    (cases_eq place here)

-- One more packet at its place, and then the window moves on: all that holds of an owner's stream still does.
pub still_kept : (s : Counts) (a mid b : OwnerStream) (p : PacketValue) → IsOwnerStream s a → p.place < place_count →
    ((place : ℕ) → place ≢ p.place → held mid place ≡ held a place) →
    ((takes : List Take) → state_in s (held a p.place) ≡ state s takes
    → state_in s (held mid p.place) ≡ state s (takes ++ take_of p ∷ [])) →
    SamePlaces mid b → ((place : ℕ) → place < reach_in b → IsSome (delivered_in (held b place))) →
    delivered_in (held b (reach_in b)) ≡ None → IsOwnerStream s b
still_kept s a mid b p kept within others one same run ends = record {
  states = same_states s (held mid) (held b) same.at_each_place
      (still_states s (held a) (held mid) p others one kept.states);
  run = run;
  run_ends = ends;
  in_range = λ place past.
      same.at_each_place place ∙ others place (λ e. absurd (omega arith)) ∙ kept.in_range place past;
}
