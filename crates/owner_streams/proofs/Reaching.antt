-- How far an owner's stream reaches, and what is delivered and sent at its places, by the places that are kept.
use Rattle.std.proofs.Common.{◌≡◌, ℕ, zero, suc, ◌<◌, ◌≤◌, ⊎_elim, le_refl, true, false, List}
use Rattle.std.proofs.Common.{[], ◌∷◌, length, Option, Some, None, sym, ap, ◌∙◌, arith, refl}
use Rattle.std.specs.Prelude.{nat_lt, option_and_then, slice_get, IsSome}
use Rattle.std.proofs.lemmas.Bool.{cases_lt}
use Rattle.std.proofs.lemmas.Bool.Decides.{nat_tests}
use Rattle.std.proofs.lemmas.Option.{slice_get_past}
use Rattle.quorum_sizes.specs.Sizes.{Counts}
use Rattle.link_frames.specs.frames.Packets.{PacketValue}
use Rattle.bracha_instance.specs.Broadcast.{Take, delivered, echoed, readied}
use Rattle.bracha_instance.specs.States.{State, state}
use Rattle.owner_streams.specs.Places.{place_count, takes_at, stream, reach}
use Rattle.owner_streams.specs.Steps.{again_due}
use Rattle.owner_streams.specs.inside.Slots.{state_in, delivered_in, again_in}
use Rattle.owner_streams.specs.inside.Kept.{reach_in, held, IsOwnerStream, AreStatesOf, command_in}
use Rattle.owner_streams.specs.declared.owner_stream.OwnerStream.{OwnerStream}
use Rattle.owner_streams.proofs.Taken.{echoed-none, readied-none, delivered-none}
use Rattle.owner_streams.proofs.StreamLaws.{stream_is_exact_lem}

-- what is delivered at a place is what the messages there deliver
pub delivered_is : (s : Counts) (slot : Option State) (takes : List Take) → state_in s slot ≡ state s takes
    → delivered_in slot ≡ delivered s takes
unfolding state
delivered_is s None takes e = sym (delivered-none s) ∙ ap (λ st. st.delivered) e
delivered_is s (Some st) takes e = ap (λ st. st.delivered) e

none_or_some : {A : Type 0} (o : Option A) → o ≡ None → IsSome o → ⊥
none_or_some None e h = cc
none_or_some (Some x) e h = cc

within_is_some : {A : Type 0} (xs : List A) (k : ℕ) → k < length xs → slice_get xs k ≡ None → ⊥
within_is_some [] k h e = absurd (omega arith)
within_is_some (x ∷ xs) zero h e = cc
within_is_some (x ∷ xs) (suc k) h e = within_is_some xs k (omega arith) e

-- a number at which a list's answers end is its length
ends_agree : {A : Type 0} (xs : List A) (n : ℕ) (ask : ℕ → Option A)
    → ((k : ℕ) → k ≤ length xs → ask k ≡ slice_get xs k) →
    ((k : ℕ) → k < n → IsSome (ask k)) → ask n ≡ None → length xs ≡ n
ends_agree xs n ask is run ends =
    ⊎_elim
    (λ (short : length xs < n).
    absurd (none_or_some (ask (length xs)) (is (length xs) (le_refl _)
    ∙ slice_get_past xs (length xs) (le_refl _)) (run (length xs) short)))
    (λ (reached : n ≤ length xs).
    ⊎_elim
    (λ (long : n < length xs).
    let e : None ≡ slice_get xs n = sym ends ∙ is n reached in absurd (within_is_some xs n long (sym e)))
    (λ (same : length xs ≤ n). omega arith)
    (cases_lt n (length xs)))
    (cases_lt (length xs) n)

-- A place up to which all is delivered, and which is not delivered, is the end of the stream.
pub reach_of_run : (s : Counts) (owner : ℕ) (places : ℕ → Option State) (packets : List PacketValue) (n : ℕ) →
    ((place : ℕ) → state_in s (places place) ≡ state s (takes_at owner place packets)) →
    ((place : ℕ) → place < n → IsSome (delivered_in (places place))) → delivered_in (places n) ≡ None →
    reach s owner packets ≡ n
reach_of_run s owner places packets n is run ends =
    ends_agree (stream s owner packets) n (λ place. delivered_in (places place))
    (λ place h. delivered_is s (places place) (takes_at owner place packets) (is place)
    ∙ stream_is_exact_lem s owner packets place h) run ends

-- the reach is no more than there are places
pub reach_within : (s : Counts) (a : OwnerStream) → IsOwnerStream s a → reach_in a ≤ place_count
reach_within s a kept =
    ⊎_elim
    (λ (past : place_count < reach_in a).
    absurd (none_or_some _ (ap delivered_in (kept.in_range place_count (le_refl _))) (kept.run place_count past)))
    (λ (within : reach_in a ≤ place_count). within)
    (cases_lt place_count (reach_in a))

echo_is : (s : Counts) (slot : Option State) (takes : List Take) → state_in s slot ≡ state s takes
    → option_and_then (λ st. st.echoed) slot ≡ echoed takes
unfolding state
echo_is s None takes e = sym echoed-none ∙ ap (λ st. st.echoed) e
echo_is s (Some st) takes e = ap (λ st. st.echoed) e

ready_is : (s : Counts) (slot : Option State) (takes : List Take) → state_in s slot ≡ state s takes
    → option_and_then (λ st. st.readied) slot ≡ readied s takes
unfolding state
ready_is s None takes e = sym (readied-none s) ∙ ap (λ st. st.readied) e
ready_is s (Some st) takes e = ap (λ st. st.readied) e

-- what was sent at a place is what the messages there make the node send
pub again_is : (s : Counts) (owner place : ℕ) (slot : Option State) (packets : List PacketValue)
    → state_in s slot ≡ state s (takes_at owner place packets) →
    again_in slot ≡ again_due s owner place packets
again_is s owner place slot packets e =
    let echo = echo_is s slot (takes_at owner place packets) e in
    let ready = ready_is s slot (takes_at owner place packets) e in
    λ i. record { echo = echo i; ready = ready i }

pub reach_is_due : (s : Counts) (owner : ℕ) (a : OwnerStream) (packets : List PacketValue) → IsOwnerStream s a
    → AreStatesOf s owner a packets →
    (reach_in a) ≡ reach s owner packets
reach_is_due s owner a packets kept is =
    sym (reach_of_run s owner (held a) packets (reach_in a) is.at_each_place kept.run kept.run_ends)

-- the command at a place before the reach is the stream's
pub command_is_due : (s : Counts) (owner place : ℕ) (a : OwnerStream) (packets : List PacketValue) → IsOwnerStream s a
    → AreStatesOf s owner a packets →
    command_in a place ≡ slice_get (stream s owner packets) place
command_is_due s owner place a packets kept is =
    let end : (reach_in a) ≡ reach s owner packets = reach_is_due s owner a packets kept is in
    ⊎_elim
    (λ (before : place < (reach_in a)).
    let test : nat_lt place (reach_in a) ≡ true = grind (arith, nat_tests) in
    rw test refl
    ∙ delivered_is s (held a place) (takes_at owner place packets) (is.at_each_place place)
    ∙ stream_is_exact_lem s owner packets place (omega arith))
    (λ (past : (reach_in a) ≤ place).
    let test : nat_lt place (reach_in a) ≡ false = grind (arith, nat_tests) in
    rw test refl ∙ sym (slice_get_past (stream s owner packets) place (omega arith)))
    (cases_lt place (reach_in a))
