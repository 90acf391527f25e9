-- The effect that is looked up at what is kept is the one that is due.
use Rattle.std.proofs.Common.{◌≡◌, ◌+◌, ◌<◌, ◌≤◌, ⊎_elim, Bool, true, false, cond, List, [], ◌∷◌, ◌++◌}
use Rattle.std.proofs.Common.{ℕ, Option, Some, None, Ok, Err, refl, sym, ap, ◌∙◌, arith}
use Rattle.std.specs.Prelude.{nat_le, is_some}
use Rattle.std.proofs.lemmas.Bool.{cases_lt}
use Rattle.std.proofs.lemmas.Bool.Decides.{nat_tests}
use Rattle.quorum_sizes.specs.Sizes.{Counts}
use Rattle.role_commands.proofs.Exported.{same_Ok}
use Rattle.link_frames.specs.frames.Packets.{PacketValue, SentByOwner}
use Rattle.bracha_instance.proofs.Exported.{voted_at}
use Rattle.bracha_instance.specs.Broadcast.{Take, vote}
use Rattle.bracha_instance.specs.States.{State, state}
use Rattle.bracha_instance.specs.Taking.{SendsAreFrom}
use Rattle.bracha_instance.specs.declared.instance.Effect.TheVariants.{Idle, Counted}
use Rattle.owner_streams.specs.Places.{window, take_of, takes_at}
use Rattle.owner_streams.specs.Steps.{SendsAreOwners, step_due, effect_due}
use Rattle.owner_streams.specs.inside.Slots.{state_in, voted_in}
use Rattle.owner_streams.specs.inside.Kept.{reach_in, held, look_in, IsOwnerStream, AreStatesOf}
use Rattle.owner_streams.specs.declared.owner_stream.OwnerStream.{OwnerStream}
use Rattle.owner_streams.specs.declared.steps.StreamFault.TheVariants.{Beyond}
use Rattle.owner_streams.proofs.Reaching.{reach_is_due}
use Rattle.owner_streams.proofs.Senders.{one_sender}
use Rattle.owner_streams.proofs.Stepping.{due_beyond, due_within, look_is, look_within, none_voted}

voted_in_is : (s : Counts) (takes : List Take) (owner : ℕ) (t : Take) (slot : Option State)
    → state_in s slot ≡ state s takes → SendsAreFrom owner (takes ++ t ∷ [])
    → voted_in slot t.kind t.from ≡ is_some (vote t.kind t.from takes)
voted_in_is s takes owner t None is all = none_voted s takes t.kind t.from is
voted_in_is s takes owner t (Some st) is all = voted_at s takes owner t.kind t.from t.command st _ refl is all

pub look_in_is : (s : Counts) (a : OwnerStream) (p : PacketValue) (packets : List PacketValue) → IsOwnerStream s a
    → AreStatesOf s p.owner a packets → SendsAreOwners packets → SentByOwner p
    → look_in a p ≡ effect_due (step_due s packets p)
look_in_is s a p packets kept is sent by_owner =
    let reach = sym (reach_is_due s p.owner a packets kept is) in
    ⊎_elim
    (λ (within : p.place < reach_in a + window).
    let test : nat_le (reach_in a + window) p.place ≡ false = grind (arith, nat_tests) in
    let v = voted_in (held a p.place) p.kind p.from in
    let seen : look_in a p ≡ Ok (cond v Idle Counted) = rw test refl in
    seen
    ∙ look_is s packets p (cond v Idle Counted) v refl
    (voted_in_is s (takes_at p.owner p.place packets) p.owner (take_of p) (held a p.place) (is.at_each_place p.place)
    (one_sender packets p sent by_owner))
    (due_within s packets p (reach_in a) reach within))
    (λ (past : reach_in a + window ≤ p.place).
    let test : nat_le (reach_in a + window) p.place ≡ true = grind (arith, nat_tests) in
    let seen : look_in a p ≡ Err (Beyond p.place (reach_in a + window)) = rw test refl in
    seen ∙ sym (ap effect_due (due_beyond s packets p (reach_in a) reach past)))
    (cases_lt p.place (reach_in a + window))

counted_test : (b : Bool) → cond b Idle Counted ≡ Counted → b ≡ false
counted_test true e = absurd cc
counted_test false e = refl

-- a packet that counts was not taken at its place
pub look_counted : (a : OwnerStream) (p : PacketValue) → look_in a p ≡ Ok Counted
    → voted_in (held a p.place) p.kind p.from ≡ false
look_counted a p is =
    let within : p.place < reach_in a + window = look_within a p Counted (sym is) in
    let test : nat_le (reach_in a + window) p.place ≡ false = grind (arith, nat_tests) in
    let v = voted_in (held a p.place) p.kind p.from in
    let seen : look_in a p ≡ Ok (cond v Idle Counted) = rw test refl in
    counted_test v (same_Ok _ _ (sym seen ∙ is))
