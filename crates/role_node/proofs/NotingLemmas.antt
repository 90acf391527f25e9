-- What a node notes of its history when one more event comes.
use Rattle.std.proofs.Common.{◌≡◌, ℕ, zero, suc, ◌+◌, ◌<◌, ◌≤◌, ⊎_elim, Bool, true, false, ◌||◌, not, ◌==◌, List, [], ◌∷◌, ◌++◌}
use Rattle.std.proofs.Common.{length, get_or, Option, Some, None, refl, sym, ap, ◌∙◌, subst, arith, length-append}
use Rattle.std.specs.Prelude.{slice_get}
use Rattle.std.specs.Bool.{Decides}
use Rattle.std.proofs.lemmas.Bool.{cases_lt}
use Rattle.quorum_sizes.specs.Sizes.{Counts}
use Rattle.role_commands.specs.Same.{same_command}
use Rattle.role_commands.specs.declared.command.Command.{Command}
use Rattle.role_commands.proofs.Exported.{same_command-self, same_command_is}
use Rattle.link_frames.specs.frames.Packets.{PacketValue}
use Rattle.link_frames.specs.declared.frames.packet.Message.{Message}
use Rattle.owner_streams.specs.Places.{reach}
use Rattle.owner_streams.specs.declared.steps.StreamStep.{StreamStep}
use Rattle.role_sessions.specs.declared.event.ClientEvent.{ClientEvent}
use Rattle.role_node.specs.declared.event.Event.{Event}
use Rattle.role_node.specs.declared.event.Event.TheVariants.{Issue, Take, Client}
use Rattle.role_node.specs.declared.event.Reply.TheVariants as reply
use Rattle.role_node.specs.declared.noted.Noted.{Noted}
use Rattle.role_node.specs.Access.{stream_at, reach_at}
use Rattle.role_node.specs.Answers.{counted_reply}
use Rattle.role_node.specs.Histories.{issued, packets, client_events}
use Rattle.role_node.specs.inside.Noting.{IsNotedOf, IsIssuedAt, AreIssued}
use Rattle.role_node.proofs.BegunLemmas.{begun-Issue, begun-Client, begun-other, begun-own}
use Rattle.role_node.proofs.HistoryLemmas.{client_events-Issue, client_events-Take, client_events-Client, packets-Take}

-- Places.

pub at_place : (xs : List Command) (k : ℕ) (x : Command) → k < length xs → x ≡ get_or xs k x → slice_get xs k ≡ Some x
at_place [] k x h e = absurd (omega arith)
at_place (y ∷ xs) zero x h e = ap Some (sym e)
at_place (y ∷ xs) (suc k) x h e = at_place xs k x (omega (arith, h)) e

pub past_end : (xs : List Command) (k : ℕ) → length xs ≤ k → slice_get xs k ≡ None
past_end [] k h = refl
past_end (y ∷ xs) zero h = absurd (omega arith)
past_end (y ∷ xs) (suc k) h = past_end xs k (omega (arith, h))

two_one : {A : Type 0} (x y : A) → Some x ≡ Some y → x ≡ y
two_one x y e = cc

-- what is delivered there is compared with what was issued there
pub is_compared : (s : Counts) (me : ℕ) (history : List Event) (place : ℕ) (delivered own : Command) (same : Bool) →
    slice_get (stream_at s history me) place ≡ Some delivered → slice_get (issued history) place ≡ Some own →
    same ≡ same_command own delivered → Decides same (IsIssuedAt s me history place)
is_compared s me history place delivered own same there mine is = (
  (λ e c at.
      let one : own ≡ delivered = same_command_is own delivered (sym is ∙ e) in
      mine ∙ ap Some one ∙ sym there ∙ at),
  (λ issued'.
      let one : own ≡ delivered = two_one own delivered (sym mine ∙ issued' delivered there) in
      is ∙ ap (same_command own) (sym one) ∙ same_command-self own),
)

-- nothing was issued there
pub is_missing : (s : Counts) (me : ℕ) (history : List Event) (place : ℕ) (delivered : Command) →
    slice_get (stream_at s history me) place ≡ Some delivered → slice_get (issued history) place ≡ None →
    Decides false (IsIssuedAt s me history place)
is_missing s me history place delivered there none = (
  (λ e. absurd cc),
  (λ issued'. let both : None ≡ Some delivered = sym none ∙ issued' delivered there in absurd cc),
)

-- one more place
pub are_more : (s : Counts) (me : ℕ) (history : List Event) (from place : ℕ) → AreIssued s me history from place →
    IsIssuedAt s me history place → AreIssued s me history from (place + 1)
are_more s me history from place are is k low high =
    ⊎_elim
    (λ (early : k < place). are k low early)
    (λ (late : place ≤ k).
    let same : place ≡ k = omega (arith, late, high) in
    subst (IsIssuedAt s me history) same is)
    (cases_lt k place)

-- Answers.

-- the new places that a reply names are those of the step
pub places_of : (send : Option Message) (delivered : Option Command) (from to : ℕ) (p : PacketValue)
    (step : StreamStep) → reply.Counted send delivered from to ≡ counted_reply p step →
    (from ≡ step.from) × (to ≡ step.to)
places_of send delivered from to p step e = (cc, cc)

pub told_now : (was same : Bool) → same ≡ false → true ≡ (was || not same)
told_now true same e = refl
told_now false same e = sym (ap not e)

pub told_before : (was same : Bool) → same ≡ true → was ≡ (was || not same)
told_before true same e = refl
told_before false same e = sym (ap not e)

-- Events.

pub noted-Issue : (s : Counts) (me : ℕ) (history : List Event) (c : Command) {a : Noted} → IsNotedOf s me history a →
    IsNotedOf s me (history ++ Issue c ∷ []) a
noted-Issue s me history c is = record {
  acts = is.acts ∙ ap length (sym (client_events-Issue history c));
  begun_twice = is.begun_twice ∙ sym (begun-Issue s me history c);
}

pub noted-Client : (s : Counts) (me : ℕ) (history : List Event) (act : ClientEvent) {a b : Noted} →
    IsNotedOf s me history a → b.acts ≡ a.acts + 1 → b.begun_twice ≡ a.begun_twice →
    IsNotedOf s me (history ++ Client act ∷ []) b
noted-Client s me history act is more same = record {
  acts = more ∙ ap (λ n. n + 1) is.acts ∙ sym (length-append (client_events history) (act ∷ []))
      ∙ ap length (sym (client_events-Client history act));
  begun_twice = same ∙ is.begun_twice ∙ sym (begun-Client s me history act);
}

pub noted-other : (s : Counts) (me : ℕ) (history : List Event) (p : PacketValue) {a : Noted} →
    (p.owner == me) ≡ false → IsNotedOf s me history a → IsNotedOf s me (history ++ Take p ∷ []) a
noted-other s me history p other is = record {
  acts = is.acts ∙ ap length (sym (client_events-Take history p));
  begun_twice = is.begun_twice ∙ sym (begun-other s me history p other);
}

-- a packet of the own stream, whose new places were compared
pub noted-own : (s : Counts) (me : ℕ) (history : List Event) (p : PacketValue) {a b : Noted} (from to : ℕ)
    (same : Bool) → p.owner ≡ me → IsNotedOf s me history a →
    from ≡ reach s p.owner (packets history) → to ≡ reach s p.owner (packets history ++ p ∷ []) →
    Decides same (AreIssued s me (history ++ Take p ∷ []) from to) → b.acts ≡ a.acts →
    b.begun_twice ≡ (a.begun_twice || not same) → IsNotedOf s me (history ++ Take p ∷ []) b
noted-own s me history p from to same own is low high decides acts begun =
    let P : ℕ → ℕ → Type 0 = λ x y. Decides same (AreIssued s me (history ++ Take p ∷ []) x y) in
    let low' : from ≡ reach_at s history me = low ∙ ap (λ o. reach s o (packets history)) own in
    let high' : to ≡ reach_at s (history ++ Take p ∷ []) me =
    high ∙ ap (λ o. reach s o (packets history ++ p ∷ [])) own ∙ ap (reach s me) (sym (packets-Take history p)) in
    let told = begun-own s me history p same (subst (λ x. P x (reach_at s (history ++ Take p ∷ []) me)) low'
    (subst (P from) high' decides)) in
    record {
      acts = acts ∙ is.acts ∙ ap length (sym (client_events-Take history p));
      begun_twice = begun ∙ ap (λ b. b || not same) is.begun_twice ∙ sym told;
    }
