-- What is read at the front of digits.
use Rattle.std.proofs.Common.{◌≡◌, ℕ, ◌+◌, ◌-◌, ◌<◌, Option, Some, None, List, ◌++◌, length, drop, ap, sym, ◌∙◌}
use Rattle.std.proofs.Common.{arith, length-append}
use Rattle.std.proofs.Math.Seq.{drop-append_seam}
use Rattle.std.specs.Prelude.{option_map}
use Rattle.quorum_sizes.specs.Sizes.{Counts, AreSizes}
use Rattle.role_node.specs.declared.event.Event.{Event}
use Rattle.kept_node.specs.Events.{event_digits, IsEventOf}
use Rattle.kept_node.specs.inside.EventReading.{event_at}
use Rattle.kept_node.proofs.FoundLemmas.{event_found}
use Rattle.kept_node.proofs.ReadingLemmas.{event_some, event_again}
use Rattle.kept_node.proofs.DigitLemmas.{some_pair}

pub record IsRead (s : Counts) (me : ℕ) (digits : List ℕ) (event : Event) (rest : List ℕ) : Type 0 where
  pub found : digits ≡ event_digits event ++ rest
  pub here : IsEventOf s me event
  pub less : length rest < length digits
  pub count : length digits - length rest ≡ length (event_digits event)
  pub behind : drop (length digits - length rest) digits ≡ rest

pub read_is : (s : Counts) (me : ℕ) (digits : List ℕ) (event : Event) (rest : List ℕ) →
    event_at s me digits ≡ Some (event, rest) → IsRead s me digits event rest
read_is s me digits event rest e =
    let f = event_found s me digits (event, rest) e in
    let long : length digits ≡ length (event_digits event) + length rest =
    ap length f.0 ∙ length-append (event_digits event) rest in
    let count : length digits - length rest ≡ length (event_digits event) = omega (arith, long) in
    record {
      found = f.0;
      here = f.1;
      less = omega (arith, long, event_some event);
      count = count;
      behind = (λ i. drop (count i) (f.0 i)) ∙ drop-append_seam (event_digits event) rest;
    }

-- what is not read is none
pub none_read : (f : Event → Event × List ℕ) (o : Option Event) (read : Option (Event × List ℕ))
    (x : Event × List ℕ) → option_map f o ≡ read → o ≡ None → read ≡ Some x → ⊥
none_read f None read x e none some = let apart : None ≡ Some x = e ∙ some in absurd cc
none_read f (Some event) read x e none some = absurd cc

-- the event at the front of digits, and how many they are
pub only_read : (s : Counts) (me : ℕ) (digits : List ℕ) (event : Event) (rest : List ℕ) → AreSizes s →
    event_at s me digits ≡ Some (event, rest) → (other : Event) (behind : List ℕ) → IsEventOf s me other →
    digits ≡ event_digits other ++ behind →
    ◌≡◌ {A = Option (Event × ℕ)} (Some (event, length digits - length rest)) (Some (other, length (event_digits other)))
only_read s me digits event rest sizes read other behind here e =
    let again : event_at s me digits ≡ Some (other, behind) =
    ap (event_at s me) e ∙ event_again s me other behind sizes here in
    let same = some_pair event other rest behind (sym read ∙ again) in
    let count = (read_is s me digits event rest read).count in
    λ i. Some (same.0 i, (count ∙ ap (λ (x : Event). length (event_digits x)) same.0) i)
