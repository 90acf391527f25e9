-- What an instance sends and delivers by one more message, kept or made for it.
use Rattle.std.proofs.Common.{◌≡◌, List, [], ◌∷◌, ◌++◌, Option, Result, Ok, Err, sym, ◌∙◌, subst}
use Rattle.std.specs.Prelude.{IfOk}
use Rattle.std.specs.declared.alloc.AllocError.{AllocError}
use Rattle.quorum_sizes.specs.Sizes.{Counts}
use Rattle.bracha_instance.specs.Broadcast.{Take}
use Rattle.bracha_instance.specs.States.{State, state}
use Rattle.bracha_instance.specs.NewTakes.{taken_for}
use Rattle.bracha_instance.specs.Taking.{newly_sent, newly_delivered}
use Rattle.bracha_instance.specs.declared.instance.Caused.{Caused}
use Rattle.owner_streams.specs.inside.Slots.{state_in, IsAnswerAt}

-- what the instance's own contract says of the answer to t is what is due to u, the same message
pub is_taken : (s : Counts) (slot : Option State) {now : State} {t u : Take} (caused : Caused)
    → state_in s slot ≡ now → t ≡ u →
    ((takes : List Take) → now ≡ state s takes
    → (taken_for t.command caused).broadcast ≡ newly_sent s takes (takes ++ t ∷ [])) →
    ((takes : List Take) → now ≡ state s takes
    → (taken_for t.command caused).delivered ≡ newly_delivered s takes (takes ++ t ∷ [])) →
    IsAnswerAt s slot u caused
is_taken s slot {now = now} caused same e sent delivered =
    subst (λ x. IsAnswerAt s slot x caused) e
    (λ takes is.
    let at_now : now ≡ state s takes = sym same ∙ is in
    record { broadcast = sent takes at_now; delivered = delivered takes at_now })

pub is_taken_if_ok : (s : Counts) (slot : Option State) {now : State} {t u : Take} (r : Result Caused AllocError)
    → state_in s slot ≡ now → t ≡ u →
    IfOk r (λ caused. (takes : List Take) → now ≡ state s takes
    → (taken_for t.command caused).broadcast ≡ newly_sent s takes (takes ++ t ∷ [])) →
    IfOk r (λ caused. (takes : List Take) → now ≡ state s takes
    → (taken_for t.command caused).delivered ≡ newly_delivered s takes (takes ++ t ∷ [])) →
    IfOk r (IsAnswerAt s slot u)
is_taken_if_ok s slot (Ok caused) same e sent delivered = is_taken s slot caused same e sent delivered
is_taken_if_ok s slot (Err x) same e sent delivered = tt
