-- What reading does to a seat.
use Rattle.std.proofs.Common.{◌≡◌, ◌∙◌, ap, subst, inl, inr, arith, ◌≢◌}
use Rattle.node_lock.specs.Holds.{Held, Fits, IsMisfit, count_of, seat_after_question}
use Rattle.node_lock.specs.Seats.{Sitting}
use Rattle.node_lock.specs.declared.locked.StepFault.{StepFault}
use Rattle.node_lock.specs.declared.locked.StepFault.TheVariants.{Behind, Strange, Memory}
use Rattle.peer_windows.specs.Sent.{IsReadFault, IsSeatAfter}
use Rattle.peer_windows.specs.Owed.{IsGatherFault}
use Rattle.peer_windows.proofs.Reading.{fault_before, at_begin}

-- it stays
pub seat_same : (h : Held) (s t : Sitting) → t ≡ s → IsSeatAfter h s t
seat_same h s t same = record { seat = inl same }

-- it is read with once
pub seat_read : (h : Held) (s t : Sitting) → t ≡ seat_after_question h s → Fits h s → IsSeatAfter h s t
seat_read h s t is fits = record { seat = inr (fits, is) }

-- the same, where what is behind the lock is known to be that
pub seat_read_on : (h now : Held) (s t : Sitting) → now ≡ h → t ≡ seat_after_question now s → Fits now s →
    IsSeatAfter h s t
seat_read_on h now s t same is fits =
    subst (λ x. IsSeatAfter x s t) same (seat_read now s t is fits)

-- it is read with again
pub seat_more : (h : Held) (s t u : Sitting) → IsSeatAfter h s t → IsSeatAfter h t u → IsSeatAfter h s u
seat_more h s t u first next =
    elim first.seat [
      | inl same ↦ subst (λ x. IsSeatAfter h x u) same next
      | inr was ↦ elim next.seat [
        | inl still ↦ record { seat = inr (was.0, still ∙ was.1) }
        | inr now ↦ record { seat = inr (was.0, now.1 ∙ ap (seat_after_question h) was.1) }
      ]
    ]

-- a fault of reading is one of gathering
pub gather_fault_read : (h : Held) (s : Sitting) (fault : StepFault) → IsReadFault h s fault → IsGatherFault h s fault
gather_fault_read h s (Behind seen found) bad = bad
gather_fault_read h s (Strange recorded found) bad = bad
gather_fault_read h s Memory bad = tt

no_misfit : (h : Held) (s t : Sitting) (fault : StepFault) → t ≡ seat_after_question h s → Fits h s →
    IsMisfit h t fault → ⊥
no_misfit h s t (Behind seen found) is fits misfit = omega (arith, misfit.2, ap (λ x. x.seen) is)
no_misfit h s t (Strange recorded found) is fits misfit =
    subst (λ x. count_of h x.number ≢ x.count) is misfit.3 fits.count
no_misfit h s t Memory is fits misfit = misfit

-- a fault of gathering later is one of gathering before
pub gather_fault_since : (h : Held) (s t : Sitting) (fault : StepFault) → IsSeatAfter h s t → IsGatherFault h t fault →
    IsGatherFault h s fault
gather_fault_since h s t (Behind seen found) after bad =
    elim after.seat [
      | inl same ↦ subst (λ x. IsMisfit h x (Behind seen found)) same bad
      | inr was ↦ absurd (no_misfit h s t (Behind seen found) was.1 was.0 bad)
    ]
gather_fault_since h s t (Strange recorded found) after bad =
    elim after.seat [
      | inl same ↦ subst (λ x. IsMisfit h x (Strange recorded found)) same bad
      | inr was ↦ absurd (no_misfit h s t (Strange recorded found) was.1 was.0 bad)
    ]
gather_fault_since h s t Memory after bad = tt

-- the same, where what is behind the lock is known to be that
pub seat_on : (h now : Held) (s t u : Sitting) → now ≡ h → IsSeatAfter h s t → IsSeatAfter now t u → IsSeatAfter h s u
seat_on h now s t u same first next = seat_more h s t u first (subst (λ x. IsSeatAfter x t u) same next)

pub gather_fault_on : (h now : Held) (s t : Sitting) (fault : StepFault) → now ≡ h → IsSeatAfter h s t →
    IsGatherFault now t fault → IsGatherFault h s fault
gather_fault_on h now s t fault same after bad =
    gather_fault_since h s t fault after (subst (λ x. IsGatherFault x t fault) same bad)

pub ruleset seats = (seat_same, seat_read, seat_more)

pub ruleset reading = (fault_before, at_begin, seat_same, seat_read, seat_more)

pub ruleset gather_seats = (seat_same, seat_read, seat_more, gather_fault_read, gather_fault_since)
