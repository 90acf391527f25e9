-- How an owner's stream and a peer stand, where that is seen.
use Rattle.std.proofs.Common.{◌≡◌, ◌≢◌, ℕ, ◌<◌, ◌≤◌, sym, ap, ◌∙◌, arith}
use Rattle.std.specs.Prelude.{Bool, true, false, ◌==◌, ◌&&◌, nat_le, nat_lt, if◌then◌else◌, Some, None}
use Rattle.std.specs.Prelude.{IfOk, OnOk, IfErr}
use Rattle.std.specs.Result.{result_ok}
use Rattle.std.specs.declared.result.Result.{Result}
use Rattle.std.specs.declared.result.Result.TheVariants.{Ok, Err}
use Rattle.std.proofs.lemmas.Bool.Decides.{nat_tests}
use Rattle.node_lock.specs.Holds.{Held, Fits, IsMisfit, end_of, count_of}
use Rattle.node_lock.specs.Seats.{Sitting}
use Rattle.node_lock.specs.Views.{node_count}
use Rattle.node_lock.specs.declared.locked.StepFault.{StepFault}
use Rattle.node_lock.specs.declared.locked.StepFault.TheVariants.{Behind, Strange, Memory}
use Rattle.peer_windows.specs.Sent.{level_at}
use Rattle.peer_windows.specs.Notes.{seat_fits, level_seen}
use Rattle.peer_windows.specs.declared.seen.Level.{Level}

both_within : (a b c d : ℕ) → a ≤ b → c ≡ d → (nat_le a b && (c == d)) ≡ true
both_within a b c d within same = grind (arith, nat_tests)

beyond_first : (a b c d : ℕ) → b < a → (nat_le a b && (c == d)) ≡ false
beyond_first a b c d beyond = grind (arith, nat_tests)

other_second : (a b c d : ℕ) → c ≢ d → (nat_le a b && (c == d)) ≡ false
other_second a b c d other = grind (arith, nat_tests)

seat_fits_so : (h : Held) (s : Sitting) → Fits h s → seat_fits h s ≡ true
seat_fits_so h s fits = both_within s.seen (end_of h) (count_of h s.number) s.count fits.seen fits.count

seat_misfits_so : (h : Held) (s : Sitting) (fault : StepFault) → IsMisfit h s fault → seat_fits h s ≡ false
seat_misfits_so h s (Behind seen found) misfit =
    beyond_first s.seen (end_of h) (count_of h s.number) s.count misfit.2
seat_misfits_so h s (Strange recorded found) misfit =
    other_second s.seen (end_of h) (count_of h s.number) s.count misfit.3
seat_misfits_so h s Memory misfit = absurd misfit

both_below : (a b c d : ℕ) → a < b → c < d → (nat_lt a b && nat_lt c d) ≡ true
both_below a b c d below low = grind (arith, nat_tests)

-- what is told where the owner and the peer are nodes
pub level_told : (h : Held) (s : Sitting) (owner peer : ℕ) (result : Result Level StepFault) →
    owner < node_count h → peer < node_count h → IfOk result (λ level. level ≡ level_at h owner peer) →
    OnOk result (Fits h s) → IfErr result (IsMisfit h s) → result_ok result ≡ level_seen h s owner peer
level_told h s owner peer (Ok level) here there is fits bad =
    let both = both_below owner (node_count h) peer (node_count h) here there in
    ap Some is
    ∙ sym (ap (λ (b : Bool). if b && seat_fits h s then Some (level_at h owner peer) else None) both
    ∙ ap (λ (b : Bool). if true && b then Some (level_at h owner peer) else None) (seat_fits_so h s fits))
level_told h s owner peer (Err fault) here there is fits bad =
    let both = both_below owner (node_count h) peer (node_count h) here there in
    sym (ap (λ (b : Bool). if b && seat_fits h s then Some (level_at h owner peer) else None) both
    ∙ ap (λ (b : Bool). if true && b then Some (level_at h owner peer) else None) (seat_misfits_so h s fault bad))
