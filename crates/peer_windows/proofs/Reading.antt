-- What was read under the lock, place by place.
use Rattle.std.proofs.Common.{◌≡◌, ℕ, zero, suc, ◌+◌, ◌-◌, ◌≤◌, List, [], ◌∷◌, ◌++◌, length, take, refl, sym, ap}
use Rattle.std.proofs.Common.{◌∙◌, subst, arith, append-nil, append_assoc, length-append, ◌≢◌}
use Rattle.std.specs.Prelude.{max, IsErrAnd, IfErr}
use Rattle.std.specs.declared.result.Result.{Result}
use Rattle.std.specs.declared.result.Result.TheVariants.{Ok, Err}
use Rattle.std.specs.List.{flat_map, range_with_len}
use Rattle.std.proofs.lemmas.Grind.{flat_map-append}
use Rattle.std.proofs.lemmas.List.{length-take, take-take, take_at}
use Rattle.link_frames.specs.declared.frames.packet.Message.{Message}
use Rattle.role_node.specs.Windows.{messages_of}
use Rattle.role_node.specs.declared.event.NodeAgain.{NodeAgain}
use Rattle.node_lock.specs.Holds.{Held, Fits, IsMisfit, count_of, seat_after_question}
use Rattle.node_lock.specs.Seats.{Sitting}
use Rattle.node_lock.specs.declared.locked.StepFault.{StepFault}
use Rattle.node_lock.specs.declared.locked.StepFault.TheVariants.{Behind, Strange, Memory}
use Rattle.peer_windows.specs.Sent.{IsReadFault, reach_of, sent_there, sent_between, outstanding_of}
use Rattle.owner_streams.specs.Places.{window}

-- a seat that fitted once fits again, so a later fault is none of the seat
pub fault_before : (h : Held) (s t : Sitting) (fault : StepFault) → t ≡ seat_after_question h s → Fits h s →
    IsReadFault h t fault → IsReadFault h s fault
fault_before h s t (Behind seen found) e fits misfit = absurd (omega (arith, misfit.0, misfit.2, ap (λ x. x.seen) e))
fault_before h s t (Strange recorded found) e fits misfit =
    absurd (subst (λ x. count_of h x.number ≢ x.count) e misfit.3 fits.count)
fault_before h s t Memory e fits again = fits

-- the same, where what is behind the lock is known to be that
pub fault_on : (h now : Held) (s t : Sitting) (fault : StepFault) → now ≡ h → t ≡ seat_after_question now s →
    Fits now s → IsReadFault h t fault → IsReadFault h s fault
fault_on h now s t fault same e fits bad =
    fault_before h s t fault (subst (λ x. t ≡ seat_after_question x s) same e) (subst (λ x. Fits x s) same fits) bad

-- a misfit of the seat is a fault of reading
pub misfit_read : (h now : Held) (s : Sitting) (fault : StepFault) → now ≡ h → IsMisfit now s fault →
    IsReadFault h s fault
misfit_read h now s (Behind seen found) same misfit = subst (λ x. IsMisfit x s (Behind seen found)) same misfit
misfit_read h now s (Strange recorded found) same misfit =
    subst (λ x. IsMisfit x s (Strange recorded found)) same misfit
misfit_read h now s Memory same misfit = absurd misfit

-- what holds of the fault that a result tells
pub fault_told : {T : Type 0} (result : Result T StepFault) (fault : StepFault) (P : StepFault → Type 0) →
    IsErrAnd result (λ e. e ≡ fault) → P fault → IfErr result P
fault_told (Ok x) fault P is holds = tt
fault_told (Err e) fault P is holds = subst P (sym is) holds

-- what begins a list begins it with more behind
pub at_begin : (xs ys zs : List Message) → take (length xs) ys ≡ xs → take (length ys) zs ≡ ys →
    take (length xs) zs ≡ xs
at_begin xs ys zs e f =
    let short : length xs ≤ length ys = omega (arith, ap length e, length-take (length xs) ys) in
    sym (take-take (length xs) (length ys) zs short) ∙ ap (take (length xs)) f ∙ e

-- numbers from one on, and one more
range-more : (a n : ℕ) → range_with_len a (n + 1) ≡ range_with_len a n ++ (a + n) ∷ []
range-more a zero = grind arith
range-more a (suc n) =
    let rest = range-more (a + 1) n in
    let same : (a + 1) + n ≡ a + suc n = omega arith in
    grind (arith, rest, same)

-- what was sent from a place on, with one place more
pub sent_between-more : (h : Held) (owner from place : ℕ) → from ≤ place →
    sent_between h owner from (place + 1) ≡
    sent_between h owner from place ++ messages_of owner place (sent_there h owner place)
sent_between-more h owner from place onward =
    let f : ℕ → List Message = λ at. messages_of owner at (sent_there h owner at) in
    let more : place + 1 - from ≡ (place - from) + 1 = omega arith in
    let last : from + (place - from) ≡ place = omega arith in
    let before : List ℕ = range_with_len from (place - from) in
    let one : flat_map f ((from + (place - from)) ∷ []) ≡ f place =
    append-nil (f (from + (place - from))) ∙ ap f last in
    ap (λ n. flat_map f (range_with_len from n)) more
    ∙ ap (flat_map f) (range-more from (place - from))
    ∙ flat_map-append f before ((from + (place - from)) ∷ [])
    ∙ ap (λ xs. flat_map f before ++ xs) one

-- messages, with those of one place more
pub one_place_more : (h : Held) (owner from place : ℕ) (before items now : List Message) (again : NodeAgain) →
    from ≤ place → items ≡ before ++ sent_between h owner from place → again ≡ sent_there h owner place →
    now ≡ items ++ messages_of owner place again → now ≡ before ++ sent_between h owner from (place + 1)
one_place_more h owner from place before items now again onward was is pushed =
    let here : List Message = messages_of owner place (sent_there h owner place) in
    pushed
    ∙ ap (λ x. items ++ messages_of owner place x) is
    ∙ ap (λ xs. xs ++ here) was
    ∙ append_assoc before (sent_between h owner from place) here
    ∙ ap (λ xs. before ++ xs) (sym (sent_between-more h owner from place onward))

-- at the end of the places
pub sent_between-end : (h : Held) (owner from to place : ℕ) → from ≤ place → to ≤ place → place ≤ max from to →
    sent_between h owner from place ≡ sent_between h owner from to
sent_between-end h owner from to place onward past within =
    let same : place - from ≡ to - from = omega arith in
    ap (λ n. flat_map (λ at. messages_of owner at (sent_there h owner at)) (range_with_len from n)) same

-- and counted
pub one_count_more : (h : Held) (owner from place count more : ℕ) (again : NodeAgain) → from ≤ place →
    count ≡ length (sent_between h owner from place) → again ≡ sent_there h owner place →
    more ≡ length (messages_of owner place again) → count + more ≡ length (sent_between h owner from (place + 1))
one_count_more h owner from place count more again onward was is counted =
    let here : List Message = messages_of owner place (sent_there h owner place) in
    let last : more ≡ length here = counted ∙ ap (λ x. length (messages_of owner place x)) is in
    let all : length (sent_between h owner from (place + 1)) ≡ length (sent_between h owner from place) + length here =
    ap length (sent_between-more h owner from place onward) ∙ length-append (sent_between h owner from place) here in
    omega (arith, was, last, all)

-- what was counted from the reach on
pub open_count_is : (h now : Held) (owner reach count : ℕ) → now ≡ h → reach ≡ reach_of h owner →
    count ≡ length (sent_between now owner reach (reach + window)) → count ≡ outstanding_of h owner
open_count_is h now owner reach count same at is =
    let all : reach + window - reach ≡ window = omega arith in
    is
    ∙ ap (λ x. length (sent_between x owner reach (reach + window))) same
    ∙ ap (λ n. length (flat_map (λ p. messages_of owner p (sent_there h owner p)) (range_with_len reach n))) all
    ∙ ap (λ r. length (flat_map (λ p. messages_of owner p (sent_there h owner p)) (range_with_len r window))) at

-- what begins a list begins it with more behind
pub begins_more : (xs ys zs more : List Message) → ys ≡ xs ++ more → take (length ys) zs ≡ ys →
    take (length xs) zs ≡ xs
begins_more xs ys zs more e f =
    at_begin xs ys zs (ap (take (length xs)) e ∙ take_at xs more (length xs) refl) f
