-- A seat that was just made fits the node that it is made for.
use Rattle.std.proofs.Common.{◌≡◌, ℕ, ◌<◌, ◌++◌, List, [], ◌∷◌, length, length-append, refl, sym, subst, arith}
use Rattle.std.specs.Prelude.{◌==◌, All, count_by}
use Rattle.std.specs.List.{range_with_len}
use Rattle.std.proofs.Math.Seq.{get_or-append_seam}
use Rattle.std.proofs.lemmas.List.Elements.{All-map}
use Rattle.node_lock.specs.Holds.{Held, Fits}
use Rattle.node_lock.specs.Seats.{Sitting, new_seat, new_seats}

abbrev IsNew : Sitting → Type 0
IsNew s = (s.count ≡ 0) × (s.seen ≡ 0)

pub last_fits : (h : Held) (count : ℕ) (rest : List Sitting) (seat : Sitting) → h.seats ≡ [] →
    new_seats count ≡ rest ++ seat ∷ [] → Fits h seat
last_fits h count rest seat none are =
    let all : All IsNew (new_seats count) =
    All-map IsNew new_seat (range_with_len 0 count) (λ k d within. (refl, refl)) in
    let there : length rest < length (rest ++ seat ∷ []) = omega (arith, length-append rest (seat ∷ [])) in
    let is : IsNew seat = subst IsNew (get_or-append_seam rest seat [] seat)
    (subst (All IsNew) are all (length rest) seat there) in
    record {
      seen = omega (arith, is.1);
      count = subst (λ (l : List ℕ). count_by (λ n. n == seat.number) l ≡ seat.count) (sym none) (sym is.0);
    }
