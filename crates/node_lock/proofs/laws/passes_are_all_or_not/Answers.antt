use Rattle.std.proofs.Common.{◌≡◌, ◌+◌, ◌∷◌, ◌++◌, refl, arith}
use Rattle.std.specs.Prelude.{sum_by}
use Rattle.std.proofs.lemmas.List.Sums.{sum_by-append, sum_by-cons}
use Rattle.node_lock.specs.Inboxes.{parts_of}
use Rattle.node_lock.proofs.laws.passes_are_all_or_not.Goals as goal

pub returns-clause-stay : goal.returns-clause-stay
returns-clause-stay c p job = (refl, refl)

pub returns-clause-absent : goal.returns-clause-absent
returns-clause-absent c here absent p some all few =
    let a : sum_by parts_of (here ++ p ∷ absent) ≡ sum_by parts_of here + sum_by parts_of (p ∷ absent) =
    sum_by-append parts_of here (p ∷ absent) in
    let b : sum_by parts_of (p ∷ absent) ≡ p.parts + sum_by parts_of absent = sum_by-cons parts_of p absent in
    absurd (omega arith)
