use Rattle.std.proofs.Common.{◌≡◌, ℕ, ◌+◌, List, [], ◌∷◌, ◌++◌, ap, sym, ◌∙◌, arith}
use Rattle.std.proofs.lemmas.List.FromFn.{map-range_with_len_more}
use Rattle.node_lock.specs.Seats.{Sitting, new_seat, new_seats}
use Rattle.node_lock.proofs.shared.make_seats.Goals as goal

pub loop-number-preserved : goal.loop-number-preserved
loop-number-preserved g c = record {
  parts = omega arith;
  amount = omega arith;
  made =
      c.in_ok-push.ensures.items ∙ ap (λ (s : Sitting). c.loop-number.made.items ++ s ∷ []) c.new.ensures
      ∙ ap (λ (ss : List Sitting). ss ++ new_seat c.loop-number.number ∷ []) c.loop-number.invariant.made
      ∙ sym (map-range_with_len_more new_seat 0 c.loop-number.number c.loop-number.number (omega arith));
  count = c.in_ok-push.ensures.len ∙ ap (λ (n : ℕ). n + 1) c.loop-number.invariant.count;
}

pub returns-clause-seats : goal.returns-clause-seats
returns-clause-seats g c =
    let end : c.loop-number.number ≡ c.args.seats = omega arith in
    c.loop-number.invariant.made ∙ ap new_seats end
