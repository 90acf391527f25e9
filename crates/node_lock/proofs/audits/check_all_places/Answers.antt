use Rattle.std.proofs.Common.{◌≡◌, ℕ, ◌+◌, ◌-◌, ◌<◌, ◌≤◌, List, ◌++◌, length, take, drop}
use Rattle.std.proofs.Common.{Some, None, sym, ap, ◌∙◌, subst, arith}
use Rattle.std.specs.Prelude.{slice_get, All}
use Rattle.std.specs.Borrow.{Bor}
use Rattle.std.proofs.lemmas.List.{take_rest}
use Rattle.std.proofs.lemmas.Option.{slice_get_past}
use Rattle.std.proofs.lemmas.Result.{err_from_is_err_and}
use Rattle.role_node.specs.Nodes.{NodeValue, with_event}
use Rattle.node_lock.specs.Audits.{node_at, AreRightBefore}
use Rattle.node_lock.specs.inside.Walks.{receipts_of, IsRest, AreRightHere}
use Rattle.node_lock.specs.declared.receipt.Receipt.{Receipt}
use Rattle.node_lock.proofs.DueOutcomes.{one_further}
use Rattle.node_lock.proofs.Places.{next_rest, rest_after, within_all, later_ordered, least_first, none_first}
use Rattle.node_lock.proofs.AuditLemmas.{IsSplit, right_found, right_before, fault_found, audited, past_end}
use Rattle.node_lock.proofs.audits.check_all_places.Goals as goal

-- the references from an index on, as a slice of them is given
from_on : (sorted : List (Bor Receipt)) (done : ℕ) → receipts_of (take (length sorted - done) (drop done sorted))
    ≡ receipts_of (drop done sorted)
from_on sorted done = ap receipts_of (take_rest sorted done)

-- what was split off there: the receipts for a place, and those for later ones
split_of : (receipts : List Receipt) (place : ℕ) (sorted : List (Bor Receipt)) (done : ℕ) (here later : List Receipt) →
    IsRest receipts place (receipts_of (drop done sorted)) →
    receipts_of (take (length sorted - done) (drop done sorted)) ≡ here ++ later →
    All (λ (r : Receipt). r.place ≡ place) here → All (λ (r : Receipt). place < r.place) later →
    IsSplit receipts place (receipts_of (drop done sorted)) here later
split_of receipts place sorted done here later rest whole same above =
    record { rest_is = rest; whole = sym (from_on sorted done) ∙ whole; same = same; above = above }

-- at the end of the history, where all receipts for it are right
at_end : (node : NodeValue) (receipts : List Receipt) (sorted : List (Bor Receipt)) (done : ℕ) →
    (here later : List Receipt) (place end : ℕ) (replay : NodeValue) →
    place ≡ length node.history → end ≡ length node.history →
    IsRest receipts place (receipts_of (drop done sorted)) → AreRightBefore node receipts place →
    replay ≡ node_at node place →
    receipts_of (take (length sorted - done) (drop done sorted)) ≡ here ++ later →
    All (λ (r : Receipt). r.place ≡ end) here → All (λ (r : Receipt). end < r.place) later →
    AreRightHere replay None here →
    IsSplit receipts (length node.history) (receipts_of (drop done sorted)) here later
    × AreRightBefore node receipts (length node.history + 1)
at_end node receipts sorted done here later place end replay at ends rest before replayed whole same above right =
    let P : ℕ → Type 0 = λ n. IsRest receipts n (receipts_of (drop done sorted)) × AreRightBefore node receipts n
    × (replay ≡ node_at node n) in
    let Q : ℕ → Type 0 = λ n. All (λ (r : Receipt). r.place ≡ n) here × All (λ (r : Receipt). n < r.place) later in
    let p = subst P at (rest, before, replayed) in
    let q = subst Q ends (same, above) in
    let split = split_of receipts (length node.history) sorted done here later p.0 whole q.0 q.1 in (
      split,
      right_before node receipts (length node.history) p.1
          (right_found node receipts (length node.history) _ _ _ split (omega arith) replay None p.2
          (slice_get_past node.history (length node.history) (omega arith)) right),
    )

pub returns-in_err-check_recorded-clause-err : goal.returns-in_err-check_recorded-clause-err
returns-in_err-check_recorded-clause-err c =
    let split =
    split_of c.args.receipts.now c.loop-place.place c.as_slice-sorted.result.now c.loop-place.done _ _
    c.loop-place.invariant.rest c.split_at_place.ensures.whole c.split_at_place.ensures.here
    c.split_at_place.ensures.later in
    let p = err_from_is_err_and c.from_residual-in_err-check_recorded.result
    c.from_residual-in_err-check_recorded.ensures.1 in
    rw (p.1, p.2)
    (fault_found c.args.node.now c.args.receipts.now c.loop-place.place _ _ _ split c.loop-place.invariant.right _
    c.loop-place.replay (Some c.entry_at-entry.result.event) c.loop-place.invariant.replay
    c.entry_at-entry.ensures.event c.in_err-check_recorded.ensures.err)

pub loop-place-preserved : goal.loop-place-preserved
loop-place-preserved c =
    let split =
    split_of c.args.receipts.now c.loop-place.place c.as_slice-sorted.result.now c.loop-place.done _ _
    c.loop-place.invariant.rest c.split_at_place.ensures.whole c.split_at_place.ensures.here
    c.split_at_place.ensures.later in
    let within : c.loop-place.place ≤ length c.args.node.now.history = omega arith in
    let right =
    right_found c.args.node.now c.args.receipts.now c.loop-place.place _ _ _ split within
    c.loop-place.replay (Some c.entry_at-entry.result.event) c.loop-place.invariant.replay
    c.entry_at-entry.ensures.event
    c.in_ok-check_recorded.ensures.ok in
    let P : List Receipt → Type 0 = λ rs. IsRest c.args.receipts.now (c.loop-place.place + 1) rs in
    record {
      done =
          within_all c.as_slice-sorted.result.now c.loop-place.done c.split_at_place.result.0.now
          c.split_at_place.result.1.now
          c.loop-place.invariant.done split.whole;
      right = right_before c.args.node.now c.args.receipts.now c.loop-place.place c.loop-place.invariant.right right;
      rest =
          subst P
          (sym (rest_after c.as_slice-sorted.result.now c.loop-place.done c.split_at_place.result.0.now
          c.split_at_place.result.1.now split.whole))
          (next_rest c.args.receipts.now c.loop-place.place _ _ _ c.loop-place.invariant.rest split.whole
          c.split_at_place.ensures.here c.split_at_place.ensures.later);
      replay =
          c.in_ok-advance.ensures
          ∙ ap (λ (n : NodeValue). with_event n c.entry_at-entry.result.event)
          (c.in_ok-check_recorded.ensures.same ∙ c.loop-place.invariant.replay)
          ∙ one_further c.args.node.now c.loop-place.place c.entry_at-entry.result.event
          c.entry_at-entry.ensures.event;
    }

pub returns-in_err-check_place-clause-err : goal.returns-in_err-check_place-clause-err
returns-in_err-check_place-clause-err c =
    let ends : c.loop-place.place ≡ c.events-end.result = omega arith in
    let end : slice_get c.args.node.now.history c.events-end.result ≡ None =
    slice_get_past c.args.node.now.history c.events-end.result (omega arith) in
    let R : ℕ → Type 0 =
    λ n. IsRest c.args.receipts.now n (receipts_of (drop c.loop-place.done c.as_slice-sorted.result.now)) in
    let B : ℕ → Type 0 = λ n. AreRightBefore c.args.node.now c.args.receipts.now n in
    let split =
    split_of c.args.receipts.now c.events-end.result c.as_slice-sorted.result.now c.loop-place.done _ _
    (subst R ends c.loop-place.invariant.rest) c.split_at_place-2.ensures.whole c.split_at_place-2.ensures.here
    c.split_at_place-2.ensures.later in
    let p = err_from_is_err_and c.from_residual-in_err-check_place.result
    c.from_residual-in_err-check_place.ensures.1 in
    rw (p.1, p.2)
    (fault_found c.args.node.now c.args.receipts.now c.events-end.result _ _ _ split
    (subst B ends c.loop-place.invariant.right) _ c.loop-place.replay None
    (c.loop-place.invariant.replay ∙ ap (node_at c.args.node.now) ends) end c.in_err-check_place.ensures.err)

pub returns-in-Some-clause-err : goal.returns-in-Some-clause-err
returns-in-Some-clause-err c =
    let end =
    at_end c.args.node.now c.args.receipts.now c.as_slice-sorted.result.now c.loop-place.done _ _ c.loop-place.place
    c.events-end.result c.loop-place.replay (omega arith) c.events-end.ensures.count c.loop-place.invariant.rest
    c.loop-place.invariant.right c.loop-place.invariant.replay c.split_at_place-2.ensures.whole
    c.split_at_place-2.ensures.here c.split_at_place-2.ensures.later c.in_ok-check_place.ensures.ok in
    let first =
    least_first c.split_at_place-2.result.1.now c.in-Some.receipt.now (sym c.in-Some.ensures.value)
    (later_ordered _ _ _ end.0.whole end.0.rest_is.ordered) in
    past_end c.args.node.now c.args.receipts.now _ _ _ c.in-Some.receipt.now.now end.0 end.1 first.0 first.1

pub returns-clause-ok : goal.returns-clause-ok
returns-clause-ok c =
    let end =
    at_end c.args.node.now c.args.receipts.now c.as_slice-sorted.result.now c.loop-place.done _ _ c.loop-place.place
    c.events-end.result c.loop-place.replay (omega arith) c.events-end.ensures.count c.loop-place.invariant.rest
    c.loop-place.invariant.right c.loop-place.invariant.replay c.split_at_place-2.ensures.whole
    c.split_at_place-2.ensures.here c.split_at_place-2.ensures.later c.in_ok-check_place.ensures.ok in
    let none = none_first c.split_at_place-2.result.1.now (sym c.in-None.ensures.value) in
    let L : List Receipt → Type 0 = λ later. IsSplit c.args.receipts.now (length c.args.node.now.history)
    (receipts_of (drop c.loop-place.done c.as_slice-sorted.result.now))
    (receipts_of c.split_at_place-2.result.0.now) later in
    audited c.args.node.now c.args.receipts.now _ _ (subst L none end.0) end.1
