use Rattle.std.proofs.Common.{◌≡◌, ◌++◌, ◌∷◌, [], ℕ, ◌+◌, ◌-◌, ◌/◌, ◌%◌, suc, List, arith, append_assoc, append-nil}
use Rattle.std.proofs.Common.{ap, sym, ◌∙◌}
use Rattle.batch_journal.specs.Digits.{digits_of}
use Rattle.batch_journal.proofs.digits.push_digits.Goals as goal

pub loop-preserved : goal.loop-preserved
unfolding digits_of
loop-preserved c =
    let left = c.loop.left in
    let k = c.args.count - (c.loop.counter + 1) in
    let more : c.args.count - c.loop.counter ≡ suc k = omega arith in
    let was : c.loop.bytes.items ++ digits_of (suc k) left ≡ c.args.bytes.now.items ++ digits_of c.args.count
    c.args.number =
    ap (λ n. c.loop.bytes.items ++ digits_of n left) (sym more) ∙ c.loop.invariant.digits in
    record {
      digits = ap (λ (l : List ℕ). l ++ digits_of k (left / 120)) c.in_ok-push.ensures.items
          ∙ append_assoc c.loop.bytes.items ((129 + left % 120) ∷ []) (digits_of k (left / 120)) ∙ was;
      len = omega (arith, c.in_ok-push.ensures.len, c.loop.invariant.len);
      capacity = omega (arith, c.push.ensures.capacity, c.loop.invariant.capacity);
    }

pub returns-clause-digits : goal.returns-clause-digits
unfolding digits_of
returns-clause-digits c =
    let none : c.args.count - c.loop.counter ≡ 0 = omega arith in
    sym (append-nil c.loop.bytes.items) ∙ ap (λ n. c.loop.bytes.items ++ digits_of n c.loop.left) (sym none)
    ∙ c.loop.invariant.digits
