use Rattle.std.proofs.Common.{◌≡◌, ◌+◌, ◌++◌, ℕ, List, Bool, true, false, drop, ap, sym, ◌∙◌}
use Rattle.std.proofs.Common.{subst, arith, rules}
use Rattle.std.proofs.lemmas.List.{take_rest}
use Rattle.batch_journal.specs.Batches.{count_in, digits_in}
use Rattle.batch_journal.specs.Readings.{is_batch}
use Rattle.batch_journal.proofs.ReadingLemmas.{ReadSoFar, read_end, read_more}
use Rattle.batch_journal.proofs.reading.batches_in.Goals as goal

pub returns-then-not-is-clause-digits : goal.returns-then-not-is-clause-digits
returns-then-not-is-clause-digits c =
    let off : c.in_ok-is.is' ≡ false = search rules in
    let none : is_batch c.args.key.now c.loop-digits.count (drop c.loop-digits.end c.args.bytes.now) ≡ false =
    ap (is_batch c.args.key.now c.loop-digits.count) (sym (take_rest c.args.bytes.now c.loop-digits.end))
    ∙ sym c.in_ok-is.ensures.value ∙ off in
    (read_end _ _ _ _ _ c.loop-digits.invariant none).digits_are

pub returns-then-not-is-clause-count : goal.returns-then-not-is-clause-count
returns-then-not-is-clause-count c =
    let off : c.in_ok-is.is' ≡ false = search rules in
    let none : is_batch c.args.key.now c.loop-digits.count (drop c.loop-digits.end c.args.bytes.now) ≡ false =
    ap (is_batch c.args.key.now c.loop-digits.count) (sym (take_rest c.args.bytes.now c.loop-digits.end))
    ∙ sym c.in_ok-is.ensures.value ∙ off in
    (read_end _ _ _ _ _ c.loop-digits.invariant none).count_is

pub returns-then-not-is-clause-end : goal.returns-then-not-is-clause-end
returns-then-not-is-clause-end c =
    let off : c.in_ok-is.is' ≡ false = search rules in
    let none : is_batch c.args.key.now c.loop-digits.count (drop c.loop-digits.end c.args.bytes.now) ≡ false =
    ap (is_batch c.args.key.now c.loop-digits.count) (sym (take_rest c.args.bytes.now c.loop-digits.end))
    ∙ sym c.in_ok-is.ensures.value ∙ off in
    (read_end _ _ _ _ _ c.loop-digits.invariant none).end_is

more : (key bytes digits rest digits' : List ℕ) (count end n : ℕ) (o : Bool) → rest ≡ drop end bytes →
    ReadSoFar key bytes digits count end →
    o ≡ true → o ≡ is_batch key count rest → digits' ≡ digits ++ digits_in rest → n ≡ count_in rest →
    ReadSoFar key bytes digits' (count + 1) (end + (41 + n))
more key bytes digits rest digits' count end n o same r on is items size =
    let P : List ℕ → ℕ → Type 0 = λ d k. ReadSoFar key bytes d (count + 1) (end + (41 + k)) in
    subst (λ k. P digits' k) (ap count_in (sym same) ∙ sym size)
    (subst (λ d. P d (count_in (drop end bytes))) (ap (λ (l : List ℕ). digits ++ digits_in l) (sym same) ∙ sym items)
    (read_more key bytes digits count end r (ap (is_batch key count) (sym same) ∙ sym is ∙ on)))

pub loop-digits-preserved : goal.loop-digits-preserved
loop-digits-preserved c =
    let on : c.in_ok-is.is' ≡ true = search rules in
    let items : c.extend_from_slice.new.self.items ≡ c.loop-digits.digits.items ++ c.digits_in.result.now =
    c.in_ok-extend_from_slice.ensures.items in
    more c.args.key.now c.args.bytes.now c.loop-digits.digits.items _ c.extend_from_slice.new.self.items
    c.loop-digits.count c.loop-digits.end c.count_in.result
    c.in_ok-is.is' (take_rest c.args.bytes.now c.loop-digits.end) c.loop-digits.invariant on c.in_ok-is.ensures.value
    (items ∙ ap (λ (l : List ℕ). c.loop-digits.digits.items ++ l) c.digits_in.ensures) c.count_in.ensures.value

pub loop-digits-smaller : goal.loop-digits-smaller
loop-digits-smaller c =
    let on : c.in_ok-is.is' ≡ true = search rules in
    let items : c.extend_from_slice.new.self.items ≡ c.loop-digits.digits.items ++ c.digits_in.result.now =
    c.in_ok-extend_from_slice.ensures.items in
    let r = more c.args.key.now c.args.bytes.now c.loop-digits.digits.items _ c.extend_from_slice.new.self.items
    c.loop-digits.count c.loop-digits.end c.count_in.result
    c.in_ok-is.is' (take_rest c.args.bytes.now c.loop-digits.end) c.loop-digits.invariant on c.in_ok-is.ensures.value
    (items ∙ ap (λ (l : List ℕ). c.loop-digits.digits.items ++ l) c.digits_in.ensures) c.count_in.ensures.value in
    omega (arith, r.within)
