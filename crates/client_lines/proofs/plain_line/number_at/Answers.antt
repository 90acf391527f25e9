use Rattle.std.proofs.Common.{◌≡◌, ◌∙◌, ◌+◌, ◌++◌, true, get_or, drop, decimal, sym, ap, arith}
use Rattle.std.proofs.lemmas.Bool.{leb-true, and_parts}
use Rattle.std.specs.Char.{is_ascii_digit}
use Rattle.client_lines.proofs.PlainLineLemmas.{number_begun, number_more}
use Rattle.client_lines.proofs.plain_line.number_at.Goals as goal

pub loop-end-init : goal.loop-end-init
loop-end-init c =
    let line = c.args.bytes.now in
    let x = get_or line c.args.at 0 in
    let digit : is_ascii_digit x ≡ true = sym c.is_ascii_digit.ensures.value ∙ c.if-not-is_ascii_digit.false in
    let both = and_parts _ _ digit in
    let low = leb-true 48 x both.0 in
    let high = leb-true x 57 both.1 in
    record {
      digits = number_begun line c.args.at c.if-at-bytes.false low high
          ∙ ap (λ n. decimal n ++ drop (c.args.at + 1) line) (sym c.from-number.ensures);
      small = omega arith;
      forward = omega arith;
      within = omega arith;
    }

pub loop-end-preserved : goal.loop-end-preserved
loop-end-preserved c =
    let line = c.args.bytes.now in
    let l = c.loop-end in
    let x = get_or line l.end 0 in
    let digit : is_ascii_digit x ≡ true = sym c.is_ascii_digit-in-loop-end.ensures.value ∙ c.if-is_ascii_digit.true in
    let both = and_parts _ _ digit in
    let low = leb-true 48 x both.0 in
    let high = leb-true x 57 both.1 in
    record {
      digits = number_more line c.args.at l.number l.end l.invariant.digits c.loop-end-test.true (omega arith)
          (omega arith) low high
          ∙ ap (λ n. decimal n ++ drop (l.end + 1) line) (sym c.in_ok-number.ensures);
      small = omega arith;
      forward = omega arith;
      within = omega arith;
    }
