use Rattle.std.proofs.Common.{arith, refl}
use Rattle.serde_json.specs.Data.{number, string, unsigned}
use Rattle.client_lines.proofs.PlainLineLemmas.{text_value, number_value, word_value}
use Rattle.client_lines.proofs.plain_line.scalar_at.Goals as goal

pub returns-in-Some : goal.returns-in-Some
returns-in-Some c =
    let text = c.in-Some.ensures in
    let same = c.as_bytes-bytes.ensures.value in
    let blanks = rw same at c.blanks_end_before.ensures.value in
    let within = rw same at c.blanks_end_before.ensures.bound in
    record {
      forward = omega (arith, text.forward);
      within = within text.within;
      is = λ ends. (string c.in-Some.text.now, text_value _ _ _ _ _ text blanks ends, refl);
    }

pub returns-in-Some-number_at : goal.returns-in-Some-number_at
returns-in-Some-number_at c =
    let same = c.as_bytes-bytes.ensures.value in
    let digits = rw same at c.in-Some-number_at.ensures.digits in
    let blanks = rw same at c.blanks_end_before-in-Some-number_at.ensures.value in
    let within = rw same at c.blanks_end_before-in-Some-number_at.ensures.bound in
    let n = c.in-Some-number_at.number in
    record {
      forward = omega (arith, c.in-Some-number_at.ensures.forward);
      within = within (rw same at c.in-Some-number_at.ensures.within);
      is = λ ends. (
        number (unsigned n),
        number_value c.args.text.now c.args.at n _ _ c.in-Some-number_at.ensures.small digits blanks ends,
        refl,
      );
    }

pub returns : goal.returns
returns c =
    let same = c.as_bytes-bytes.ensures.value in
    let word = rw same at c.in_ok-end.ensures.word in
    let blanks = rw same at c.blanks_end_before-2.ensures.value in
    let within = rw same at c.blanks_end_before-2.ensures.bound in
    record {
      forward = omega (arith, c.in_ok-end.ensures.forward);
      within = within (rw same at c.in_ok-end.ensures.within);
      is = λ ends. word_value c.args.text.now c.args.at _ _ word blanks ends;
    }
