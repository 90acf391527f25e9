use Rattle.std.proofs.Common.{◌≡◌, ◌≢◌, ◌≤◌, length, get_or, sym, inl, inr, arith}
use Rattle.std.proofs.lemmas.Bool.{cases_lt}
use Rattle.std.proofs.lemmas.Str.Pattern.{starts_char}
use Rattle.role_commands.proofs.NumberLemmas.{signed_none, padded_none, parsed_some, parsed_above, unparsed}
use Rattle.role_commands.proofs.numbers.parse_number.Goals as goal

pub returns-then-starts_with-clause-value : goal.returns-then-starts_with-clause-value
returns-then-starts_with-clause-value c =
    let signed = (starts_char 43 c.args.word.now _ c.starts_with.ensures.cases (omega arith) (omega arith)).0
    c.if-starts_with.true in
    sym (signed_none c.args.most c.args.word.now (omega arith) signed)

pub returns-then-is_padded-clause-value : goal.returns-then-is_padded-clause-value
returns-then-is_padded-clause-value c =
    let padded = c.is_padded.ensures.0 c.if-is_padded.true in
    sym (padded_none c.args.most c.args.word.now (omega arith) padded.1 padded.0)

pub returns-in-Ok-clause-value : goal.returns-in-Ok-clause-value
returns-in-Ok-clause-value c =
    let sign = (starts_char 43 c.args.word.now _ c.starts_with.ensures.cases (omega arith) (omega arith)).1 in
    let plain : get_or c.args.word.now 0 0 ≢ 43 = λ plus. let signed = sign plus in cc in
    let lead : get_or c.args.word.now 0 0 ≡ 48 → length c.args.word.now ≤ 1 =
    λ zero. elim (cases_lt 1 (length c.args.word.now)) [
      | inl more ↦ let padded = c.is_padded.ensures.1 (more, zero) in absurd (cc)
      | inr le ↦ le
    ] in
    sym (parsed_some c.args.most c.args.word.now _ c.parse.ensures.value.0
    (omega arith) _ c.in-Ok.is c.if-number-most.true plain lead)

pub returns-in_default-clause-value : goal.returns-in_default-clause-value
returns-in_default-clause-value c =
    sym (parsed_above c.args.most c.args.word.now _ c.parse.ensures.value.0
    (omega arith) _ c.in-Ok.is c.if-number-most.false)

pub returns-in_default-2-clause-value : goal.returns-in_default-2-clause-value
returns-in_default-2-clause-value c =
    sym (unparsed c.args.most c.args.word.now _ c.parse.ensures.value.0 (omega arith) _ c.in_default.is)
