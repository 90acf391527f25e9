use Rattle.std.proofs.Common.{◌+◌, ◌-◌, ◌<◌, ◌≤◌, drop, length, Some, inl, inr, refl, ap, subst, arith}
use Rattle.json.specs.Json.{members, value}
use Rattle.json.specs.Lex.{fresh, after_comma, after_value}
use Rattle.json.proofs.Grammar.{read_key-shorter}
use Rattle.serde_json.specs.Data.{no_members, put}
use Rattle.serde_json.specs.Read.{of_members, converted}
use Rattle.client_lines.specs.inside.PlainLines.{tokens_from, EndsValue}
use Rattle.client_lines.proofs.ObjectReading.{read_on, read_last, value_shorter}
use Rattle.client_lines.proofs.BlankLemmas.{tokens_kept}
use Rattle.client_lines.proofs.PlainLineLemmas.{byte_at, comma_passed, object_over}
use Rattle.client_lines.proofs.plain_line.members_line.Goals as goal

pub members-init : goal.members-init
members-init c =
    let line = c.args.text.now in
    let ts = tokens_from fresh line 1 in
    let at = c.blanks_end_before-at.result in
    let blanks = rw c.as_bytes-bytes.ensures.value at c.blanks_end_before-at.ensures.value in
    let begun = tokens_kept fresh line 1 at blanks in
    record {
      place = fresh;
      turns = length ts;
      found = no_members;
      begins = refl;
      enough = subst (λ next. length next ≤ length ts) begun (omega arith);
      read = ap (λ next. converted (λ ms. of_members ms no_members) (members (value 126) (length ts) next)) begun;
      says = c.new-line.ensures;
    }

pub members-preserved : goal.members-preserved
members-preserved c =
    let line = c.args.text.now in
    let before = c.members.invariant in
    let end = c.in_ok-scalar.end in
    let within : end < length line = rw c.as_bytes-bytes.ensures.value at c.if-end-bytes.false in
    let comma = rw c.as_bytes-bytes.ensures.value at c.if-bytes-end-ne44.false in
    let ends : EndsValue line end = (drop (end + 1) line, inl (byte_at line end 44 within comma)) in
    let value = c.in_ok-scalar.ensures.is ends in
    let key = c.in_ok-name.ensures.key before.place before.begins in
    let blanks = rw c.as_bytes-bytes.ensures.value at c.blanks_end_before-at-in-members.ensures.value in
    let passed = comma_passed line end _ within comma blanks in
    let ts = tokens_from before.place line c.members.at in
    let rest = tokens_from fresh line c.in_ok-name.value in
    let shorter : length rest < length ts = read_key-shorter ts (Some c.in_ok-name.name.now) rest key in
    let less : length (tokens_from after_value line end) < length rest = value_shorter rest _ value.0 value.1 in
    record {
      place = after_comma;
      turns = before.turns - 1;
      found = put c.in_ok-name.name.now value.0 before.found;
      begins = refl;
      enough = subst (λ r. length r ≤ before.turns - 1) passed (omega (arith, before.enough));
      read = read_on _ before.found before.turns _ ts rest _ _ value.0 before.read (omega (arith, before.enough)) key
          value.1 passed;
      says = c.put.ensures before.found value.0 value.2 before.says;
    }

pub returns-then-blanks_end-bytes : goal.returns-then-blanks_end-bytes
returns-then-blanks_end-bytes c =
    let line = c.args.text.now in
    let before = c.members.invariant in
    let end = c.in_ok-scalar.end in
    let within : end < length line = rw c.as_bytes-bytes.ensures.value at c.if-end-bytes.false in
    let brace = rw c.as_bytes-bytes.ensures.value at c.if-bytes-end-eq125.true in
    let blanks = rw (c.if-blanks_end-bytes.true, c.as_bytes-bytes.ensures.value) at c.blanks_end.ensures.value in
    let ends : EndsValue line end = (drop (end + 1) line, inr (byte_at line end 125 within brace)) in
    let value = c.in_ok-scalar.ensures.is ends in
    let key = c.in_ok-name.ensures.key before.place before.begins in
    let ts = tokens_from before.place line c.members.at in
    let rest = tokens_from fresh line c.in_ok-name.value in
    let shorter : length rest < length ts = read_key-shorter ts (Some c.in_ok-name.name.now) rest key in
    let less : length (tokens_from after_value line end) < length rest = value_shorter rest _ value.0 value.1 in (
      put c.in_ok-name.name.now value.0 before.found,
      read_last _ before.found before.turns _ ts rest _ _ value.0 before.read before.enough shorter less key value.1
          (object_over line end within brace blanks),
      c.put.ensures before.found value.0 value.2 before.says,
    )
