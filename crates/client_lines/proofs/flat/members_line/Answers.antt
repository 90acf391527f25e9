use Rattle.std.proofs.Common.{◌≡◌, ◌∙◌, ◌-◌, ◌<◌, length, Some, None, option_map, refl, sym, ap, arith}
use Rattle.json.specs.Json.{value, read_key}
use Rattle.json.proofs.Grammar.{read_key-shorter}
use Rattle.serde_json.specs.Data.{no_members, put}
use Rattle.std.specs.Result.{result_ok}
use Rattle.client_lines.proofs.ObjectReading.{key_found, member_read, members_over}
use Rattle.client_lines.proofs.flat.members_line.Goals as goal

pub members-init : goal.members-init
members-init c = (length c.args.reader.now, no_members, omega arith, refl, c.new-line.ensures)

pub members-preserved : goal.members-preserved
members-preserved c =
    let l = c.members in
    let n = l.invariant.0 in
    let found = l.invariant.1 in
    let rest = c.next_key.new.self in
    let name = c.in-Some.name.now in
    let ended : result_ok c.next_key.result ≡ Some c.in_ok-name.field-0 = sym c.ok.ensures.value ∙ c.in_ok-name.was in
    let key : read_key l.reader ≡ Some (Some name, rest) =
    key_found _ _ _ _ c.next_key.ensures.value ended ∙ ap (λ k. Some (option_map (λ s. s.now) k, rest)) c.in-Some.is in
    let shorter = read_key-shorter l.reader (Some name) rest key in
    let read = c.in_ok-scalar.ensures.scalar in
    let less : length c.scalar.new.reader < length rest = c.in_ok-scalar.ensures.shorter in (
      n - 1,
      put name read.0 found,
      omega (arith, l.invariant.2),
      l.invariant.3
          ∙ member_read (value 126) found n name l.reader rest _ read.0 (omega (arith, l.invariant.2)) key read.1,
      c.put.ensures found read.0 read.2 l.invariant.4,
    )

pub returns : goal.returns
returns c =
    let l = c.members in
    let rest = c.next_key.new.self in
    let ended : result_ok c.next_key.result ≡ Some c.in_ok-name.field-0 = sym c.ok.ensures.value ∙ c.in_ok-name.was in
    let key : read_key l.reader ≡ Some (None, rest) =
    key_found _ _ _ _ c.next_key.ensures.value ended ∙ ap (λ k. Some (option_map (λ s. s.now) k, rest)) c.in_default.is
    in (
      l.invariant.1,
      l.invariant.3 ∙ members_over (value 126) l.invariant.1 l.invariant.0 l.reader rest l.invariant.2 key,
      l.invariant.4,
    )
