use Rattle.std.proofs.Common.{◌∙◌, ◌+◌, ◌-◌, ◌++◌, ℕ, List, arith, ap, sym, subst, IsAscii, take, drop}
use Rattle.std.proofs.Common.{string_bytes, replicate}
use Rattle.std.proofs.lemmas.Bool.Decides.{nat_tests}
use Rattle.std.proofs.lemmas.List.{drop_all, take_all, length-drop}
use Rattle.std.proofs.lemmas.Str.Ascii.{IsAscii-nil}
use Rattle.client_lines.proofs.ItemLemmas.{first_ascii, first_item, all_behind}
use Rattle.client_lines.proofs.answer.add_permissions.Goals as goal

pub add_ascii-requires : goal.add_ascii-requires
add_ascii-requires c =
    let start = c.put_permission-start in
    let whole = take_all (304 - (start.result + 1)) (drop (start.result + 1) start.new.block)
    (omega (arith, length-drop (start.result + 1) start.new.block)) in
    subst IsAscii (sym whole) (first_ascii start.new.block start.result (omega arith)
    (start.ensures.ascii (subst IsAscii (sym (drop_all 304 (replicate 304 0) (omega arith))) IsAscii-nil)))

pub returns : goal.returns
returns c =
    let start = c.put_permission-start in
    let whole = take_all (304 - (start.result + 1)) (drop (start.result + 1) start.new.block)
    (omega (arith, length-drop (start.result + 1) start.new.block)) in
    let item = take (304 - (start.result + 1)) (drop (start.result + 1) start.new.block) in
    all_behind (string_bytes c.args.text.now) _ _ _ c.args.permissions.now c.in-Some.field-0-0.now c.in-Some.others.now
    c.loop-rest.rest.now c.in-Some.ensures.cases.0 (grind (arith, nat_tests))
    (c.in_ok-add_ascii.ensures ∙ ap (λ (front : List ℕ). front ++ item) c.in_ok-reserve.ensures.bytes)
    (whole ∙ first_item start.new.block (replicate 304 0) start.result c.in-Some.field-0-0.now (omega arith)
    (omega arith) start.ensures.written)
    c.loop-rest.invariant
