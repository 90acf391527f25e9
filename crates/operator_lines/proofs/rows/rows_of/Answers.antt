use Rattle.std.proofs.Common.{Some, None, if◌then◌else◌, ap, ◌∙◌}
use Rattle.std.specs.List.{filter_map}
use Rattle.serde_json.specs.View.{view}
use Rattle.operator_lines.specs.Rows.{asked_of}
use Rattle.operator_lines.proofs.RowLemmas.{rows-are, rows-none}
use Rattle.operator_lines.proofs.rows.rows_of.Goals as goal

pub returns-then-are_few-clause-some : goal.returns-then-are_few-clause-some
returns-then-are_few-clause-some c =
    let s = c.args.sizes.now in
    let items = c.in_ok-items.items.now in
    rows-are s (view c.args.value.now) items c.are_few.result c.in_ok-items.ensures c.are_few.ensures
    ∙ ap (λ b. if b then Some (filter_map (λ row. asked_of s (view row)) items) else None) c.if-are_few.true

pub returns-else-are_few-clause-none : goal.returns-else-are_few-clause-none
returns-else-are_few-clause-none c none =
    let s = c.args.sizes.now in
    let items = c.in_ok-items.items.now in
    rows-are s (view c.args.value.now) items c.are_few.result c.in_ok-items.ensures c.are_few.ensures
    ∙ ap (λ b. if b then Some (filter_map (λ row. asked_of s (view row)) items) else None) c.if-are_few.false

pub returns-in_err-items-clause-none : goal.returns-in_err-items-clause-none
returns-in_err-items-clause-none c none = rows-none c.args.sizes.now (view c.args.value.now) c.in_err-items.ensures
