use Rattle.std.proofs.Common.{Some, ap, sym, ◌∙◌, option_map}
use Rattle.operator_lines.specs.Rows.{items_list, list_of}
use Rattle.operator_lines.proofs.RowLemmas.{items_list-items_of}
use Rattle.operator_lines.proofs.rows.list_of.Goals as goal

pub returns-in-Some : goal.returns-in-Some
unfolding list_of
returns-in-Some c = rw c.as_slice.ensures.value (sym (ap Some (items_list-items_of _))
    ∙ ap (option_map items_list) c.in-Some.ensures)

pub returns-in-None : goal.returns-in-None
unfolding list_of
returns-in-None c = ap (option_map items_list) c.in-None.ensures
