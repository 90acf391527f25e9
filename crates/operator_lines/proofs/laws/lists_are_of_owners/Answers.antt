use Rattle.std.proofs.Common.{[], arith}
use Rattle.std.proofs.lemmas.List.FromFn.{get_or-map-range_with_len}
use Rattle.role_commands.specs.Tables.{roles_of_owner}
use Rattle.operator_lines.proofs.laws.lists_are_of_owners.Goals as goal

pub returns : goal.returns
returns c table owner within =
    get_or-map-range_with_len (roles_of_owner table) 0 table.sizes.nodes owner owner [] within (omega arith)
