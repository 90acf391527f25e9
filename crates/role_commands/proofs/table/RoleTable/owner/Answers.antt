use Rattle.std.proofs.Common.{sym, ◌∙◌}
use Rattle.role_commands.specs.Tables.{IsTable}
use Rattle.role_commands.proofs.TableLemmas.{get-entries}
use Rattle.role_commands.proofs.table.RoleTable.owner.Goals as goal

pub returns-clause-value : goal.returns-clause-value
returns-clause-value c =
    rw (← c.self.view_is) (c.copied.ensures ∙ c.get.ensures.value
    ∙ sym (get-entries c.self.inside.owners.entries c.args.role))

pub returns-clause-node : goal.returns-clause-node
returns-clause-node c =
    let table : IsTable c.args.self.now = rw (← c.self.view_is) c.self.invariant.0 in
    rw (returns-clause-value c) (table.0 c.args.role)
