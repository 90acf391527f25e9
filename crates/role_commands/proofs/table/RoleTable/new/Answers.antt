use Rattle.std.proofs.Common.{sym, subst}
use Rattle.role_commands.specs.Tables.{AreEntries}
use Rattle.role_commands.proofs.TableLemmas.{no_entries}
use Rattle.role_commands.proofs.table.RoleTable.new.Goals as goal

pub invariant_of-result : goal.invariant_of-result
invariant_of-result c = subst (AreEntries c.args.sizes) (sym c.new.ensures.empty) (no_entries c.args.sizes)
