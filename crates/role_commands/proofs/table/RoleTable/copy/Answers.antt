use Rattle.std.proofs.Common.{◌≡◌, OnOk, sym, subst}
use Rattle.std.proofs.lemmas.Iterator.Adapters.{fact_from_extend}
use Rattle.std.proofs.lemmas.Iterator.Consumers.{YieldsList-from_rest}
use Rattle.std.specs.BTreeMap as tree
use Rattle.std.specs.Map.Iter.{deref_pair}
use Rattle.std.specs.Ordering.{nat_cmp}
use Rattle.role_commands.specs.Tables.{AreEntries}
use Rattle.role_commands.proofs.TableLemmas.{extended_entries}
use Rattle.role_commands.proofs.table.RoleTable.copy.Goals as goal

copied_entries : (c : goal.After-result-1) → c.extend.new.self.entries ≡ c.self.inside.owners.entries
copied_entries c =
    let ordered : tree.IsOrdered nat_cmp c.self.inside.owners = c.extend.ensures.ran.2.5 in
    let fact : OnOk c.extend.result (c.extend.new.self.entries ≡ c.self.inside.owners.entries) =
    fact_from_extend deref_pair c.extend.result c.extend.ensures.ran
    (λ it b. YieldsList-from_rest c.self.inside.owners.entries b.0)
    (λ xs e h. extended_entries c.new-owners.result c.self.inside.owners c.extend.new.self c.new-owners.ensures.empty
    ordered (rw e at h)) in
    rw c.in_ok-extend.was at fact

pub invariant_of-result : goal.invariant_of-result
invariant_of-result c = subst (AreEntries c.self.inside.sizes) (sym (copied_entries c)) c.self.invariant

pub returns : goal.returns
returns c = rw (copied_entries c) c.self.view_is
