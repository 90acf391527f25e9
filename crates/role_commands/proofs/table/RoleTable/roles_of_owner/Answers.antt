use Rattle.std.proofs.Common.{◌≡◌, IfOk, filter, subst, sym, ap, ◌∙◌, rules}
use Rattle.std.proofs.lemmas.Iterator.{items_from_collect}
use Rattle.std.proofs.lemmas.Iterator.Consumers.{YieldsList-from_rest, YieldsList-from_copied, YieldsList-from_filter}
use Rattle.std.specs.FinMap as map
use Rattle.std.specs.Map.{keys_of}
use Rattle.role_commands.specs.Tables.{owns}
use Rattle.role_commands.proofs.TableLemmas.{keys-entries}
use Rattle.role_commands.proofs.table.RoleTable.roles_of_owner.Goals as goal

pub returns : goal.returns
returns c =
    let table = c.args.self.now in
    let entries = c.self.inside.owners.entries in
    let keys : keys_of entries ≡ map.keys table.owners =
    sym (keys-entries entries c.keys.ensures.ordered) ∙ ap (λ t. map.keys t.owners) c.self.view_is in
    subst (λ roles. IfOk c.collect.result (λ v. v.items ≡ filter (owns table c.args.owner) roles)) keys
    (items_from_collect _ c.collect.ensures.ran (YieldsList-from_filter _ (owns table c.args.owner)
    (YieldsList-from_copied (YieldsList-from_rest (keys_of entries) cc)) c.filter.ensures.closure
    (λ x b q k. search (rules))))
