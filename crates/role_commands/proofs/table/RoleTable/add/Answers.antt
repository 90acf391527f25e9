use Rattle.std.proofs.Common.{sym, ◌∙◌, arith}
use Rattle.role_commands.proofs.TableLemmas.{repeated_due, full_due, none_due, added, named_below, one_more_entry}
use Rattle.role_commands.proofs.table.RoleTable.add.Goals as goal

pub returns-then-contains_key-clause-due : goal.returns-then-contains_key-clause-due
returns-then-contains_key-clause-due c =
    repeated_due c.self.inside.sizes c.self.inside.owners c.args.self.now c.self.view_is c.args.role c.args.owner
    c.in-Some.owner (sym c.name.ensures ∙ c.in-Some.is)
    (sym c.contains_key.ensures ∙ c.if-contains_key.true)

pub returns-then-len-ge-MOST_ROLES-clause-due : goal.returns-then-len-ge-MOST_ROLES-clause-due
returns-then-len-ge-MOST_ROLES-clause-due c =
    full_due c.self.inside.sizes c.self.inside.owners c.args.self.now c.self.view_is c.args.role c.args.owner
    c.in-Some.owner (sym c.name.ensures ∙ c.in-Some.is)
    (sym c.contains_key.ensures ∙ c.if-contains_key.false) c.self.invariant (omega arith)

pub returns-in_default-insert-clause-due : goal.returns-in_default-insert-clause-due
returns-in_default-insert-clause-due c =
    none_due c.self.inside.sizes c.self.inside.owners c.args.self.now c.self.view_is c.args.role c.args.owner
    c.in-Some.owner (sym c.name.ensures ∙ c.in-Some.is)
    (sym c.contains_key.ensures ∙ c.if-contains_key.false) c.self.invariant (omega arith)

pub returns-clause-due : goal.returns-clause-due
returns-clause-due c =
    none_due c.self.inside.sizes c.self.inside.owners c.args.self.now c.self.view_is c.args.role c.args.owner
    c.in-Some.owner (sym c.name.ensures ∙ c.in-Some.is)
    (sym c.contains_key.ensures ∙ c.if-contains_key.false) c.self.invariant (omega arith)

pub invariant_of-self-2 : goal.invariant_of-self-2
invariant_of-self-2 c =
    let named = named_below c.self.inside.sizes c.self.inside.owners c.args.self.now c.self.view_is c.args.role
    c.args.owner c.in-Some.owner (sym c.name.ensures ∙ c.in-Some.is) in
    one_more_entry c.self.inside.sizes c.self.inside.owners c.insert.new.self c.args.role c.in-Some.owner
    c.in-Ok.field-0 c.self.invariant c.in-Ok.ensures.updates
    (sym c.contains_key.ensures ∙ c.if-contains_key.false) c.in-Ok.ensures.old c.in-Ok.ensures.len (omega arith) named.0

pub returns-clause-ok : goal.returns-clause-ok
returns-clause-ok c =
    added c.self.inside.sizes c.self.inside.owners c.args.self.now c.self.view_is c.args.role c.args.owner
    c.in-Some.owner (sym c.name.ensures ∙ c.in-Some.is)
    c.insert.new.self c.in-Ok.ensures.updates
