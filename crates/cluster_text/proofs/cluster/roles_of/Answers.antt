use Rattle.std.proofs.Common.{sym, ap, subst, ◌∙◌, IsOk}
use Rattle.role_commands.specs.Tables.{Table}
use Rattle.cluster_text.specs.Setups.{table_of}
use Rattle.cluster_text.proofs.SetupLemmas.{pairs, added_on, next_fits, all_added}
use Rattle.cluster_text.proofs.cluster.roles_of.Goals as goal

pub add_role-requires : goal.add_role-requires
add_role-requires c =
    let fits = subst (λ (t : Table). IsOk (table_of t (pairs c.args.items.now))) (sym c.new-roles.ensures) c.requires in
    next_fits _ _ _ _ _ c.loop-item.invariant.0 c.item-item.result c.loop-item-test.true c.item-item.is fits

pub loop-item-preserved : goal.loop-item-preserved
loop-item-preserved c = (
  added_on _ _ _ _ _ c.loop-item.invariant.0 _ c.item-item.result c.loop-item-test.true c.item-item.is
      c.in_ok-add_role.ensures.added,
  c.add_role.ensures.sizes ∙ c.loop-item.invariant.1,
)

pub returns-clause-table : goal.returns-clause-table
returns-clause-table c =
    sym (ap (λ t. table_of t (pairs c.args.items.now)) c.new-roles.ensures)
    ∙ all_added _ _ _ _ _ c.loop-item.invariant.0 c.loop-item-test.false
