use Rattle.std.proofs.Common.{◌∙◌, sym, length, ◌≤◌, ◌++◌, List, ℕ, subst}
use Rattle.batch_journal.specs.Digits.{AreDigits}
use Rattle.kept_node.specs.NodeHeads.{role_digits}
use Rattle.kept_node.proofs.HeadLemmas.{below_more, below_none, below_digits, below_few}
use Rattle.kept_node.proofs.head.roles_digits.Goals as goal

pub loop-role-init : goal.loop-role-init
loop-role-init c = c.new-bytes.ensures.items ∙ sym (below_none c.args.roles.now)

pub loop-role-preserved : goal.loop-role-preserved
loop-role-preserved c =
    c.in_ok-push_role.ensures
    ∙ (λ i. c.loop-role.invariant i ++ role_digits c.loop-role.role (c.owner.ensures.value i))
    ∙ sym (below_more c.args.roles.now c.loop-role.role)

pub returns-clause-digits : goal.returns-clause-digits
returns-clause-digits c = subst AreDigits (sym c.loop-role.invariant) (below_digits c.args.roles.now c.loop-role.role)

pub returns-clause-few : goal.returns-clause-few
returns-clause-few c h = subst (λ (l : List ℕ). length l ≤ 100000) (sym c.loop-role.invariant)
    (below_few c.args.roles.now c.loop-role.role h)
