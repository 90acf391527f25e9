use Rattle.cluster_text.proofs.SetupLemmas.{reached_none, checked_on, checked_refused, checked_all}
use Rattle.cluster_text.proofs.cluster.check_roles.Goals as goal

pub loop-index-init : goal.loop-index-init
loop-index-init c = reached_none _ _

pub returns-in-Some : goal.returns-in-Some
returns-in-Some c =
    checked_refused _ _ _ c.loop-index.invariant _ c.loop-index-test.true c.index-items-index.is _ c.in-Some.ensures

pub loop-index-preserved : goal.loop-index-preserved
loop-index-preserved c =
    checked_on _ _ _ c.loop-index.invariant _ c.loop-index-test.true c.index-items-index.is c.in_default.ensures

pub returns : goal.returns
returns c = checked_all _ _ _ c.loop-index.invariant c.loop-index-test.false
