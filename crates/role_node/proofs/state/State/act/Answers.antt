use Rattle.std.proofs.Common.{refl}
use Rattle.role_node.proofs.StateLemmas.{after_act}
use Rattle.role_node.proofs.state.State.act.Goals as goal

pub returns-in_ok-open-in-Open-clause-ok : goal.returns-in_ok-open-in-Open-clause-ok
returns-in_ok-open-in-Open-clause-ok c roles history h =
    after_act roles history h c.in-Open.is c.in_ok-open-in-Open.ensures.ok
    c.open.ensures.kept refl refl refl

pub returns-in_ok-activate-in-Activate-clause-ok : goal.returns-in_ok-activate-in-Activate-clause-ok
returns-in_ok-activate-in-Activate-clause-ok c roles history h =
    after_act roles history h c.in-Activate.is c.in_ok-activate-in-Activate.ensures.ok
    c.activate.ensures.kept refl refl refl

pub returns-in_ok-drop_role-in-DropRole-clause-ok : goal.returns-in_ok-drop_role-in-DropRole-clause-ok
returns-in_ok-drop_role-in-DropRole-clause-ok c roles history h =
    after_act roles history h c.in-DropRole.is c.in_ok-drop_role-in-DropRole.ensures.ok
    c.drop_role.ensures.kept refl refl refl

pub returns-in_ok-close-in-Close-clause-ok : goal.returns-in_ok-close-in-Close-clause-ok
returns-in_ok-close-in-Close-clause-ok c roles history h =
    after_act roles history h c.in-Close.is c.in_ok-close-in-Close.ensures.ok
    c.close.ensures.kept refl refl refl
