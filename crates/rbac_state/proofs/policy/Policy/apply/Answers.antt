use Rattle.std.proofs.Common.{refl, map, arith}
use Rattle.role_commands.specs.declared.command.Command.TheVariants.{Assign, Deassign, Grant, Revoke, Clear}
use Rattle.sorted_pairs.specs.Blocks.{items_in}
use Rattle.rbac_state.specs.inside.PermissionNumbers.{grant_of}
use Rattle.rbac_state.proofs.PairLemmas.{assigned-put, assigned-take_away, assigned-clear}
use Rattle.rbac_state.proofs.PairLemmas.{granted-put, granted-take_away, granted-clear}
use Rattle.rbac_state.proofs.GrantLemmas.{put_as_grant, taken_as_grant, cleared_as_grant}
use Rattle.rbac_state.proofs.ApplyLemmas.{applied}
use Rattle.rbac_state.proofs.policy.Policy.apply.Goals as goal

pub returns-in-Assign-clause-applied : goal.returns-in-Assign-clause-applied
returns-in-Assign-clause-applied c =
    applied c.args.owner _ (Assign c.in-Assign.user c.in-Assign.role) _ _ _ c.in-Assign.is
    c.self.view_is c.role.ensures c.is_owned_by.ensures.value c.if-not-is_owned_by.false refl
    (λ user role. assigned-put (items_in c.self.inside.assigned.by_first.items) _ c.in-Assign.user c.in-Assign.role
    user role (c.put.ensures.members user role))
    (λ operation object role. refl)

pub returns-in-Deassign-clause-applied : goal.returns-in-Deassign-clause-applied
returns-in-Deassign-clause-applied c =
    applied c.args.owner _ (Deassign c.in-Deassign.user c.in-Deassign.role) _ _ _ c.in-Deassign.is
    c.self.view_is c.role.ensures c.is_owned_by.ensures.value c.if-not-is_owned_by.false refl
    (λ user role. assigned-take_away (items_in c.self.inside.assigned.by_first.items) _ c.in-Deassign.user
    c.in-Deassign.role user role (c.take_away.ensures.members user role))
    (λ operation object role. refl)

pub returns-in-Grant-clause-applied : goal.returns-in-Grant-clause-applied
returns-in-Grant-clause-applied c =
    applied c.args.owner _ (Grant c.in-Grant.role c.in-Grant.operation c.in-Grant.object) _ _ _ c.in-Grant.is
    c.self.view_is c.role.ensures c.is_owned_by.ensures.value c.if-not-is_owned_by.false refl
    (λ user role. refl)
    (λ operation object role. granted-put (map grant_of (items_in c.self.inside.granted.by_first.items)) _
    c.in-Grant.operation c.in-Grant.object c.in-Grant.role operation object role
    (put_as_grant (items_in c.self.inside.granted.by_first.items) _ c.in-Grant.role
    (c.in-Grant.operation, c.in-Grant.object) (omega arith)
    (rw (c.number_of.ensures) at c.put-in-Grant.ensures.members) (operation, object) role))

pub returns-in-Revoke-clause-applied : goal.returns-in-Revoke-clause-applied
returns-in-Revoke-clause-applied c =
    applied c.args.owner _ (Revoke c.in-Revoke.role c.in-Revoke.operation c.in-Revoke.object) _ _ _ c.in-Revoke.is
    c.self.view_is c.role.ensures c.is_owned_by.ensures.value c.if-not-is_owned_by.false refl
    (λ user role. refl)
    (λ operation object role. granted-take_away (map grant_of (items_in c.self.inside.granted.by_first.items)) _
    c.in-Revoke.operation c.in-Revoke.object c.in-Revoke.role operation object role
    (taken_as_grant (items_in c.self.inside.granted.by_first.items) _ c.in-Revoke.role
    (c.in-Revoke.operation, c.in-Revoke.object) (omega arith)
    (rw (c.number_of-in-Revoke.ensures) at c.take_away-in-Revoke.ensures.members) (operation, object) role))

pub returns-in-Clear-clause-applied : goal.returns-in-Clear-clause-applied
returns-in-Clear-clause-applied c =
    applied c.args.owner _ (Clear c.in-Clear.role) _ _ _ c.in-Clear.is
    c.self.view_is c.role.ensures c.is_owned_by.ensures.value c.if-not-is_owned_by.false refl
    (λ user role. assigned-clear (items_in c.self.inside.assigned.by_first.items) _ c.in-Clear.role user role
    (c.take_away_second.ensures.members user role))
    (λ operation object role. granted-clear (map grant_of (items_in c.self.inside.granted.by_first.items)) _
    c.in-Clear.role operation object role
    (cleared_as_grant (items_in c.self.inside.granted.by_first.items) _ c.in-Clear.role
    c.take_away_second-in-Clear.ensures.members (operation, object) role))
