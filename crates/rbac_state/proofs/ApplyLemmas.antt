-- What a command leaves of the two relations, where its role is the node's.
use Rattle.std.proofs.Common.{◌≡◌, ℕ, Bool, true, unwrap_or, sym, ap, subst, ◌∙◌}
use Rattle.role_commands.specs.Rules.{role_of}
use Rattle.role_commands.specs.declared.command.Command.{Command}
use Rattle.rbac_state.specs.Assignments.{owns}
use Rattle.rbac_state.specs.Policies.{PolicyValue, IsApplied, assigned_in, granted_in}
use Rattle.rbac_state.specs.Says.{says_of_user, says_of_permission}

-- a command whose role was found to be the node's is applied where the relations are as it says
pub applied : (node : ℕ) (given command : Command) (value old new : PolicyValue) {role : ℕ} {owned : Bool} →
    given ≡ command → old ≡ value → role ≡ role_of given → owned ≡ owns old.table node role → owned ≡ true →
    new.table ≡ old.table →
    ((user role : ℕ) → assigned_in new user role
    ≡ unwrap_or (says_of_user user role command) (assigned_in old user role)) →
    ((operation object role : ℕ) → granted_in new operation object role
    ≡ unwrap_or (says_of_permission operation object role command) (granted_in old operation object role)) →
    IsApplied node given value new
applied node given command value old new is view of_role is_owned does table assigned granted =
    let own : owns old.table node (role_of command) ≡ true =
    ap (owns old.table node) (sym (of_role ∙ ap role_of is)) ∙ sym is_owned ∙ does in
    subst (λ v. IsApplied node given v new) view (subst (λ g. IsApplied node g old new) (sym is) (record {
      table = table;
      assigned = λ user role. assigned user role ∙ sym (rw own);
      granted = λ operation object role. granted operation object role ∙ sym (rw own);
    }))
