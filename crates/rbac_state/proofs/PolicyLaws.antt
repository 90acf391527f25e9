-- A policy against the streams of which it is.
use Rattle.std.proofs.Common.{sym, ap, ◌∙◌}
use Rattle.std.specs.FinSet as set
use Rattle.rbac_state.specs.Says.{says_of_user, says_of_permission}
use Rattle.rbac_state.specs.Assignments.{owner_said, is_user_assigned, is_permission_granted, with_command, said_by}
use Rattle.rbac_state.specs.Laws.{OneMoreUser, OneMorePermission, BlankIsOfNoCommands}
use Rattle.rbac_state.specs.Laws.{AppliedIsOfOneMore, SameIsOfTheSame}
use Rattle.rbac_state.proofs.StreamLemmas.{says_of_user-concerns, says_of_permission-concerns}
use Rattle.rbac_state.proofs.StreamLemmas.{owner_said-push, no_owner_said}

pub one_more_user : OneMoreUser
one_more_user table streams node command user role =
    owner_said-push table streams node command role (says_of_user user role) (says_of_user-concerns user role)

pub one_more_permission : OneMorePermission
one_more_permission table streams node command operation object role =
    owner_said-push table streams node command role (says_of_permission operation object role)
    (says_of_permission-concerns operation object role)

pub blank_is_of_no_commands : BlankIsOfNoCommands
blank_is_of_no_commands table p blank = record {
  assigned = λ user role. blank.assigned user role ∙ sym (no_owner_said p.table role (says_of_user user role));
  granted =
      λ operation object role. blank.granted operation object role
      ∙ sym (no_owner_said p.table role (says_of_permission operation object role));
}

pub applied_is_of_one_more : AppliedIsOfOneMore
applied_is_of_one_more streams node command old new was applied = record {
  assigned = λ user role.
      let says = says_of_user user role in
      applied.assigned user role ∙ ap (said_by old.table node command says) (was.assigned user role)
      ∙ sym (owner_said-push old.table streams node command role says (says_of_user-concerns user role))
      ∙ ap (λ table. owner_said table (with_command streams node command) role says) (sym applied.table);
  granted = λ operation object role.
      let says = says_of_permission operation object role in
      applied.granted operation object role
      ∙ ap (said_by old.table node command says) (was.granted operation object role)
      ∙ sym
      (owner_said-push old.table streams node command role says (says_of_permission-concerns operation object role))
      ∙ ap (λ table. owner_said table (with_command streams node command) role says) (sym applied.table);
}

pub same_is_of_the_same : SameIsOfTheSame
same_is_of_the_same streams old new was same = record {
  assigned = λ user role.
      ap (λ a. set.contains a (user, role)) same.assignments ∙ was.assigned user role
      ∙ ap (λ table. is_user_assigned table streams user role) (sym same.table);
  granted = λ operation object role.
      ap (λ g. set.contains g ((operation, object), role)) same.grants ∙ was.granted operation object role
      ∙ ap (λ table. is_permission_granted table streams operation object role) (sym same.table);
}
