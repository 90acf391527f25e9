use Rattle.std.proofs.Common.{ap, ◌∙◌, arith}
use Rattle.rbac_state.specs.inside.PermissionNumbers.{permission_of}
use Rattle.rbac_state.proofs.GrantLemmas.{permission_again}
use Rattle.rbac_state.proofs.permission_number.PermissionNumber.of.Goals as goal

pub returns : goal.returns
returns c =
    ap permission_of (c.new.ensures ∙ c.number_of.ensures) ∙ permission_again c.args.permission (omega arith)
