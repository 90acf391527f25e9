use Rattle.std.proofs.Common.{ap, ◌∙◌, arith}
use Rattle.rbac_state.specs.inside.Relations.{relates}
use Rattle.rbac_state.proofs.ListingLemmas.{may_is}
use Rattle.rbac_state.proofs.policy.Policy.is_granted.Goals as goal

pub returns : goal.returns
returns c =
    c.has.ensures
    ∙ ap (λ n. relates c.self.inside.granted n c.args.role) c.number_of.ensures
    ∙ may_is c.args.self.now c.self.inside.granted (ap (λ v. v.grants) c.self.view_is) c.self.invariant.permissions
    (c.args.operation, c.args.object) c.args.role (omega arith)
