use Rattle.std.proofs.Common.{ap}
use Rattle.rbac_state.proofs.ListingLemmas.{listing_of, operations_members}
use Rattle.rbac_state.proofs.policy.Policy.operations_of.Goals as goal

pub returns : goal.returns
returns c =
    listing_of c.ascending.ensures
    (λ operation. rw (c.in_ok-operations.ensures)
    (operations_members c.args.self.now c.self.inside.granted (ap (λ v. v.grants) c.self.view_is)
    c.self.invariant.permissions c.args.object c.args.roles.now operation))
