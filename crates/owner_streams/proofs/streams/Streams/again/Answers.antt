use Rattle.std.proofs.Common.{◌≡◌, ◌∙◌, arith}
use Rattle.owner_streams.specs.Steps.{again_due}
use Rattle.owner_streams.specs.inside.Kept.{held}
use Rattle.owner_streams.proofs.Reaching.{again_is}
use Rattle.owner_streams.proofs.Owners.{is_owners, by_owner}
use Rattle.owner_streams.proofs.streams.Streams.again.Goals as goal

pub returns : goal.returns
returns c =
    by_owner (λ s packets. c.again.result ≡ again_due s c.args.owner c.args.place packets)
    (is_owners (omega arith) c.self.invariant.one_each c.requires c.self.view_is c.index-2.ensures)
    (λ packets is. c.again.ensures
    ∙ again_is c.self.inside.sizes c.args.owner c.args.place
    (held c.index-2.result.now c.args.place) packets (is.at_each_place c.args.place))
