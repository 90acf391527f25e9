use Rattle.std.proofs.Common.{◌≡◌, ◌∙◌, arith}
use Rattle.std.specs.Prelude.{slice_get}
use Rattle.owner_streams.specs.Places.{stream}
use Rattle.owner_streams.proofs.Reaching.{command_is_due}
use Rattle.owner_streams.proofs.Owners.{is_owners, is_kept, by_owner}
use Rattle.owner_streams.proofs.streams.Streams.command.Goals as goal

pub returns : goal.returns
returns c =
    by_owner (λ s packets. c.command.result ≡ slice_get (stream s c.args.owner packets) c.args.place)
    (is_owners (omega arith) c.self.invariant.one_each c.requires c.self.view_is c.index-2.ensures)
    (λ packets is. c.command.ensures
    ∙ command_is_due c.self.inside.sizes c.args.owner c.args.place c.index-2.result.now packets
    (is_kept (is_owners (omega arith) c.self.invariant.one_each c.requires c.self.view_is c.index-2.ensures)
    c.self.invariant.each) is)
