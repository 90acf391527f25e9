use Rattle.std.proofs.Common.{◌≡◌, ◌∙◌, arith}
use Rattle.owner_streams.specs.Places.{reach}
use Rattle.owner_streams.proofs.Reaching.{reach_is_due, reach_within}
use Rattle.owner_streams.proofs.Owners.{is_owners, is_kept, by_owner}
use Rattle.owner_streams.proofs.streams.Streams.reach.Goals as goal

pub reach-requires : goal.reach-requires
reach-requires c =
    reach_within c.self.inside.sizes c.index-2.result.now
    (is_kept (is_owners (omega arith) c.self.invariant.one_each c.requires c.self.view_is c.index-2.ensures)
    c.self.invariant.each)

pub returns-clause-due : goal.returns-clause-due
returns-clause-due c =
    by_owner (λ s packets. c.reach.result ≡ reach s c.args.owner packets)
    (is_owners (omega arith) c.self.invariant.one_each c.requires c.self.view_is c.index-2.ensures)
    (λ packets is. c.reach.ensures
    ∙ reach_is_due c.self.inside.sizes c.args.owner c.index-2.result.now packets
    (is_kept (is_owners (omega arith) c.self.invariant.one_each c.requires c.self.view_is c.index-2.ensures)
    c.self.invariant.each) is)

pub returns-clause-bound : goal.returns-clause-bound
returns-clause-bound c =
    let within =
    reach_within c.self.inside.sizes c.index-2.result.now
    (is_kept (is_owners (omega arith) c.self.invariant.one_each c.requires c.self.view_is c.index-2.ensures)
    c.self.invariant.each) in
    omega arith
