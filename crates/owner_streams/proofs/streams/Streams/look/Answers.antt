use Rattle.std.proofs.Common.{◌≡◌, arith}
use Rattle.owner_streams.specs.Steps.{SendsAreOwners, step_due, effect_due}
use Rattle.owner_streams.proofs.Owners.{is_owners, is_kept, by_owner}
use Rattle.owner_streams.proofs.streams.Streams.look.Goals as goal

pub returns-clause-due : goal.returns-clause-due
returns-clause-due c =
    by_owner (λ s packets. SendsAreOwners packets → c.look.result ≡ effect_due (step_due s packets c.args.packet.now))
    (is_owners (omega arith) c.self.invariant.one_each c.requires.owner c.self.view_is c.index-2.ensures)
    (λ packets.
    c.look.ensures.due c.self.inside.sizes packets
    (is_kept (is_owners (omega arith) c.self.invariant.one_each c.requires.owner c.self.view_is c.index-2.ensures)
    c.self.invariant.each))
