use Rattle.std.proofs.Common.{ap}
use Rattle.owner_streams.specs.inside.Slots.{state_in}
use Rattle.owner_streams.proofs.OneTake.{is_taken_if_ok}
use Rattle.owner_streams.proofs.owner_stream.take_in.Goals as goal

pub returns-in-Some-clause-caused : goal.returns-in-Some-clause-caused
returns-in-Some-clause-caused c =
    is_taken_if_ok c.args.sizes.now c.args.slot.now c.take_new.result
    (ap (state_in c.args.sizes.now) c.in-Some.is)
    (λ i. record { kind = c.kind.ensures i; from = c.from.ensures i; command = c.command.ensures i })
    c.take_new.ensures.broadcast c.take_new.ensures.delivered
