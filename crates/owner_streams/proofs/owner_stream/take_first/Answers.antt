use Rattle.std.proofs.Common.{sym, ap, ◌∙◌, refl}
use Rattle.owner_streams.specs.inside.Slots.{state_in}
use Rattle.bracha_instance.specs.Taking.{has_voted}
use Rattle.owner_streams.proofs.OneTake.{is_taken}
use Rattle.owner_streams.proofs.Stepping.{fresh_has_voted}
use Rattle.owner_streams.proofs.owner_stream.take_first.Goals as goal

pub returns-clause-caused : goal.returns-clause-caused
returns-clause-caused c =
    is_taken c.args.sizes.now c.args.slot.now c.in_ok-caused.caused
    (ap (state_in c.args.sizes.now) c.requires.none ∙ sym (c.new-instance.ensures c.args.sizes.now))
    refl
    c.in_ok-caused.ensures.broadcast c.in_ok-caused.ensures.delivered

pub take_new-requires : goal.take_new-requires
take_new-requires c =
    ap (λ st. has_voted st c.args.kind c.args.from) (c.new-instance.ensures c.args.sizes.now)
    ∙ fresh_has_voted c.args.sizes.now c.args.kind c.args.from
