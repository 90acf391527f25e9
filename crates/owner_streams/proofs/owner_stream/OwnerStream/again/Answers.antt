use Rattle.std.proofs.Common.{sym, ap, ◌∙◌}
use Rattle.owner_streams.specs.inside.Slots.{again_in}
use Rattle.owner_streams.proofs.owner_stream.OwnerStream.again.Goals as goal

pub returns-then-place-len : goal.returns-then-place-len
returns-then-place-len c =
    (λ i. record { echo = c.echoed.ensures i; ready = c.readied.ensures i })
    ∙ ap again_in (sym c.record_at-record.ensures)
