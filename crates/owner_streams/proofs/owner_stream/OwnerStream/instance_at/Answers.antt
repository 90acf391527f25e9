use Rattle.std.proofs.Common.{◌%◌, sym, ap, ◌∙◌, arith}
use Rattle.owner_streams.specs.Places.{window}
use Rattle.owner_streams.specs.inside.Slots.{slot_at}
use Rattle.owner_streams.specs.inside.Kept.{held}
use Rattle.owner_streams.proofs.Rings.{held-window, held-beyond}
use Rattle.owner_streams.proofs.owner_stream.OwnerStream.instance_at.Goals as goal

pub returns-then-place-len : goal.returns-then-place-len
unfolding held
returns-then-place-len c =
    sym (held-beyond c.args.self.now.below.items c.args.self.now.ring.items c.args.place (omega arith))

pub returns : goal.returns
unfolding held
returns c =
    c.instance_in.ensures
    ∙ ap (λ ring. slot_at ring (c.args.place % window)) c.deref.ensures.value
    ∙ sym (held-window c.args.self.now.below.items c.args.self.now.ring.items c.args.place c.requires (omega arith))
