use Rattle.std.proofs.Common.{length, refl, ◌∙◌}
use Rattle.std.proofs.lemmas.Option.{slice_get_read}
use Rattle.owner_streams.specs.inside.Kept.{held}
use Rattle.owner_streams.proofs.Rings.{held-below}
use Rattle.owner_streams.proofs.owner_stream.OwnerStream.record_at.Goals as goal

pub returns : goal.returns
unfolding held
returns c =
    let records = c.args.self.now.below.items in
    held-below records c.args.self.now.ring.items c.args.place c.requires
    ∙ slice_get_read records (length records) c.args.place c.index.result.now refl c.requires c.index.ensures
