use Rattle.std.proofs.Common.{◌≡◌, ◌%◌, [], ◌∷◌, ◌++◌, None, length, length-append, sym, ap, ◌∙◌, arith}
use Rattle.std.specs.Prelude.{slice_set}
use Rattle.owner_streams.specs.Places.{window}
use Rattle.owner_streams.specs.inside.Slots.{slot_at}
use Rattle.owner_streams.specs.inside.Kept.{held_in, held}
use Rattle.owner_streams.proofs.Rings.{held-window, held-moved, slot_within}
use Rattle.owner_streams.proofs.owner_stream.OwnerStream.retire_front.Goals as goal

pub free_slot-requires : goal.free_slot-requires
unfolding held
free_slot-requires c =
    let below = c.args.self.now.below.items in
    let ring = c.args.self.now.ring.items in
    let at : c.len.result ≡ length below = omega arith in
    slot_within ring (c.len.result % 64) c.args.settled
    (ap (λ n. slot_at ring (n % window)) at
    ∙ sym (held-window below ring (length below) (omega arith) (omega arith))
    ∙ c.requires.front)

pub returns-clause-same : goal.returns-clause-same
unfolding held
returns-clause-same c =
    let below = c.args.self.now.below.items in
    let ring = c.args.self.now.ring.items in
    let at : c.len.result ≡ length below = omega arith in
    record {
      at_each_place = λ place.
          (λ i. held_in (c.push_record.ensures.items i) (c.free_slot.ensures i) place)
          ∙ ap (λ n. held_in (below ++ c.args.settled ∷ []) (slice_set ring (n % window) None) place) at
          ∙ held-moved below ring c.args.settled c.requires.front place;
    }

pub returns-clause-reach : goal.returns-clause-reach
returns-clause-reach c =
    ap length c.push_record.ensures.items ∙ length-append c.args.self.now.below.items (c.args.settled ∷ [])
