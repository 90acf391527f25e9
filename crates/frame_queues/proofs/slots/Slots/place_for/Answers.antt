use Rattle.std.proofs.Common.{◌≡◌, ◌<◌, ◌∙◌, ap, sym, arith, None}
use Rattle.std.specs.Prelude.{count_by, position}
use Rattle.frame_queues.specs.Slots.{is_free, is_newcomer}
use Rattle.frame_queues.proofs.RoomLemmas.{one_is_free}
use Rattle.frame_queues.proofs.slots.Slots.place_for.Goals as goal

pub unreachable-requires : goal.unreachable-requires
unreachable-requires c =
    let few : count_by is_newcomer c.self.inside.places.items < c.self.inside.newcomers =
    omega (
      arith,
      c.if-count-from.true,
      c.count_newcomers-count.ensures,
      ap (count_by is_newcomer) c.deref.ensures.value,
      c.from.ensures,
    ) in
    let none : position is_free c.self.inside.places.items ≡ None =
    sym (ap (position is_free) c.deref-then-count-from.ensures.value) ∙ sym c.first_free.ensures ∙ c.in_default.is in
    one_is_free _ c.self.invariant few none
