use Rattle.std.proofs.Common.{◌≡◌, ℕ, ◌-◌, vec_len}
use Rattle.owner_streams.specs.inside.Slots.{slot_at}
use Rattle.owner_streams.proofs.owner_stream.add_slots.Given as goal

abbrev pub invariant-loop-slots : goal.invariant-loop-slots
invariant-loop-slots l = (slot : ℕ) → slot_at l.slots.items slot ≡ slot_at l.initial.slots.items slot

abbrev pub decreases-loop-slots : goal.decreases-loop-slots
decreases-loop-slots l = l.count - vec_len l.slots
