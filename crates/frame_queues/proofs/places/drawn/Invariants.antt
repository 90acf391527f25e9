use Rattle.std.specs.Prelude.{◌≡◌, ◌+◌, ◌%◌, count_by, take}
use Rattle.frame_queues.specs.Slots.{is_newcomer}
use Rattle.frame_queues.proofs.places.drawn.Given as goal

abbrev pub invariant-loop-place : goal.invariant-loop-place
invariant-loop-place l = count_by is_newcomer (take l.place l.places) + l.left ≡ l.fn.lot % l.count
