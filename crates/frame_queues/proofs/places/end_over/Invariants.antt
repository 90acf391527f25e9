use Rattle.std.specs.Prelude.{◌≡◌, ◌++◌, map, take, drop}
use Rattle.frame_queues.specs.Slots.{after_time}
use Rattle.frame_queues.proofs.places.end_over.Given as goal

abbrev pub invariant-loop-place : goal.invariant-loop-place
invariant-loop-place l =
    l.places
    ≡ map (after_time l.now) (take l.place-index l.initial.places) ++ drop l.place-index l.initial.places
