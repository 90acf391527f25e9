use Rattle.std.proofs.Common.{◌≡◌, ℕ, ◌+◌, ◌-◌, ◌<◌, ◌≤◌}
use Rattle.std.specs.Prelude.{IsSome, vec_capacity}
use Rattle.owner_streams.specs.Places.{window}
use Rattle.owner_streams.specs.inside.Slots.{delivered_in}
use Rattle.owner_streams.specs.inside.Kept.{reach_in, held}
use Rattle.owner_streams.proofs.owner_stream.OwnerStream.advance.Given as goal

abbrev pub invariant-loop-settled : goal.invariant-loop-settled
invariant-loop-settled l = record {
  same : (place : ℕ) → held l.self place ≡ held l.initial.self place;
  run : (place : ℕ) → place < reach_in l.self → IsSome (delivered_in (held l.self place));
  room : reach_in l.initial.self + window ≤ vec_capacity l.self.below;
  onward : reach_in l.initial.self ≤ reach_in l.self;
  few : reach_in l.self ≤ reach_in l.initial.self + window;
}

abbrev pub decreases-loop-settled : goal.decreases-loop-settled
decreases-loop-settled l = reach_in l.initial.self + window - reach_in l.self
