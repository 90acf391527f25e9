-- What is true of every cluster that a script runs.
use Rattle.std.specs.Prelude.{◌≡◌, ◌≤◌, None}
use Rattle.byz_world.specs.Worlds.{WorldValue}
use Rattle.lab_scripts.specs.Labs.{Lab, pool_length, next_number, flush}

-- the pool has no more packets than its limit, as each world's has
abbrev pub IsWithinLimit : WorldValue → Type 0
IsWithinLimit w = pool_length w ≤ w.config.limit

-- all packets are given by a flush, those included that it sends
abbrev pub FlushLeavesNone : Type 0
FlushLeavesNone = (lab : Lab) → IsWithinLimit lab.world → next_number (flush lab).lab ≡ None
