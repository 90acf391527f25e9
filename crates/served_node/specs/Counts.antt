-- What a node counts of itself.
use Rattle.std.specs.Prelude.{ℕ, zero, suc, ◌+◌, ◌-◌, ◌/◌, ◌^◌, nat_le, min, max, Bool}
use Rattle.operator_lines.specs.declared.answer.SyncTimes.{SyncTimes}
use Rattle.served_node.specs.declared.tally.SyncTally.{SyncTally}

-- a count that has grown by so much; it stands still at the greatest number of 64 bits
abbrev pub grown : ℕ → ℕ → ℕ
grown count more = min (count + more) (2 ^ 64 - 1)

-- no sync yet
abbrev pub new_tally : SyncTally
new_tally = record { syncs = 0; total = 0; last = 0; worst = 0 }

-- a sync took so many microseconds
abbrev pub tallied : SyncTally → ℕ → SyncTally
tallied t micros = record {
  syncs = grown t.syncs 1;
  total = grown t.total micros;
  last = micros;
  worst = max t.worst micros;
}

-- the last sync took a millisecond at least
abbrev pub are_long : SyncTally → Bool
are_long t = nat_le 1000 t.last

-- the mean of so many times, whose sum is this; 0 where there are none
abbrev pub mean_of : ℕ → ℕ → ℕ
mean_of total zero = 0
mean_of total (suc more) = total / suc more

abbrev pub times_of : SyncTally → SyncTimes
times_of t = record { syncs = t.syncs; last = t.last; mean = mean_of t.total t.syncs; worst = t.worst }
