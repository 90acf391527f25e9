-- The pauses before something is sent again, in milliseconds.
use Rattle.std.specs.Prelude.{ℕ, ◌+◌, ◌*◌, ◌/◌, nat_le, min, max, if◌then◌else◌}

-- the first pause, and the longest of all
abbrev pub first_pause : ℕ
first_pause = 50

abbrev pub most_pause : ℕ
most_pause = 60000

-- no time that is handed in is later than this one, and this one never comes
abbrev pub most_time : ℕ
most_time = 4611686018427387904

abbrev pub never : ℕ
never = 18446744073709551615

-- how long the next pause is, and when the last one is over
pub record PauseValue : Type 0 where
  pub length : ℕ
  pub until : ℕ

-- there was none yet
abbrev pub new_pause : PauseValue
new_pause = record { length = first_pause; until = 0 }

-- the next one has begun: the one after it is twice as long, up to the longest
abbrev pub begun : ℕ → ℕ → PauseValue → PauseValue
begun now longest p = record { length = min (2 * p.length) longest; until = now + p.length }

-- the next one is the first again
abbrev pub renewed : PauseValue → PauseValue
renewed p = record p { length = first_pause }

-- the next one is the second again
abbrev pub eased : PauseValue → PauseValue
eased p = record p { length = 2 * first_pause }

-- the last one is over by a time at the latest, or not before it
abbrev pub ended_by : ℕ → PauseValue → PauseValue
ended_by time p = record p { until = min p.until time }

abbrev pub lasting_to : ℕ → PauseValue → PauseValue
lasting_to time p = record p { until = max p.until time }

-- it never ends, and the next one is the first
abbrev pub asleep : PauseValue
asleep = record { length = first_pause; until = never }

-- the longest pause between looks at a pair that is not settled, in a cluster of so many nodes
abbrev pub longest_look : ℕ → ℕ
longest_look nodes = if nat_le nodes 16 then 5000 else nodes * 1000 / 3

-- the longest pauses between answers: windows, and tails to a peer that is further
abbrev pub longest_answer : ℕ
longest_answer = 2000

abbrev pub longest_beyond : ℕ
longest_beyond = 2000

-- within so long a second probe is none
abbrev pub probe_span : ℕ
probe_span = 50000

-- so often a peer is probed
abbrev pub probe_interval : ℕ
probe_interval = 60000
