-- The bytes that were read ahead.
use Rattle.std.specs.Prelude.{ℕ, List, length, drop, Option}
use Rattle.std.specs.Io.KnownBytes.{prepend_known}
use Rattle.link_frames.specs.declared.lines.ahead.Ahead.{Ahead}

-- those that are not used yet
abbrev pub front_of : Ahead → List ℕ
front_of ahead = drop ahead.used ahead.bytes.items

-- how many are held, the used ones among them
abbrev pub held_bytes : Ahead → ℕ
held_bytes ahead = length ahead.bytes.items

-- all that is not used yet: the bytes ahead, and those that the reader has left
abbrev pub pending : Option (List ℕ) → Ahead → Option (List ℕ)
pending known ahead = prepend_known (front_of ahead) known
