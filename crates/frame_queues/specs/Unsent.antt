-- Frames that wait to be written over a connection, and what a write takes of them.
use Rattle.std.specs.Prelude.{◌≡◌, ℕ, ◌+◌, ◌/◌, ◌%◌, ◌≤◌, List, length, take, drop, Option, Result, MatchResult}
use Rattle.std.specs.List.{concat}
use Rattle.std.specs.Io.KnownBytes.{Appends, Keeps}
use Rattle.link_frames.specs.frames.FrameStreams.{AreFrames}
use Rattle.link_frames.specs.frames.Layout.{frame_len}

-- the most frames that wait
abbrev pub most_frames : ℕ
most_frames = 1024

-- the frames, oldest first, and how many bytes of the oldest are written
pub record UnsentValue : Type 0 where
  pub frames : List (List ℕ)
  pub written : ℕ

-- the bytes that are still to be written
abbrev pub unsent : UnsentValue → List ℕ
unsent u = drop u.written (concat u.frames)

-- where so many bytes more are written, the frames that are not written whole are left
abbrev pub after_written : ℕ → UnsentValue → UnsentValue
after_written n u =
    record { frames = drop ((u.written + n) / frame_len) u.frames; written = (u.written + n) % frame_len }

-- on a new connection the oldest frame begins anew
abbrev pub restarted : UnsentValue → UnsentValue
restarted u = record u { written = 0 }

-- a writer took a prefix of the bytes that were still to be written, so many as the answer says, or it failed and took
-- none
abbrev pub IsWrite : {E : Type 0} → Option (List ℕ) → Option (List ℕ) → UnsentValue → Result ℕ E → Type 0
IsWrite old new u result =
    MatchResult result (λ n. (n ≤ length (unsent u)) × Appends old new (take n (unsent u))) (λ _. Keeps old new)

-- What goes over one connection is whole frames, in their order: where so many bytes more are written, what is still to
-- be written is what stood behind these.
abbrev pub GoesOn : Type 0
GoesOn = (n : ℕ) (u : UnsentValue) → AreFrames u.frames → unsent (after_written n u) ≡ drop n (unsent u)
