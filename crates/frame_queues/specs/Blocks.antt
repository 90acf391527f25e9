-- Bytes that are read a block at a time, and the frames among them.
use Rattle.std.specs.Prelude.{◌≡◌, ℕ, ◌*◌, ◌<◌, ◌⊎◌, min, max, List, ◌++◌, Option}
use Rattle.std.specs.Io.KnownBytes.{Consumes}
use Rattle.link_frames.specs.frames.Layout.{frame_len}
use Rattle.link_frames.specs.frames.FrameStreams.{rest_of}
use Rattle.frame_queues.specs.declared.frame_block.Came.{Came}
use Rattle.frame_queues.specs.declared.frame_block.Came.TheVariants.{Nothing, Some, More, End}

-- the most frames of a block
abbrev pub block_frames : ℕ
block_frames = 160

-- what a reader gives stands behind the part of a frame that was left, and no byte is lost
abbrev pub ReadsOn : Option (List ℕ) → Option (List ℕ) → List ℕ → List ℕ → Type 0
ReadsOn from to old new = (bytes : List ℕ) × Consumes from to bytes × (new ≡ rest_of old ++ bytes)

-- where a block ends that is to have so many frames: one at least, and not more than a block has
abbrev pub block_end : ℕ → ℕ
block_end frames = max 1 (min frames block_frames) * frame_len

-- What a read says where there were so many bytes before it, and so many after: some came, and there was room for more;
-- or they came up to the end, or none did, and there may be more; or none came
abbrev pub Says : ℕ → ℕ → ℕ → Came → Type 0
Says before after end Some = (before < after) × (after < end)
Says before after end More = (after ≡ before) ⊎ (after ≡ end)
Says before after end Nothing = after ≡ before
Says before after end End = after ≡ before
