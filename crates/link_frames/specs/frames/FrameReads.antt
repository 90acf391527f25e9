-- What reading one frame does: to the bytes that the reader has left, where those are known, and to the
-- counts of its calls.
use Rattle.std.specs.Prelude.{◌≡◌, ℕ, ◌+◌, ◌-◌, ◌<◌, ◌≤◌, List, length, Option, Some, None, Result, Ok, Err}
use Rattle.std.specs.Io.KnownBytes.{Consumes, IsAtEnd}
use Rattle.link_frames.specs.frames.Layout.{frame_len}
use Rattle.link_frames.specs.lines.Watching.{Tally, RoseBy, one_more}
use Rattle.link_frames.specs.declared.frames.reading.ReadFault.{ReadFault}
use Rattle.link_frames.specs.declared.frames.reading.ReadFault.TheVariants.{Truncated, Device, TooManyTurns}

-- the most reads for one frame
abbrev pub most_reads : ℕ
most_reads = 1024

-- the reader has given so many bytes
abbrev pub Gave : Option (List ℕ) → Option (List ℕ) → ℕ → Type 0
Gave before after k = (bs : List ℕ) × (length bs ≡ k) × Consumes before after bs

-- less than a frame was given
abbrev pub GavePart : Option (List ℕ) → Option (List ℕ) → Type 0
GavePart before after = (k : ℕ) × (k < frame_len) × Gave before after k

-- not more reads were made than there may be for one frame
abbrev pub FewReads : Tally → Tally → Type 0
FewReads old new = new.reads ≤ old.reads + most_reads

-- so many were made, and no more
abbrev pub AllReads : Tally → Tally → Type 0
AllReads old new = RoseBy most_reads old.reads new.reads × FewReads old new

-- calls failed by interruptions alone, fewer than the reads
abbrev pub WasInterrupted : Tally → Tally → Type 0
WasInterrupted old new =
    RoseBy 0 old.faults new.faults × (new.faults < old.faults + most_reads) × (new.breaks ≡ old.breaks)
    × FewReads old new

-- a frame is the next bytes, and no more were taken; there is none where the reader ends before its first
-- byte, and it is truncated where the reader ends behind that. A device has failed where a call has that was
-- not interrupted. All this is seen by 1,024 reads at most; the turns are too many where so many were made, and each
-- was interrupted or gave some bytes
abbrev pub FrameRead :
    Option (List ℕ) → Option (List ℕ) → Tally → Tally → Result (Option (List ℕ)) ReadFault → Type 0
FrameRead before after old new (Ok (Some frame)) =
    (length frame ≡ frame_len) × Consumes before after frame × WasInterrupted old new
FrameRead before after old new (Ok None) = IsAtEnd before × IsAtEnd after × WasInterrupted old new
FrameRead before after old new (Err (Truncated k)) =
    (0 < k) × (k < frame_len) × Gave before after k × IsAtEnd after × WasInterrupted old new
FrameRead before after old new (Err Device) =
    GavePart before after × RoseBy 1 old.faults new.faults × (new.breaks ≡ one_more old.breaks) × FewReads old new
FrameRead before after old new (Err TooManyTurns) =
    GavePart before after × RoseBy (most_reads - (frame_len - 1)) old.faults new.faults × (new.breaks ≡ old.breaks)
    × AllReads old new
