-- What layers above may cite of the proofs. Declares nothing.
--     WentOn-nothing, -trans, CallFailed-later, ReaderFailed-later      calls one after another, and a failed one
--     AppendsFront-nothing, -whole      what was written when a writer failed
--     lines_of-..      the lines of bytes that are known in part
--     Consumes-front      the bytes that were read ahead
--     text_by-.., bad_by-..      a line program, line by line
--     written_more      a list of which one item more is written
--     Ran, Ran-..      a line program that was run so far; Ended: how it ends; ..Between: between two moments
--     HasBytes-done, some_tail, nothing_left, tail_of, tail_at_end      what an input is of which a part was read
--     front_read      the front of a buffer whose rest was read into
--     due_takes, due_again      the packet of a message is due exactly where it is sound
--     length-hmac, opened_is_sound      what is opened is the packet's frame
pub use Rattle.link_frames.proofs.line_lemmas.CallLemmas.{WentOn-nothing, WentOn-trans, CallFailed-later}
pub use Rattle.link_frames.proofs.line_lemmas.CallLemmas.{ReaderFailed-later}
pub use Rattle.link_frames.proofs.line_lemmas.WriteLemmas.{AppendsFront-nothing, AppendsFront-whole}
pub use Rattle.link_frames.proofs.line_lemmas.LineLemmas.{lines_of-nil, lines_of-line, lines_of-last, lines_of-begun}
pub use Rattle.link_frames.proofs.line_lemmas.PassedLineLemmas.{Consumes-front}
pub use Rattle.link_frames.proofs.line_lemmas.ListTextLemmas.{written_more}
pub use Rattle.link_frames.proofs.line_lemmas.TextLemmas.{text_by-nil, text_by-good, text_by-bad, bad_by-nil}
pub use Rattle.link_frames.proofs.line_lemmas.TextLemmas.{bad_by-good, bad_by-bad}
pub use Rattle.link_frames.proofs.line_lemmas.ProgramRunLemmas.{Ran, RanBetween, Ran-start, Ran-kept, Ran-moved}
pub use Rattle.link_frames.proofs.line_lemmas.ProgramRunLemmas.{Ran-taken, Ran-line, Ran-good, Ran-text, Ran-number}
pub use Rattle.link_frames.proofs.line_lemmas.ProgramEndLemmas.{Ended, EndedBetween, Ended-whole, Ended-front}
pub use Rattle.link_frames.proofs.line_lemmas.ProgramEndLemmas.{Ran-front, Ran-end, Ran-last, Ran-bad_line}
pub use Rattle.link_frames.proofs.line_lemmas.ProgramEndLemmas.{Ran-bad_last, Ran-too_long, WroteFront-nothing}
pub use Rattle.link_frames.proofs.line_lemmas.ProgramEndLemmas.{HasBytes-done}
pub use Rattle.link_frames.proofs.line_lemmas.ProgramEndLemmas.{some_tail, nothing_left, tail_of, tail_at_end}
pub use Rattle.link_frames.proofs.frame_lemmas.FrameReadLemmas.{front_read}
pub use Rattle.link_frames.proofs.frame_lemmas.PacketReading.{due_takes, due_again}
pub use Rattle.link_frames.proofs.frame_lemmas.OpeningLemmas.{length-hmac, opened_is_sound}
