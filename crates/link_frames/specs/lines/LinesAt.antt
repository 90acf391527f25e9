-- A program that goes over lines, at one moment.
use Rattle.std.specs.Prelude.{ℕ, List, Option}
use Rattle.link_frames.specs.lines.Aheads.{pending}
use Rattle.link_frames.specs.lines.LinePrograms.{WroteFront}
use Rattle.link_frames.specs.lines.Watching.{watched_inner}
use Rattle.link_frames.specs.declared.lines.ahead.Ahead.{Ahead}
use Rattle.link_frames.specs.declared.lines.watched.Watched.{Watched}

-- the bytes of its reader that are not used yet, those of them that the device itself has left, and those that its
-- writer has taken; none where they are not known
pub record Lines : Type 0 where
  pub unread : Option (List ℕ)
  pub at_device : Option (List ℕ)
  pub written : Option (List ℕ)

-- the reader has this left and nothing was read ahead, and the writer has taken this
abbrev pub devices : Option (List ℕ) → Option (List ℕ) → Lines
devices left written = record { unread = left; at_device = left; written = written }

abbrev pub devices_at :
    {R W : Type 0} → (R → Option (List ℕ)) → (W → Option (List ℕ)) → Watched R → Watched W → Lines
devices_at remaining contents reader writer =
    devices (remaining (watched_inner reader)) (contents (watched_inner writer))

-- a reader with the bytes that were read ahead of it, where this was written
abbrev pub lines_at : {R : Type 0} → (R → Option (List ℕ)) → Watched R → Ahead → Option (List ℕ) → Lines
lines_at remaining reader ahead written = record {
  unread = pending (remaining (watched_inner reader)) ahead;
  at_device = remaining (watched_inner reader);
  written = written;
}

-- a prefix of the text of the input was written
abbrev pub WroteFrontOf : (List ℕ → List ℕ) → Lines → Lines → Type 0
WroteFrontOf text old new = WroteFront text old.unread old.written new.written
