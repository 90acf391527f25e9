-- Reading a frame in several reads.
use Rattle.std.proofs.Common.{◌≡◌, ℕ, ◌+◌, ◌-◌, ◌<◌, ◌≤◌, List, ◌++◌, length, take}
use Rattle.std.proofs.Common.{Option, arith, ap, sym, subst, ◌∙◌, length-take-le}
use Rattle.std.proofs.lemmas.List.{take-append-le}
use Rattle.std.proofs.Math.Seq.{take-append-add}
use Rattle.std.proofs.KnownBytes.{Consumes-trans, Consumes-kept}
use Rattle.std.specs.Io.KnownBytes.{Consumes, Keeps}
use borrow.Rule.Slice.PartMut.{put_mid, post_of}
use Rattle.link_frames.specs.frames.FrameReads.{GavePart, FewReads, most_reads}
use Rattle.link_frames.specs.frames.Layout.{frame_len}
use Rattle.link_frames.specs.lines.Watching.{Tally, RoseBy, one_more}

-- after so many reads that gave so many bytes
pub record HasRead (before now : Option (List ℕ)) (old new : Tally) (reads have : ℕ) (frame : List ℕ) : Type 0 where
  pub len : length frame ≡ frame_len
  pub part : have < frame_len
  pub gave : Consumes before now (take have frame)
  pub risen : RoseBy (reads - have) old.faults new.faults
  pub few : new.faults ≤ old.faults + reads
  pub unbroken : new.breaks ≡ old.breaks
  pub asked : RoseBy reads old.reads new.reads
  pub asked_few : new.reads ≤ old.reads + reads

-- a part of a frame was given, and then a read failed
pub failed : {a b : Option (List ℕ)} {old new : Tally} {reads have : ℕ} {frame : List ℕ} (c : Option (List ℕ))
    (last : Tally)
    → HasRead a b old new reads have frame → Keeps b c → reads < most_reads → last.faults ≡ one_more new.faults
    → last.reads ≡ one_more new.reads → last.breaks ≡ one_more new.breaks
    → GavePart a c × RoseBy 1 old.faults last.faults × (last.breaks ≡ one_more old.breaks) × FewReads old last
failed {have} {frame} c last h keeps turn faults reads breaks =
    let len : length (take have frame) ≡ have = length-take-le have frame (omega (arith, h.len, h.part)) in
    let given = Consumes-kept _ _ _ _ h.gave keeps in (
      (have, h.part, (take have frame, len, given)),
      omega (arith, h.few),
      omega (arith, h.unbroken),
      omega (arith, h.asked_few),
    )

-- a read was interrupted
pub interrupted : {a b : Option (List ℕ)} {old new : Tally} {reads have : ℕ} {frame : List ℕ}
    (c : Option (List ℕ)) (last : Tally) (after : List ℕ) → HasRead a b old new reads have frame → Keeps b c
    → last.faults ≡ one_more new.faults
    → last.reads ≡ one_more new.reads → last.breaks ≡ new.breaks → length after ≡ length frame
    → take have after ≡ take have frame
    → HasRead a c old last (reads + 1) have after
interrupted c last after h keeps faults reads breaks len front = record {
  len = omega (arith, h.len);
  part = h.part;
  gave = subst (Consumes _ _) (sym front) (Consumes-kept _ _ _ _ h.gave keeps);
  risen = omega (arith, h.risen, h.few);
  few = omega (arith, h.few);
  unbroken = breaks ∙ h.unbroken;
  asked = omega (arith, h.asked, h.asked_few);
  asked_few = omega (arith, h.asked_few);
}

-- a read gave some bytes, and the frame is not whole
pub gave_more : {a b : Option (List ℕ)} {old new : Tally} {reads have : ℕ} {frame : List ℕ}
    (c : Option (List ℕ)) (n : ℕ) (last : Tally) (after given : List ℕ) → HasRead a b old new reads have frame
    → Consumes b c given → last.faults ≡ new.faults
    → last.reads ≡ one_more new.reads → last.breaks ≡ new.breaks → 0 < n → have + n < frame_len
    → length after ≡ length frame
    → take (have + n) after ≡ take have frame ++ given
    → HasRead a c old last (reads + 1) (have + n) after
gave_more c n last after given h gave faults reads breaks some part len front = record {
  len = omega (arith, h.len);
  part = part;
  gave = subst (Consumes _ _) (sym front) (Consumes-trans _ _ _ _ _ h.gave gave);
  risen = omega (arith, h.risen);
  few = omega (arith, h.few);
  unbroken = breaks ∙ h.unbroken;
  asked = omega (arith, h.asked, h.asked_few);
  asked_few = omega (arith, h.asked_few);
}

-- the front of a buffer whose rest was read into
pub front_read : (a k n : ℕ) (xs ys : List ℕ) → a ≤ length xs → n ≤ length ys
    → take (a + n) (put_mid a k xs ys) ≡ take a xs ++ take n ys
front_read a k n xs ys within fits =
    let after = post_of a k xs in
    let len : length (take a xs) ≡ a = length-take-le a xs within in
    ap (λ m. take (m + n) (put_mid a k xs ys)) (sym len) ∙ take-append-add (take a xs) (ys ++ after) n
    ∙ ap (λ l. take a xs ++ l) (take-append-le n ys after fits)
