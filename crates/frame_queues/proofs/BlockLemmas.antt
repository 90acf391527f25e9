-- The frames among bytes, and the part of a frame that is left behind them.
use Rattle.std.proofs.Common.{◌≡◌, ◌∙◌, sym, ap, ℕ, ◌+◌, ◌-◌, ◌*◌, ◌/◌, ◌%◌, ◌<◌, ◌≤◌, List, [], ◌++◌}
use Rattle.std.proofs.Common.{length, take, drop, arith, Option, Some, None, length-drop, length-take-le, le_refl}
use Rattle.std.specs.Prelude.{Bool, true, false, ◌≢◌, ◌==◌, nat_lt, if◌then◌else◌, refl}
use Rattle.std.proofs.Common.{inr}
use borrow.Rule.Slice.PartMut.{put_mid}
use borrow.Author.Tests.{eqb-true, eqb-false, ltb-true, ltb-false}
use Rattle.std.specs.List.{copy_within}
use Rattle.std.specs.Io.KnownBytes.{Consumes, Keeps}
use Rattle.std.proofs.lemmas.List.{append-nil}
use Rattle.std.proofs.lemmas.Slice.{take-put_mid_below}
use Rattle.link_frames.proofs.Exported.{front_read}
use Rattle.link_frames.specs.frames.Layout.{frame_len}
use Rattle.frame_queues.specs.declared.frame_block.Came.TheVariants as came
use Rattle.link_frames.specs.frames.FrameStreams.{rest_of}
use Rattle.frame_queues.specs.Blocks.{Says}
use Rattle.frame_queues.specs.inside.Answers.{came_with}
use Rattle.frame_queues.proofs.FrameBytes.{take-moved}

-- less than a frame is left
pub length-rest_of : (bytes : List ℕ) → length (rest_of bytes) ≡ length bytes % frame_len
length-rest_of bytes =
    omega (arith, length-drop (length bytes / frame_len * frame_len) bytes)

-- the part that is left, brought to the front
pub rest_is_kept : (have : ℕ) (bytes : List ℕ) → have ≤ length bytes →
    take (have % frame_len) (copy_within bytes (have - have % frame_len) have 0) ≡ rest_of (take have bytes)
rest_is_kept have bytes within =
    let len = length-take-le have bytes within in
    let from : have - have % frame_len ≡ have / frame_len * frame_len = omega arith in
    take-moved (have - have % frame_len) (have % frame_len) have bytes (omega arith) within
    ∙ ap (λ n. drop n (take have bytes)) (from ∙ ap (λ n. n / frame_len * frame_len) (sym len))

-- what is left is less than a frame
pub rest_is_short : (have : ℕ) (room old : List ℕ) → have ≤ length room → take have room ≡ rest_of old →
    have < frame_len
rest_is_short have room old within is =
    omega (arith, length-take-le have room within, ap length is, length-rest_of old)

-- so many bytes were read behind it
pub reads_on : (have k count : ℕ) (room buffer read old : List ℕ) → buffer ≡ room → have ≤ length room →
    take have room ≡ rest_of old → count ≤ length read →
    take (have + count) (put_mid have k buffer read) ≡ rest_of old ++ take count read
reads_on have k count room buffer read old same within is fits =
    front_read have k count buffer read (omega (arith, ap length same, within)) fits
    ∙ ap (λ xs. take have xs ++ take count read) same
    ∙ ap (λ xs. xs ++ take count read) is

-- none were
pub reads_none : (have k : ℕ) (room buffer read old : List ℕ) → buffer ≡ room → have ≤ length room →
    take have room ≡ rest_of old → take have (put_mid have k buffer read) ≡ rest_of old ++ []
reads_none have k room buffer read old same within is =
    take-put_mid_below have k buffer read have (le_refl have) (omega (arith, ap length same, within))
    ∙ ap (take have) same ∙ is ∙ sym (append-nil (rest_of old))

-- a reader that failed has given no bytes
pub Consumes-none : (from to : Option (List ℕ)) → Keeps from to → Consumes from to []
Consumes-none None to kept = tt
Consumes-none (Some xs) None kept = absurd kept
Consumes-none (Some xs) (Some ys) kept = sym kept

-- what is said of so many bytes
says_by : (none less : Bool) (before after end count room : ℕ) → count ≤ room → after ≡ before + count →
    end ≡ before + room → (none ≡ true → count ≡ 0) → (none ≡ false → count ≢ 0) → (less ≡ true → count < room) →
    (less ≡ false → room ≤ count) →
    Says before after end (if none then came.End else (if less then came.Some else came.More))
says_by true less before after end count room within is whole zero some part full = omega (arith, is, zero refl)
says_by false true before after end count room within is whole zero some part full =
    (omega (arith, is, some refl), omega (arith, is, whole, part refl))
says_by false false before after end count room within is whole zero some part full =
    inr (omega (arith, is, whole, within, full refl))

pub says_with : (before after end count room : ℕ) → count ≤ room → after ≡ before + count → end ≡ before + room →
    Says before after end (came_with count room)
says_with before after end count room within is whole =
    says_by (count == 0) (nat_lt count room) before after end count room within is whole
    (eqb-true count 0) (eqb-false count 0) (ltb-true count room) (ltb-false count room)
