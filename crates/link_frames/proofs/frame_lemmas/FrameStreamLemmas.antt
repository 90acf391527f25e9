-- Bytes as frames that stand one behind another, and the part of a frame that is left behind them.
use Rattle.std.proofs.Common.{◌≡◌, ◌∙◌, refl, sym, ap, subst, ℕ, zero, suc, ◌+◌, ◌*◌, ◌/◌, ◌≤◌, List, [], ◌∷◌, ◌++◌}
use Rattle.std.proofs.Common.{length, take, drop, arith, append_assoc, length-drop, length-take-le, length-append}
use Rattle.std.specs.List.{concat}
use Rattle.std.specs.Simd.{first_chunks}
use Rattle.std.proofs.Math.Seq.{take-add}
use Rattle.std.proofs.lemmas.List.{take-append-drop, take_at, drop_at}
use Rattle.std.proofs.lemmas.List.Elements.{All-head, All-tail, All-nil, All-cons}
use Rattle.link_frames.specs.frames.Layout.{frame_len}
use Rattle.link_frames.specs.frames.FrameStreams.{IsWhole, AreFrames, AreFramesOf, rest_of, FramesAreOne}

-- the first chunks of bytes are frames, and one behind another they are the front of the bytes
chunks_are_frames : (k : ℕ) (bytes : List ℕ) → k * frame_len ≤ length bytes →
    AreFrames (first_chunks frame_len k bytes)
chunks_are_frames zero bytes within = All-nil (λ frame. IsWhole frame)
chunks_are_frames (suc k) bytes within =
    All-cons (λ frame. IsWhole frame) (take frame_len bytes)
    (first_chunks frame_len k (drop frame_len bytes))
    (length-take-le frame_len bytes (omega arith))
    (chunks_are_frames k (drop frame_len bytes) (omega (arith, length-drop frame_len bytes)))

concat-first_chunks : (k : ℕ) (bytes : List ℕ) →
    concat (first_chunks frame_len k bytes) ≡ take (k * frame_len) bytes
concat-first_chunks zero bytes = refl
concat-first_chunks (suc k) bytes =
    let more : frame_len + k * frame_len ≡ suc k * frame_len = omega arith in
    ap (λ xs. take frame_len bytes ++ xs) (concat-first_chunks k (drop frame_len bytes))
    ∙ sym (take-add frame_len (k * frame_len) bytes)
    ∙ ap (λ n. take n bytes) more

-- as many chunks as there are whole frames
chunks_of : (bytes : List ℕ) → AreFramesOf bytes (first_chunks frame_len (length bytes / frame_len) bytes)
chunks_of bytes =
    let k = length bytes / frame_len in record {
      whole = chunks_are_frames k bytes (omega arith);
      all =
          ap (λ xs. xs ++ rest_of bytes) (concat-first_chunks k bytes)
          ∙ take-append-drop (k * frame_len) bytes;
    }

pub frames_are : (bytes : List ℕ) (frames : List (List ℕ)) →
    frames ≡ first_chunks frame_len (length bytes / frame_len) bytes → AreFramesOf bytes frames
frames_are bytes frames chunks = subst (AreFramesOf bytes) (sym chunks) (chunks_of bytes)

-- The frames of bytes are one list.

same_frames : (xs ys : List (List ℕ)) (rest : List ℕ) → AreFrames xs → AreFrames ys →
    concat xs ++ rest ≡ concat ys ++ rest → xs ≡ ys
same_frames [] [] rest are too same = refl
same_frames [] (y ∷ ys) rest are too same =
    let len = All-head (λ frame. IsWhole frame) y ys too in
    absurd (omega (
      arith,
      ap length same,
      length-append (y ++ concat ys) rest,
      length-append y (concat ys),
      len,
    ))
same_frames (x ∷ xs) [] rest are too same =
    let len = All-head (λ frame. IsWhole frame) x xs are in
    absurd (omega (
      arith,
      ap length same,
      length-append (x ++ concat xs) rest,
      length-append x (concat xs),
      len,
    ))
same_frames (x ∷ xs) (y ∷ ys) rest are too same =
    let this = All-head (λ frame. IsWhole frame) x xs are in
    let that = All-head (λ frame. IsWhole frame) y ys too in
    let whole : x ++ (concat xs ++ rest) ≡ y ++ (concat ys ++ rest) =
    sym (append_assoc x (concat xs) rest) ∙ same ∙ append_assoc y (concat ys) rest in
    let first : x ≡ y =
    sym (take_at x (concat xs ++ rest) frame_len this) ∙ ap (take frame_len) whole
    ∙ take_at y (concat ys ++ rest) frame_len that in
    let later : concat xs ++ rest ≡ concat ys ++ rest =
    sym (drop_at x (concat xs ++ rest) frame_len this) ∙ ap (drop frame_len) whole
    ∙ drop_at y (concat ys ++ rest) frame_len that in
    let others = same_frames xs ys rest (All-tail (λ frame. IsWhole frame) x xs are)
    (All-tail (λ frame. IsWhole frame) y ys too) later in
    λ i. first i ∷ others i

pub frames_are_one : FramesAreOne
frames_are_one bytes frames others these those =
    same_frames frames others (rest_of bytes) these.whole those.whole (these.all ∙ sym those.all)
