-- The bytes of frames that stand one behind another.
use Rattle.std.proofs.Common.{◌≡◌, ◌∙◌, refl, sym, ap, ℕ, zero, suc, ◌+◌, ◌-◌, ◌*◌, ◌≤◌, List, [], ◌∷◌, ◌++◌}
use Rattle.std.proofs.Common.{length, take, drop, arith, length-drop, length-take-le, length-append}
use Rattle.std.specs.List.{concat, flat_map, copy_within}
use Rattle.std.proofs.Math.Seq.{drop-nil}
use Rattle.std.proofs.lemmas.List.{drop-drop, drop_at, drop-append-le, drop-take}
use Rattle.std.proofs.lemmas.List.{take-append-le, take-append-drop, take_at}
use Rattle.std.proofs.lemmas.List.Concat.{concat_is}
use Rattle.std.proofs.lemmas.List.Elements.{All-head, All-tail}
use Rattle.std.proofs.lemmas.List.Folds.{concat-append}
use Rattle.link_frames.specs.frames.Layout.{frame_len}
use Rattle.link_frames.specs.frames.FrameStreams.{AreFrames}

pub concat-length : (frames : List (List ℕ)) → AreFrames frames → length (concat frames) ≡ length frames * frame_len
concat-length [] are = refl
concat-length (f ∷ fs) are =
    let rest = concat-length fs (All-tail (λ frame. length frame ≡ frame_len) f fs are) in
    let len = All-head (λ frame. length frame ≡ frame_len) f fs are in
    omega (arith, length-append f (concat fs), len, rest)

-- without the first frames, the bytes without theirs are left
pub concat-drop : (k : ℕ) (frames : List (List ℕ)) → AreFrames frames →
    concat (drop k frames) ≡ drop (k * frame_len) (concat frames)
concat-drop zero frames are = refl
concat-drop (suc k) [] are = sym (drop-nil (suc k * frame_len))
concat-drop (suc k) (f ∷ fs) are =
    let rest = concat-drop k fs (All-tail (λ frame. length frame ≡ frame_len) f fs are) in
    let len = All-head (λ frame. length frame ≡ frame_len) f fs are in
    let more : frame_len + k * frame_len ≡ suc k * frame_len = omega arith in
    rest ∙ ap (drop (k * frame_len)) (sym (drop_at f (concat fs) frame_len len))
    ∙ drop-drop (k * frame_len) frame_len (f ++ concat fs)
    ∙ ap (λ n. drop n (f ++ concat fs)) more

-- a part of the front is a part of the whole
pub part_of_front : (front behind : List ℕ) (from n : ℕ) → from ≤ length front → n ≤ length front - from →
    take n (drop from (front ++ behind)) ≡ take n (drop from front)
part_of_front front behind from n within fits =
    ap (take n) (drop-append-le from front behind within)
    ∙ take-append-le n (drop from front) behind (omega (arith, length-drop from front))

-- the bytes of the first frames are the front of the bytes
pub concat-split : (k : ℕ) (frames : List (List ℕ)) →
    concat frames ≡ flat_map (λ x. x) (take k frames) ++ concat (drop k frames)
concat-split k frames =
    ap concat (sym (take-append-drop k frames)) ∙ concat-append (take k frames) (drop k frames)
    ∙ ap (λ xs. xs ++ concat (drop k frames)) (concat_is (take k frames))

-- the end of the first bytes, brought to the front
pub take-moved : (from n have : ℕ) (bytes : List ℕ) → from + n ≡ have → have ≤ length bytes →
    take n (copy_within bytes from have 0) ≡ drop from (take have bytes)
take-moved from n have bytes is within =
    let size : have - from ≡ n = omega (arith, is) in
    let len : length (take n (drop from bytes)) ≡ n =
    length-take-le n (drop from bytes) (omega (arith, length-drop from bytes)) in
    ap (λ m. take n (take m (drop from bytes) ++ drop (0 + m) bytes)) size
    ∙ take_at (take n (drop from bytes)) (drop (0 + n) bytes) n len
    ∙ sym (drop-take from n bytes)
    ∙ ap (λ m. drop from (take m bytes)) is
