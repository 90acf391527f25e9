-- What is left of unsent frames, and what a write takes of them.
use Rattle.std.proofs.Common.{◌≡◌, ◌∙◌, sym, ap, subst, ℕ, zero, suc, ◌+◌, ◌-◌, ◌*◌, ◌/◌, ◌%◌, ◌<◌, ◌≤◌}
use Rattle.std.proofs.Common.{min, Option, List, ◌++◌}
use Rattle.std.proofs.Common.{length, take, drop, arith, length-drop, length-take, length-append}
use Rattle.std.specs.List.{concat, flat_map}
use Rattle.std.specs.Io.KnownBytes.{Appends}
use Rattle.std.proofs.Math.Nat.{min_comm}
use Rattle.std.proofs.Math.Seq.{take-append-add}
use Rattle.std.proofs.lemmas.List.{drop-drop, drop-append-le, take_all, take_min, take_rest}
use Rattle.std.proofs.lemmas.List.Elements.{All-append, All-take}
use Rattle.std.proofs.lemmas.List.Folds.{concat-append}
use Rattle.link_frames.specs.frames.Layout.{frame_len}
use Rattle.link_frames.specs.frames.FrameStreams.{AreFrames}
use Rattle.frame_queues.specs.Unsent.{UnsentValue, most_frames, unsent, GoesOn}
use Rattle.frame_queues.specs.inside.Kept.{IsUnsent}
use Rattle.frame_queues.proofs.FrameBytes.{concat-drop, concat-length, concat-split, part_of_front}

-- what stood behind the bytes that are written is left
pub goes_on : GoesOn
goes_on n u are =
    let q = (u.written + n) / frame_len in
    let r = (u.written + n) % frame_len in
    let whole : q * frame_len + r ≡ u.written + n = omega arith in
    ap (drop r) (concat-drop q u.frames are)
    ∙ drop-drop r (q * frame_len) (concat u.frames)
    ∙ ap (λ k. drop k (concat u.frames)) whole
    ∙ sym (drop-drop n u.written (concat u.frames))

-- the part of a frame that is written is one of these frames, if there is such a part
pub part_is_there : (written k : ℕ) → written < frame_len → (0 < written → 0 < k) → written ≤ k * frame_len
part_is_there zero k part some = omega arith
part_is_there (suc w) k part some = omega (arith, part, some (omega arith))

-- with frames put behind the others, as many as there is room for
pub unsent_with : (old frames items : List (List ℕ)) (before written taken i : ℕ) → IsUnsent old before →
    AreFrames frames → length old + taken ≤ most_frames → items ≡ old ++ take i (take taken frames) →
    written ≡ before → IsUnsent items written
unsent_with old frames items before written taken i is are room put same =
    let len =
    ap length put ∙ length-append old (take i (take taken frames))
    ∙ ap (λ n. length old + n) (length-take i (take taken frames) ∙ ap (min i) (length-take taken frames)) in record {
      whole =
          subst AreFrames (sym put)
          (All-append (λ frame. length frame ≡ frame_len) old (take i (take taken frames)) is.whole
          (All-take (λ frame. length frame ≡ frame_len) i (take taken frames)
          (All-take (λ frame. length frame ≡ frame_len) taken frames are)));
      few = omega (arith, len, room);
      part = omega (arith, same, is.part);
      oldest = λ some. omega (arith, len, is.oldest (omega (arith, some, same)));
    }

-- these are the first of all
pub all_with : (old frames items : List (List ℕ)) (taken i : ℕ) → length old ≤ most_frames →
    taken ≡ min (length frames) (most_frames - length old) → length (take taken frames) ≤ i →
    items ≡ old ++ take i (take taken frames) → items ≡ take most_frames (old ++ frames)
all_with old frames items taken i few is all put =
    let room : length old + (most_frames - length old) ≡ most_frames = omega (arith, few) in
    put ∙ ap (λ xs. old ++ xs) (take_all i (take taken frames) all)
    ∙ ap (λ n. old ++ take n frames) (is ∙ min_comm (length frames) (most_frames - length old))
    ∙ ap (λ xs. old ++ xs) (take_min (most_frames - length old) frames)
    ∙ sym (take-append-add old frames (most_frames - length old))
    ∙ ap (λ n. take n (old ++ frames)) room

-- and their bytes stand behind those that were still to be written
pub unsent_behind : (u : UnsentValue) (frames : List (List ℕ)) → IsUnsent u.frames u.written →
    drop u.written (concat (take most_frames (u.frames ++ frames)))
    ≡ unsent u ++ concat (take (most_frames - length u.frames) frames)
unsent_behind u frames is =
    let free = most_frames - length u.frames in
    let room : most_frames ≡ length u.frames + free = omega (arith, is.few) in
    let bytes = concat-length u.frames is.whole in
    let within : u.written ≤ length (concat u.frames) =
    omega (arith, bytes, part_is_there u.written (length u.frames) is.part is.oldest) in
    ap (λ n. drop u.written (concat (take n (u.frames ++ frames)))) room
    ∙ ap (λ xs. drop u.written (concat xs)) (take-append-add u.frames frames free)
    ∙ ap (drop u.written) (concat-append u.frames (take free frames))
    ∙ drop-append-le u.written (concat u.frames) (concat (take free frames)) within

-- what a writer takes of the bytes of the oldest frames it takes of what is unsent
pub taken_of_unsent : (from to : Option (List ℕ)) (n : ℕ) (bytes : List ℕ) (batch : List (List ℕ))
    (u now : UnsentValue) → u ≡ now → bytes ≡ flat_map (λ x. x) batch → batch ≡ take (length batch) u.frames →
    u.written ≤ length bytes → n ≤ length (take (length bytes - u.written) (drop u.written bytes)) →
    Appends from to (take n (take (length bytes - u.written) (drop u.written bytes))) →
    (n ≤ length (unsent now)) × Appends from to (take n (unsent now))
taken_of_unsent from to n bytes batch u now same flat front within bound took =
    let first = flat_map (λ x. x) (take (length batch) u.frames) in
    let behind = concat (drop (length batch) u.frames) in
    let is : bytes ≡ first = flat ∙ ap (flat_map (λ x. x)) front in
    let all : concat u.frames ≡ first ++ behind = concat-split (length batch) u.frames in
    let len = ap length is in
    let fits : n ≤ length bytes - u.written =
    omega (arith, bound, ap length (take_rest bytes u.written), length-drop u.written bytes) in
    let part : take n (take (length bytes - u.written) (drop u.written bytes)) ≡ take n (unsent u) =
    ap (take n) (take_rest bytes u.written ∙ ap (drop u.written) is)
    ∙ sym
    (ap (λ xs. take n (drop u.written xs)) all
    ∙ part_of_front first behind u.written n (omega (arith, len, within)) (omega (arith, len, fits))) in
    let enough : n ≤ length (unsent u) =
    omega (arith, fits, len, length-drop u.written (concat u.frames), ap length all, length-append first behind) in
    subst (λ v. (n ≤ length (unsent v)) × Appends from to (take n (unsent v))) same
    (enough, subst (Appends from to) part took)
