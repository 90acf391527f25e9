use Rattle.std.proofs.Common.{◌≡◌, ◌+◌, ◌*◌, refl, ap, ◌∙◌, arith}
use Rattle.sha2.specs.Sha256.{add_state, compress, rounds, schedule}
use Rattle.link_frames.proofs.frame_lemmas.Turns.{no_sums, fewer_sums, words_at}
use Rattle.link_frames.proofs.frames.sha256.compress.Goals as goal

pub loop-turn-init : goal.loop-turn-init
unfolding rounds
loop-turn-init c = λ b e.
    let w0 = c.four_from-w0.ensures b e in
    let w4 = c.four_from-w4.ensures b e in
    let w8 = c.four_from-w8.ensures b e in
    let w12 = c.four_from-w12.ensures b e in
    let sums = c.set_round_sums-3.ensures b w8 (c.set_round_sums-2.ensures b w4
    (c.set_round_sums.ensures b w0 (no_sums b))) in
    record {
      sums_till = c.set_round_sums-4.ensures b w12 sums;
      words_0 = w0;
      words_4 = w4;
      words_8 = w8;
      words_12 = w12;
      rounded = refl;
    }

pub loop-turn-preserved : goal.loop-turn-preserved
loop-turn-preserved c = λ b e.
    let t = 16 * c.loop-turn.turn in
    let h = c.args.state in
    let before = c.loop-turn.invariant b e in
    let after = rounds h (schedule b 48) in
    let v4 =
    c.four_rounds-v4.ensures b h (fewer_sums b _ (t + 16) (t + 4) (omega arith) before.sums_till) before.rounded in
    let w0 = c.next_four-w0.ensures b t (omega arith) before.words_0 before.words_4 before.words_8 before.words_12 in
    let sums0 = c.set_round_sums-in-loop-turn.ensures b w0 before.sums_till in
    let v8 = c.four_rounds-v8.ensures b h (fewer_sums b _ (t + 16 + 4) (t + 4 + 4) (omega arith) sums0) v4 in
    let w4 =
    words_at b _ (t + 4 + 16) (t + 20) (omega arith)
    (c.next_four-w4.ensures b (t + 4) (omega arith) before.words_4
    (words_at b _ (t + 8) (t + 4 + 4) (omega arith) before.words_8)
    (words_at b _ (t + 12) (t + 4 + 8) (omega arith) before.words_12)
    (words_at b _ (t + 16) (t + 4 + 12) (omega arith) w0)) in
    let sums4 = c.set_round_sums-in-loop-turn-2.ensures b w4
    (fewer_sums b _ (t + 16 + 4) (t + 20) (omega arith) sums0) in
    let v12 =
    c.four_rounds-v12.ensures b h (fewer_sums b _ (t + 20 + 4) (t + 8 + 4) (omega arith) sums4)
    (v8 ∙ ap after (omega arith)) in
    let w8 =
    words_at b _ (t + 8 + 16) (t + 24) (omega arith)
    (c.next_four-w8.ensures b (t + 8) (omega arith) before.words_8
    (words_at b _ (t + 12) (t + 8 + 4) (omega arith) before.words_12)
    (words_at b _ (t + 16) (t + 8 + 8) (omega arith) w0)
    (words_at b _ (t + 20) (t + 8 + 12) (omega arith) w4)) in
    let sums8 = c.set_round_sums-in-loop-turn-3.ensures b w8
    (fewer_sums b _ (t + 20 + 4) (t + 24) (omega arith) sums4) in
    let v16 =
    c.four_rounds-v16.ensures b h (fewer_sums b _ (t + 24 + 4) (t + 12 + 4) (omega arith) sums8)
    (v12 ∙ ap after (omega arith)) in
    let w12 =
    words_at b _ (t + 12 + 16) (t + 28) (omega arith)
    (c.next_four-w12.ensures b (t + 12) (omega arith) before.words_12
    (words_at b _ (t + 16) (t + 12 + 4) (omega arith) w0)
    (words_at b _ (t + 20) (t + 12 + 8) (omega arith) w4)
    (words_at b _ (t + 24) (t + 12 + 12) (omega arith) w8)) in
    let sums12 = c.set_round_sums-in-loop-turn-4.ensures b w12
    (fewer_sums b _ (t + 24 + 4) (t + 28) (omega arith) sums8) in
    let next = 16 * (c.loop-turn.turn + 1) in
    record {
      sums_till = fewer_sums b _ (t + 28 + 4) (next + 16) (omega arith) sums12;
      words_0 = words_at b _ (t + 16) next (omega arith) w0;
      words_4 = words_at b _ (t + 20) (next + 4) (omega arith) w4;
      words_8 = words_at b _ (t + 24) (next + 8) (omega arith) w8;
      words_12 = words_at b _ (t + 28) (next + 12) (omega arith) w12;
      rounded = v16 ∙ ap after (omega arith);
    }

pub returns : goal.returns
unfolding compress
returns c = λ b e.
    let h = c.args.state in
    let done = c.loop-turn.invariant b e in
    let t = 16 * c.loop-turn.turn in
    let end : t ≡ 48 = omega (arith, c.loop-turn.auto.turn-end) in
    let after = rounds h (schedule b 48) in
    let sums = fewer_sums b c.loop-turn.sums (t + 16) 64 (omega arith) done.sums_till in
    let v52 = c.four_rounds-v52.ensures b h (fewer_sums b _ 64 52 (omega arith) sums) (done.rounded ∙ ap after end) in
    let v56 = c.four_rounds-v56.ensures b h (fewer_sums b _ 64 56 (omega arith) sums) v52 in
    let v60 = c.four_rounds-v60.ensures b h (fewer_sums b _ 64 60 (omega arith) sums) v56 in
    let v64 = c.four_rounds.ensures b h sums v60 in
    c.next_hash.ensures ∙ ap (add_state h) v64
