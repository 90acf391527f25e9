use Rattle.std.proofs.Common.{◌≡◌, ◌∙◌, ◌-◌, min, ◌++◌, [], refl, sym, ap, subst, take, drop, length, arith}
use Rattle.std.specs.List.{concat}
use Rattle.std.proofs.lemmas.List.Elements.{All-from_get_or}
use Rattle.link_frames.specs.frames.Layout.{frame_len}
use Rattle.frame_queues.specs.Unsent.{UnsentValue, most_frames, unsent}
use Rattle.frame_queues.proofs.UnsentLemmas.{unsent_with, all_with, unsent_behind}
use Rattle.frame_queues.proofs.unsent_frames.UnsentFrames.push.Goals as goal

pub invariant_of-self-in-loop-frame : goal.invariant_of-self-in-loop-frame
invariant_of-self-in-loop-frame c =
    let len = ap (λ (u : UnsentValue). length u.frames) c.self.view_is in
    unsent_with c.self.inside.frames.items c.args.frames.now c.loop-frame.self-inside.frames.items
    c.self.inside.written c.loop-frame.self-inside.written c.min-taken.result c.loop-frame.frame-index
    c.self.invariant
    (All-from_get_or (λ frame. length frame ≡ frame_len) c.args.frames.now [] c.told-frames)
    (omega (arith, c.min-taken.ensures, c.room.ensures.value, c.self.invariant.few, len))
    (c.loop-frame.invariant.put
    ∙ ap (λ xs. xs ++ take c.loop-frame.frame-index (take c.min-taken.result c.args.frames.now))
    c.try_reserve.ensures.items)
    c.loop-frame.invariant.same

pub returns-clause-ok : goal.returns-clause-ok
returns-clause-ok c =
    let len = ap (λ (u : UnsentValue). length u.frames) c.self.view_is in
    let taken : c.min-taken.result ≡ min (length c.args.frames.now) (most_frames - length c.self.inside.frames.items) =
    c.min-taken.ensures
    ∙ ap (min (length c.args.frames.now)) (c.room.ensures.value ∙ ap (λ n. most_frames - n) (sym len)) in
    let put =
    c.loop-frame.invariant.put
    ∙ ap (λ xs. xs ++ take c.loop-frame.frame-index (take c.min-taken.result c.args.frames.now))
    c.try_reserve.ensures.items in
    let all =
    all_with c.self.inside.frames.items c.args.frames.now c.loop-frame.self-inside.frames.items c.min-taken.result
    c.loop-frame.frame-index c.self.invariant.few taken c.loop-frame-test.false put in
    subst
    (λ (u : UnsentValue).
    record { frames = c.loop-frame.self-inside.frames.items; written = c.loop-frame.self-inside.written }
    ≡ record u { frames = take most_frames (u.frames ++ c.args.frames.now) })
    c.self.view_is
    (rw all (rw c.loop-frame.invariant.same refl))

pub returns-clause-bytes : goal.returns-clause-bytes
returns-clause-bytes c =
    ap unsent (returns-clause-ok c)
    ∙ subst
    (λ (u : UnsentValue).
    drop u.written (concat (take most_frames (u.frames ++ c.args.frames.now)))
    ≡ unsent u ++ concat (take (most_frames - length u.frames) c.args.frames.now))
    c.self.view_is
    (unsent_behind (record { frames = c.self.inside.frames.items; written = c.self.inside.written }) c.args.frames.now
    c.self.invariant)
