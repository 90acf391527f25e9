use Rattle.std.proofs.Common.{◌≡◌, ◌∙◌, ◌+◌, ◌-◌, ◌*◌, ◌≤◌, [], sym, ap, length, take, drop, arith}
use Rattle.std.proofs.Common.{length-take, length-take-le, length-append}
use Rattle.std.proofs.lemmas.List.{with_items_is}
use borrow.Rule.Slice.PartMut.{same_len_mid}
use Rattle.link_frames.specs.frames.Layout.{frame_len}
use Rattle.link_frames.specs.frames.FrameStreams.{rest_of}
use Rattle.frame_queues.specs.Blocks.{block_end}
use Rattle.frame_queues.proofs.BlockLemmas.{rest_is_short, reads_on, reads_none, Consumes-none, says_with}
use Rattle.frame_queues.proofs.frame_block.FrameBlock.read.Goals as goal

pub slice_bounds-read-count : goal.slice_bounds-read-count
slice_bounds-read-count g c =
    let short =
    rest_is_short c.self.inside.have c.self.inside.bytes.items c.args.self.now c.self.invariant.within
    (c.self.view_is ∙ c.keep_rest.ensures) in
    omega (arith, short, c.clamp-end.ensures)

pub overflow_sub-end : goal.overflow_sub-end
overflow_sub-end g c =
    let short =
    rest_is_short c.self.inside.have c.self.inside.bytes.items c.args.self.now c.self.invariant.within
    (c.self.view_is ∙ c.keep_rest.ensures) in
    omega (arith, short, c.clamp-end.ensures)

pub slice_bounds-read-start : goal.slice_bounds-read-start
slice_bounds-read-start g c = slice_bounds-read-count g c

pub returns-in-Ok-clause-bytes : goal.returns-in-Ok-clause-bytes
returns-in-Ok-clause-bytes g c =
    let count = c.in-Ok.count in
    let size = same_len_mid _ _ _ _ c.read.auto.buf ∙ c.deref_mut.ensures.len in (
      take count c.read.new.buf,
      c.in-Ok.ensures.bytes.0,
      ap (take (c.self.inside.have + count)) (with_items_is c.self.inside.bytes _ size)
          ∙ reads_on c.self.inside.have _ count c.self.inside.bytes.items _ c.read.new.buf c.args.self.now
          c.deref_mut.ensures.value c.self.invariant.within (c.self.view_is ∙ c.keep_rest.ensures)
          c.in-Ok.ensures.bound.0,
    )

pub returns-in-Err-clause-bytes : goal.returns-in-Err-clause-bytes
returns-in-Err-clause-bytes g c =
    let size = same_len_mid _ _ _ _ c.read.auto.buf ∙ c.deref_mut.ensures.len in (
      [],
      Consumes-none _ _ c.in-Err.ensures.bytes,
      ap (take c.self.inside.have) (with_items_is c.self.inside.bytes _ size)
          ∙ reads_none c.self.inside.have _ c.self.inside.bytes.items _ c.read.new.buf c.args.self.now
          c.deref_mut.ensures.value c.self.invariant.within (c.self.view_is ∙ c.keep_rest.ensures),
    )

pub returns-in-Ok-clause-came : goal.returns-in-Ok-clause-came
unfolding returns-in-Ok-clause-bytes
returns-in-Ok-clause-came g c =
    let have = c.self.inside.have in
    let count = c.in-Ok.count in
    let end = c.clamp-end.result * frame_len in
    let rest = rest_of c.args.self.now in
    let is = c.self.view_is ∙ c.keep_rest.ensures in
    let short = rest_is_short have c.self.inside.bytes.items c.args.self.now c.self.invariant.within is in
    let before : length rest ≡ have =
    sym (ap length is) ∙ length-take-le have c.self.inside.bytes.items c.self.invariant.within in
    let after =
    ap length (returns-in-Ok-clause-bytes g c).2 ∙ length-append rest (take count c.read.new.buf)
    ∙ ap (λ n. length rest + n) (sym c.in-Ok.ensures.bound.1) in
    let fits : count ≤ end - have =
    omega (
      arith,
      c.in-Ok.ensures.bound.0,
      c.read.auto.buf,
      length-take (end - have) (drop have c.deref_mut.result.now),
    ) in
    let whole : block_end c.args.frames ≡ length rest + (end - have) =
    omega (arith, before, short, c.clamp-end.ensures) in
    rw c.given.ensures (says_with (length rest) _ (block_end c.args.frames) count (end - have) fits after whole)
