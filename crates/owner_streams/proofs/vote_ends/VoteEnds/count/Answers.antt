use Rattle.std.proofs.Common.{◌≡◌, ◌+◌, ◌*◌, ◌<◌, ◌≤◌, ◌∙◌, refl, subst, length, arith}
use Rattle.std.specs.Prelude.{max}
use Rattle.link_frames.specs.frames.Packets.{place_count}
use Rattle.owner_streams.proofs.VoteEnds.{ends_push, end_read}
use Rattle.owner_streams.proofs.vote_ends.VoteEnds.count.Goals as goal

pub returns : goal.returns
returns c packets is =
    let s = c.args.sizes.now in
    let p = c.args.packet.now in
    let there : c.index_of-at.result ≡ p.owner * s.nodes + p.from =
    c.index_of-at.ensures.value ∙ (λ i. c.owner.ensures i * s.nodes + c.from.ensures i) in
    let inside = c.index_of-at.ensures.within in
    let len = c.requires.one_each in
    let within : c.index_of-at.result < length c.args.self.now.ends.items = omega arith in
    let read = end_read s c.args.self.now p.owner p.from c.index_of-at.result c.index.result.now there within
    c.index.ensures in
    ends_push s packets p c.args.self.now _ c.index_of-at.result c.max.result is c.requires.owner c.requires.from there
    refl (c.max.ensures ∙ (λ i. max (read i) (c.end_of.ensures.value i)))
    (subst (λ end. end ≤ place_count) c.end_of.ensures.value c.end_of.ensures.bound)
