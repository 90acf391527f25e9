use Rattle.std.proofs.Common.{◌∙◌, ◌+◌, ◌<◌, ◌≤◌, Err, sym, ap, cond, arith}
use Rattle.bracha_instance.specs.declared.instance.Effect.TheVariants.{Idle, Counted}
use Rattle.owner_streams.specs.Places.{window, takes_at}
use Rattle.owner_streams.specs.Steps.{effect_due}
use Rattle.owner_streams.specs.inside.Kept.{reach_in}
use Rattle.owner_streams.specs.declared.steps.StreamFault.TheVariants.{Beyond}
use Rattle.owner_streams.proofs.Reaching.{reach_is_due}
use Rattle.owner_streams.proofs.Stepping.{due_beyond, due_within, look_is}
use Rattle.owner_streams.proofs.Senders.{one_sender}
use Rattle.owner_streams.proofs.owner_stream.OwnerStream.look.Goals as goal

pub returns-then-place-end-clause-due : goal.returns-then-place-end-clause-due
returns-then-place-end-clause-due c s packets kept is sent =
    let e = ap (λ m. m.place) c.message-place.ensures.value in
    let beyond : reach_in c.args.self.now + window ≤ c.args.packet.now.place = omega arith in
    (λ i. Err (Beyond (e i) (c.reach-end.ensures i + 64)))
    ∙ sym
    (ap effect_due (due_beyond s packets c.args.packet.now (reach_in c.args.self.now)
    (sym (reach_is_due s c.args.packet.now.owner c.args.self.now packets kept is)) beyond))

pub returns-then-voted-clause-due : goal.returns-then-voted-clause-due
returns-then-voted-clause-due c s packets kept is sent =
    let e = ap (λ m. m.place) c.message-place.ensures.value in
    let within : c.args.packet.now.place < reach_in c.args.self.now + window = omega arith in
    look_is s packets c.args.packet.now Idle c.voted.result (ap (λ b. cond b Idle Counted) c.if-voted.true)
    (c.voted.ensures.vote s (takes_at c.args.packet.now.owner c.args.packet.now.place packets)
    c.args.packet.now.owner
    (is.at_each_place c.args.packet.now.place)
    (one_sender packets c.args.packet.now sent c.message-place.ensures.kept.0))
    (due_within s packets c.args.packet.now (reach_in c.args.self.now)
    (sym (reach_is_due s c.args.packet.now.owner c.args.self.now packets kept is)) within)

pub returns-else-voted-clause-due : goal.returns-else-voted-clause-due
returns-else-voted-clause-due c s packets kept is sent =
    let e = ap (λ m. m.place) c.message-place.ensures.value in
    let within : c.args.packet.now.place < reach_in c.args.self.now + window = omega arith in
    look_is s packets c.args.packet.now Counted c.voted.result (ap (λ b. cond b Idle Counted) c.if-voted.false)
    (c.voted.ensures.vote s (takes_at c.args.packet.now.owner c.args.packet.now.place packets)
    c.args.packet.now.owner
    (is.at_each_place c.args.packet.now.place)
    (one_sender packets c.args.packet.now sent c.message-place.ensures.kept.0))
    (due_within s packets c.args.packet.now (reach_in c.args.self.now)
    (sym (reach_is_due s c.args.packet.now.owner c.args.self.now packets kept is)) within)
