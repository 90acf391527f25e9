use Rattle.std.proofs.Common.{◌≡◌, ◌∙◌, [], ◌∷◌, ◌++◌, sym, ap, subst, arith}
use Rattle.std.specs.Prelude.{is_some}
use Rattle.bracha_instance.specs.Broadcast.{Take, vote}
use Rattle.bracha_instance.specs.Taking.{SendsAreFrom, has_voted}
use Rattle.owner_streams.specs.Places.{take_of}
use Rattle.owner_streams.specs.inside.Slots.{state_in, voted_in}
use Rattle.owner_streams.specs.inside.Kept.{held}
use Rattle.owner_streams.proofs.Stepping.{none_voted}
use Rattle.owner_streams.proofs.owner_stream.OwnerStream.voted.Goals as goal

pub returns-then-place-len-clause-seen : goal.returns-then-place-len-clause-seen
returns-then-place-len-clause-seen c =
    let at : c.place-place.result ≡ c.args.packet.now.place = omega arith in
    c.voted.ensures.seen
    ∙ (λ i. has_voted c.record_at.result.now (c.kind-kind.ensures i) (c.from-from.ensures i))
    ∙ ap (λ slot. voted_in slot c.args.packet.now.kind c.args.packet.now.from)
    (sym c.record_at.ensures ∙ ap (held c.args.self.now) at)

pub returns-then-place-len-clause-vote : goal.returns-then-place-len-clause-vote
returns-then-place-len-clause-vote c s takes owner is from =
    let at : c.place-place.result ≡ c.args.packet.now.place = omega arith in
    let command = c.args.packet.now.command in
    let t : Take = record { kind = c.kind-kind.result; from = c.from-from.result; command = command } in
    let same : t ≡ take_of c.args.packet.now =
    λ i. record { kind = c.kind-kind.ensures i; from = c.from-from.ensures i; command = command } in
    let OneSender : Take → Type 0 = λ u. SendsAreFrom owner (takes ++ u ∷ []) in
    c.voted.ensures.vote s takes owner command
    (ap (state_in s) (sym c.record_at.ensures ∙ ap (held c.args.self.now) at) ∙ is)
    (subst OneSender (sym same) from)
    ∙ ap (λ (u : Take). is_some (vote u.kind u.from takes)) same

pub returns-in-Some-clause-vote : goal.returns-in-Some-clause-vote
returns-in-Some-clause-vote c s takes owner is from =
    let at : c.place-place.result ≡ c.args.packet.now.place = omega arith in
    let command = c.args.packet.now.command in
    let t : Take = record { kind = c.kind-kind.result; from = c.from-from.result; command = command } in
    let same : t ≡ take_of c.args.packet.now =
    λ i. record { kind = c.kind-kind.ensures i; from = c.from-from.ensures i; command = command } in
    let OneSender : Take → Type 0 = λ u. SendsAreFrom owner (takes ++ u ∷ []) in
    c.voted-in-Some.ensures.vote s takes owner command
    (ap (state_in s) (c.in-Some.ensures ∙ ap (held c.args.self.now) at) ∙ is)
    (subst OneSender (sym same) from)
    ∙ ap (λ (u : Take). is_some (vote u.kind u.from takes)) same

pub returns-in-None-clause-vote : goal.returns-in-None-clause-vote
returns-in-None-clause-vote c s takes owner is from =
    let at : c.place-place.result ≡ c.args.packet.now.place = omega arith in
    none_voted s takes c.args.packet.now.kind c.args.packet.now.from
    (ap (state_in s) (c.in-None.ensures ∙ ap (held c.args.self.now) at) ∙ is)
