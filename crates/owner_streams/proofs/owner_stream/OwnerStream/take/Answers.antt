use Rattle.std.proofs.Common.{◌≡◌, ◌+◌, ◌<◌, [], ◌∷◌, ◌++◌, Ok, sym, ap, ◌∙◌, arith, refl}
use Rattle.bracha_instance.specs.declared.instance.Effect.TheVariants.{Idle}
use Rattle.owner_streams.specs.inside.Kept.{reach_in, held, look_in}
use Rattle.owner_streams.specs.Places.{window, take_of}
use Rattle.owner_streams.proofs.Reaching.{reach_of_run, reach_within}
use Rattle.owner_streams.proofs.Keeping.{states_push}
use Rattle.owner_streams.proofs.Stepping.{due_within, idle_step_is, look_within}
use Rattle.owner_streams.proofs.Stepping.{look_idle, voted_changes_nothing, effect_is, counts}
use Rattle.owner_streams.proofs.owner_stream.OwnerStream.take.Goals as goal

pub reach-from-requires : goal.reach-from-requires
reach-from-requires c = reach_within c.args.sizes.now c.args.self.now c.requires.kept

-- A packet that is idle.

pub returns-in-Idle-clause-due : goal.returns-in-Idle-clause-due
returns-in-Idle-clause-due c packets is sent =
    let seen : Ok Idle ≡ look_in c.args.self.now c.args.packet.now =
    ap Ok (sym c.in-Idle.is) ∙ c.in_ok-look.ensures.seen in
    let s = c.args.sizes.now in
    let p = c.args.packet.now in
    let places = held c.args.self.now in
    let stays = voted_changes_nothing s (places p.place) (take_of p) (look_idle c.args.self.now p seen) in
    let now = states_push s places places packets p (λ _ _. refl) stays is.at_each_place in
    let before =
    reach_of_run s p.owner places packets (reach_in c.args.self.now) is.at_each_place c.requires.kept.run
    c.requires.kept.run_ends
    ∙ sym c.reach-from.ensures in
    let after =
    reach_of_run s p.owner places (packets ++ p ∷ []) (reach_in c.args.self.now) now c.requires.kept.run
    c.requires.kept.run_ends
    ∙ sym c.reach-from.ensures in
    let inside : p.place < reach_in c.args.self.now + window = look_within c.args.self.now p Idle seen in
    let due = due_within s packets p c.reach-from.result before (omega arith) in
    due
    ∙ ap Ok (idle_step_is s packets p c.reach-from.result
    (effect_is s packets p Idle due (ap Ok (sym c.in-Idle.is)
    ∙ c.in_ok-look.ensures.due s packets c.requires.kept is sent))
    (sym (now p.place) ∙ is.at_each_place p.place) before after)

pub returns-in-Idle-clause-state : goal.returns-in-Idle-clause-state
returns-in-Idle-clause-state c packets is =
    let seen : Ok Idle ≡ look_in c.args.self.now c.args.packet.now =
    ap Ok (sym c.in-Idle.is) ∙ c.in_ok-look.ensures.seen in
    let places = held c.args.self.now in
    record {
      at_each_place = states_push c.args.sizes.now places places packets c.args.packet.now (λ _ _. refl)
          (voted_changes_nothing c.args.sizes.now (places c.args.packet.now.place) (take_of c.args.packet.now)
          (look_idle c.args.self.now c.args.packet.now seen))
          is.at_each_place;
    }

-- A packet that counts.

pub take_new-requires-clause-counts : goal.take_new-requires-clause-counts
take_new-requires-clause-counts c =
    sym c.in_ok-look.ensures.seen ∙ ap Ok (counts c.in_ok-look.field-0 c.in_default.not-Idle)

pub take_new-requires-clause-due : goal.take_new-requires-clause-due
take_new-requires-clause-due c packets is sent =
    sym (c.in_ok-look.ensures.due c.args.sizes.now packets c.requires.kept is sent)
    ∙ ap Ok (counts c.in_ok-look.field-0 c.in_default.not-Idle)
