use Rattle.std.proofs.Common.{◌≡◌, ◌+◌, ◌<◌, [], ◌∷◌, ◌++◌, Ok, sym, ap, ◌∙◌, subst, arith}
use Rattle.std.specs.Prelude.{IsSome, is_some, if◌then◌else◌, Some, None}
use Rattle.bracha_instance.specs.NewTakes.{taken_for}
use Rattle.bracha_instance.specs.declared.instance.Effect.TheVariants.{Counted}
use Rattle.owner_streams.specs.inside.Kept.{reach_in, held}
use Rattle.owner_streams.specs.Places.{window, take_of, takes_at}
use Rattle.owner_streams.specs.inside.Slots.{state_in, delivered_in, IsTaken}
use Rattle.owner_streams.proofs.Reaching.{reach_of_run, reach_within}
use Rattle.owner_streams.proofs.Keeping.{states_push, still_run, still_ends, same_states, at_each, still_kept}
use Rattle.owner_streams.proofs.Stepping.{due_within, step_is, look_within}
use Rattle.owner_streams.proofs.Stepping.{effect_is}
use Rattle.owner_streams.proofs.Looking.{look_counted}
use Rattle.owner_streams.proofs.owner_stream.OwnerStream.take_new.Goals as goal

pub reach-from-requires : goal.reach-from-requires
reach-from-requires c = reach_within c.args.sizes.now c.args.self.now c.requires.kept

pub take_at-requires-clause-window : goal.take_at-requires-clause-window
take_at-requires-clause-window c = look_within c.args.self.now c.args.packet.now _ (sym c.requires.counts)

pub take_at-requires-clause-new : goal.take_at-requires-clause-new
take_at-requires-clause-new c = look_counted c.args.self.now c.args.packet.now c.requires.counts

-- Memory is wanting.

pub returns-in_err-caused-clause-kept : goal.returns-in_err-caused-clause-kept
returns-in_err-caused-clause-kept c =
    let was = held c.args.self.now in
    let now = held c.take_at.new.self in
    let same = at_each was now c.args.packet.now.place c.take_at.ensures.others c.in_err-caused.ensures.err in
    record {
      states = same_states c.args.sizes.now was now same c.requires.kept.states;
      run = λ place h.
          subst (λ slot. IsSome (delivered_in slot)) (sym (same place))
          (c.requires.kept.run place (omega (arith, c.take_at.ensures.reach)));
      run_ends =
          ap (λ n. delivered_in (now n)) c.take_at.ensures.reach
          ∙ ap delivered_in (same (reach_in c.args.self.now))
          ∙ c.requires.kept.run_ends;
      in_range = λ place past. same place ∙ c.requires.kept.in_range place past;
    }

-- A packet that counts.

pub advance_if-requires-clause-run : goal.advance_if-requires-clause-run
advance_if-requires-clause-run c place h =
    still_run c.args.sizes.now (held c.args.self.now) (held c.take_at.new.self) c.args.packet.now
    (reach_in c.args.self.now) c.take_at.ensures.others c.in_ok-caused.ensures.state c.requires.kept.states
    c.requires.kept.run place (omega (arith, c.take_at.ensures.reach))

pub advance_if-requires-clause-run_ends : goal.advance_if-requires-clause-run_ends
advance_if-requires-clause-run_ends c nothing =
    ap (λ n. delivered_in (held c.take_at.new.self n)) c.take_at.ensures.reach
    ∙ still_ends c.args.sizes.now (held c.args.self.now) (held c.take_at.new.self) c.args.packet.now
    (taken_for c.args.packet.now.command c.in_ok-caused.caused) (reach_in c.args.self.now) c.take_at.ensures.others
    c.in_ok-caused.ensures.state c.in_ok-caused.ensures.caused c.requires.kept.states c.requires.kept.run_ends
    (ap (λ b. is_some (if b then Some c.args.packet.now.command else None)) nothing)

pub returns-clause-kept : goal.returns-clause-kept
returns-clause-kept c =
    still_kept c.args.sizes.now c.args.self.now c.take_at.new.self c.advance_if.new.self c.args.packet.now
    c.requires.kept c.take_at.ensures.in_range c.take_at.ensures.others c.in_ok-caused.ensures.state
    c.advance_if.ensures.same c.advance_if.ensures.run c.advance_if.ensures.run_ends

pub reach-requires : goal.reach-requires
reach-requires c =
    reach_within c.args.sizes.now c.advance_if.new.self
    (still_kept c.args.sizes.now c.args.self.now c.take_at.new.self c.advance_if.new.self c.args.packet.now
    c.requires.kept c.take_at.ensures.in_range c.take_at.ensures.others c.in_ok-caused.ensures.state
    c.advance_if.ensures.same c.advance_if.ensures.run c.advance_if.ensures.run_ends)

pub returns-clause-state : goal.returns-clause-state
returns-clause-state c packets is =
    let mid = held c.take_at.new.self in
    record {
      at_each_place = λ place.
          ap (state_in c.args.sizes.now) (c.advance_if.ensures.same.at_each_place place)
          ∙ states_push c.args.sizes.now (held c.args.self.now) mid packets c.args.packet.now c.take_at.ensures.others
          c.in_ok-caused.ensures.state is.at_each_place place;
    }

pub returns-clause-due : goal.returns-clause-due
returns-clause-due c packets is sent =
    let s = c.args.sizes.now in
    let p = c.args.packet.now in
    let inside : p.place < reach_in c.args.self.now + window =
    look_within c.args.self.now p _ (sym c.requires.counts) in
    let before =
    reach_of_run s p.owner (held c.args.self.now) packets (reach_in c.args.self.now) is.at_each_place
    c.requires.kept.run c.requires.kept.run_ends
    ∙ sym c.reach-from.ensures in
    let states = returns-clause-state c packets is in
    let after =
    reach_of_run s p.owner (held c.advance_if.new.self) (packets ++ p ∷ []) (reach_in c.advance_if.new.self)
    states.at_each_place c.advance_if.ensures.run c.advance_if.ensures.run_ends
    ∙ sym c.reach.ensures in
    let due = due_within s packets p c.reach-from.result before (omega arith) in
    let taken : c.taken-taken.result ≡ taken_for p.command c.in_ok-caused.caused =
    c.taken-taken.ensures ∙ ap (λ command. taken_for command c.in_ok-caused.caused) c.command.ensures in
    due
    ∙ ap Ok (step_is s packets p c.taken-taken.result c.reach-from.result c.reach.result
    (effect_is s packets p Counted due (sym (c.requires.due packets is sent)))
    (subst (IsTaken s (takes_at p.owner p.place packets) (take_of p)) (sym taken)
    (c.in_ok-caused.ensures.caused (takes_at p.owner p.place packets) (is.at_each_place p.place)))
    before after)
