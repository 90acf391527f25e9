-- A run whose nodes keep to different limits is a cluster run under a limit that none of theirs is above, and under one
-- that no history reaches.
use Rattle.std.proofs.Common.{◌≡◌, ℕ, suc, ◌<◌, ◌≤◌, Bool, true, false, List, length, Result, Ok, Err}
use Rattle.std.proofs.Common.{refl, ap, ◌∙◌, arith}
use Rattle.std.specs.Prelude.{nat_le, take}
use Rattle.std.proofs.lemmas.Bool.Decides.{nat_tests}
use Rattle.std.proofs.lemmas.List.{length-take-le}
use Rattle.std.proofs.lemmas.Option.{slice_get_within}
use Rattle.quorum_sizes.specs.NodeSets.{Nodes}
use Rattle.bracha_instance.specs.declared.instance.Effect.{Effect}
use Rattle.bracha_instance.specs.declared.instance.Effect.TheVariants as effect
use Rattle.role_node.specs.Answers.{outlook_with_room, unless_full, answered, reply_to, is_recorded, IsLegal}
use Rattle.role_node.specs.Configs.{ConfigValue}
use Rattle.role_node.specs.declared.event.Event.{Event}
use Rattle.role_node.specs.declared.event.Reply.{Reply}
use Rattle.role_node.specs.declared.faults.NodeFault.{NodeFault}
use Rattle.byz_world.specs.Limits.{with_limit, IsRunUnderLimits, LimitsMayDiffer}
use Rattle.byz_world.specs.Runs.{Run, history_of, IsClusterRun}
use Rattle.byz_world.proofs.Pushing.{history-length}

-- what is recorded is, where there is more room
recorded_still : (full fuller : Bool) (o : Result Effect NodeFault) (r : Reply) → (full ≡ false → fuller ≡ false) →
    is_recorded (answered (unless_full full o) r) ≡ true → is_recorded (answered (unless_full fuller o) r) ≡ true
recorded_still full fuller (Ok effect.Idle) r room e = e
recorded_still true fuller (Ok effect.Counted) r room e = absurd cc
recorded_still false fuller (Ok effect.Counted) r room e =
    ap (λ b. is_recorded (answered (unless_full b (Ok effect.Counted)) r)) (room refl) ∙ e
recorded_still full fuller (Err f) r room e = e

pub spare : (limit count : ℕ) → count < limit → nat_le limit count ≡ false
spare limit count h = grind (arith, nat_tests)

room_still : (limit most count : ℕ) → limit ≤ most → nat_le limit count ≡ false → nat_le most count ≡ false
room_still limit most count h e = grind (arith, nat_tests)

legal_still : (config : ConfigValue) (limit most me : ℕ) (history : List Event) → limit ≤ most →
    IsLegal (with_limit config limit) me history → IsLegal (with_limit config most) me history
legal_still config limit most me history h legal k event at =
    let past : List Event = take k history in
    recorded_still (nat_le limit (length past)) (nat_le most (length past))
    (outlook_with_room config.roles me past event) (reply_to config.roles me past event)
    (room_still limit most (length past) h) (legal k event at)

pub limits_may_differ : LimitsMayDiffer
limits_may_differ config liars run limits most h is = record {
  sizes = is.sizes;
  few = is.few;
  correct = is.correct;
  legal = λ node. legal_still config (limits node) most node (history_of node run) (h node) (is.legal node);
  sound = is.sound;
  links = is.links;
}

roomy_still : (config : ConfigValue) (limit most me : ℕ) (history : List Event) → length history < most →
    IsLegal (with_limit config limit) me history → IsLegal (with_limit config most) me history
roomy_still config limit most me history room legal k event at =
    let past : List Event = take k history in
    let early : k < length history = slice_get_within history k event at in
    let short : length past ≡ k = length-take-le k history (omega (arith, early)) in
    recorded_still (nat_le limit (length past)) (nat_le most (length past))
    (outlook_with_room config.roles me past event) (reply_to config.roles me past event)
    (λ _. spare most (length past) (omega (arith, short, early, room))) (legal k event at)

pub under_limits : (config : ConfigValue) (liars : Nodes) (run : Run) (limits : ℕ → ℕ) →
    IsRunUnderLimits config limits liars run → IsClusterRun (with_limit config (suc (length run))) liars run
under_limits config liars run limits is = record {
  sizes = is.sizes;
  few = is.few;
  correct = is.correct;
  legal = λ node. roomy_still config (limits node) (suc (length run)) node (history_of node run)
      (omega (arith, history-length node run)) (is.legal node);
  sound = is.sound;
  links = is.links;
}
