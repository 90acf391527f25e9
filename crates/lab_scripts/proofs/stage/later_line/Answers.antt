use Rattle.std.proofs.Common.{◌≡◌, Some, option_map, refl, sym, ap, ◌∙◌}
use Rattle.bracha_instance.specs.Broadcast.{Take}
use Rattle.lab_scripts.specs.Grammar.{owner, take_of_line}
use Rattle.lab_scripts.specs.inside.Kept.{take_said}
use Rattle.lab_scripts.proofs.StageLemmas.{SendsAreFrom-push, later_line-bad, later_line-good}
use Rattle.lab_scripts.proofs.stage.later_line.Goals as goal

pub returns-in_default : goal.returns-in_default
returns-in_default c takes are at sends =
    later_line-bad _ takes _ _ (sym c.take_of_line.ensures.value ∙ ap (option_map take_said) c.in_default.is)

pub returns : goal.returns
returns c takes are at sends =
    let t : Take = take_said c.in-Some.said in
    let read : take_of_line c.args.sizes.now c.args.line.now ≡ Some t = sym c.take_of_line.ensures.value
    ∙ ap (option_map take_said) c.in-Some.is in
    let all = SendsAreFrom-push c.args.sizes.now takes t sends c.in-Some.ensures.from in
    later_line-good _ takes _ _ t _ read c.in-Some.ensures.from are sends (c.in_ok-taken.ensures.state takes at)
    (c.in_ok-text.ensures
    ∙ rw (
      c.in_ok-taken.ensures.effect takes owner at all,
      c.in_ok-taken.ensures.broadcast takes at,
      c.in_ok-taken.ensures.delivered takes at,
    ) refl)
