use Rattle.std.proofs.Common.{◌≡◌, true, ap, sym, ◌∙◌}
use Rattle.byz_world.specs.Checks.{decision_due}
use Rattle.byz_world.specs.inside.Kept.{member_in}
use Rattle.byz_world.specs.Worlds.{is_correct_in}
use Rattle.byz_world.specs.inside.Fields.{world_value}
use Rattle.byz_world.proofs.Telling.{decision_is}
use Rattle.byz_world.proofs.Recording.{correct_member}
use Rattle.byz_world.proofs.world.World.check.Goals as goal

pub returns-clause-decision : goal.returns-clause-decision
returns-clause-decision c =
    let a = c.self.inside in
    let w = world_value a in
    let correct : is_correct_in w c.args.name ≡ true =
    ap (λ v. is_correct_in v c.args.name) c.self.view_is ∙ sym c.is_correct.ensures.value ∙ c.if-not-is_correct.false in
    let member = correct_member a.config a.liars a.members.items a.order.items a.sent.items c.self.invariant.world
    c.args.name correct in
    let there = ap (λ ms. member_in ms c.args.name) c.deref_mut.ensures.value ∙ member in
    decision_is w c.args.name c.args.session c.args.user c.args.operation c.args.object c.check_at.result correct
    (c.check_at.ensures.verdict _ there)
    ∙ ap (λ v. decision_due v.config v.liars v.run c.args.name c.args.session c.args.user c.args.operation
    c.args.object)
    c.self.view_is
