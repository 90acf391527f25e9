use Rattle.std.proofs.Common.{◌≡◌, sym, subst, rules, tests}
use Rattle.std.specs.List.{list_all}
use Rattle.std.specs.Prelude.{IsTrue, ◌↔◌}
use Rattle.std.proofs.lemmas.Iterator.{YieldsList-from_slice}
use Rattle.std.proofs.lemmas.Iterator.Search.{all_from_yields_List}
use Rattle.byz_world.specs.inside.Kept.{has_taken_all}
use Rattle.byz_world.specs.Resting.{IsAtRest}
use Rattle.byz_world.specs.Worlds.{WorldValue}
use Rattle.byz_world.proofs.Settling.{rest_is}
use Rattle.byz_world.proofs.world.World.at_rest.Goals as goal

pub returns-clause-value : goal.returns-clause-value
returns-clause-value c =
    let a = c.self.inside in
    let all : c.all.result ≡ list_all (has_taken_all a.sent.items) a.members.items =
    all_from_yields_List (has_taken_all a.sent.items)
    _ _ c.all.result c.all.ensures.ran (YieldsList-from_slice a.members.items cc)
    (λ x b q k. search (rules, tests)) in
    let P : WorldValue → Type 0 = λ w. IsTrue (list_all (has_taken_all a.sent.items) a.members.items)
    ↔ IsAtRest w.config w.liars w.run in
    let is : P c.args.self.now = subst P c.self.view_is (rest_is a.config a.liars a.members.items a.order.items
    a.sent.items c.self.invariant.world) in
    subst (λ b. IsTrue b ↔ IsAtRest c.args.self.now.config c.args.self.now.liars c.args.self.now.run) (sym all) is
