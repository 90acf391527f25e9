use Rattle.std.proofs.Common.{◌≡◌, ap, sym, ◌∙◌, rules, tests}
use Rattle.std.specs.List.{list_all}
use Rattle.std.proofs.lemmas.Iterator.{YieldsList-from_slice}
use Rattle.std.proofs.lemmas.Iterator.Search.{all_from_yields_List}
use Rattle.byz_world.specs.inside.Kept.{has_taken, has_taken_all}
use Rattle.byz_world.proofs.Settling.{others_are_all}
use Rattle.byz_world.proofs.members.has_taken_all.Goals as goal

pub returns-then-has_taken : goal.returns-then-has_taken
returns-then-has_taken c =
    let sent = c.args.sent.now in
    let others = c.in-Some-split_last.others.now in
    let all : c.all.result ≡ list_all (has_taken c.in-Some.node) others =
    all_from_yields_List (has_taken c.in-Some.node)
    _ _ c.all.result c.all.ensures.ran (YieldsList-from_slice others cc)
    (λ x b q k. search (rules, tests)) in
    all
    ∙ others_are_all (has_taken c.in-Some.node) sent others c.in-Some-split_last.last.now
    c.in-Some-split_last.ensures.cases.0 (sym c.has_taken.ensures ∙ c.if-has_taken.true)
    ∙ ap (has_taken_all sent) (sym c.in-Some.is)
