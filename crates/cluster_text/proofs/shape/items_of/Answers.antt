use Rattle.std.proofs.Common.{◌≡◌, true, false, sym, ap, ◌∙◌, rules, tests}
use Rattle.std.specs.Prelude.{is_some}
use Rattle.std.specs.List.{list_all}
use Rattle.std.proofs.lemmas.List.{take_all}
use Rattle.std.proofs.lemmas.List.Folds.{list_all_more, list_all_at}
use Rattle.serde_json.specs.View.{view}
use Rattle.cluster_text.proofs.ShapeLemmas.{list_member-good, list_member-bad}
use Rattle.cluster_text.proofs.shape.items_of.Goals as goal

pub returns-then-is_none-clause-err : goal.returns-then-is_none-clause-err
returns-then-is_none-clause-err g c =
    let x = c.item-item.result in
    let read = c.requires.1.1.1 _ _ c.read.ensures in
    let none : is_some c.read.result ≡ false = search (rules, tests) in
    list_member-bad _ g.shape _ _ c.in_ok-items.ensures.ok
    (list_all_at _ _ c.loop-item.item-index x c.loop-item-test.true
    (ap (λ v. is_some (g.shape (view v))) (sym c.item-item.is) ∙ ap is_some (sym read) ∙ none))

pub loop-item-preserved : goal.loop-item-preserved
loop-item-preserved g c =
    let x = c.item-item.result in
    let read = c.requires.1.1.1 _ _ c.read.ensures in
    let some : is_some c.read.result ≡ true = search (rules, tests) in
    list_all_more _ _ c.loop-item.item-index x c.loop-item-test.true
    ∙ rw (c.loop-item.invariant, sym c.item-item.is, sym read) some

pub returns-clause-ok : goal.returns-clause-ok
returns-clause-ok g c = list_member-good _ g.shape _ _ c.in_ok-items.ensures.ok
    (sym (ap (list_all (λ v. is_some (g.shape (view v)))) (take_all c.loop-item.item-index _ c.loop-item-test.false))
    ∙ c.loop-item.invariant)
