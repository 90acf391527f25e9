use Rattle.std.proofs.Common.{◌≡◌, not, true, rules, sym, subst}
use Rattle.std.specs.Prelude.{All}
use Rattle.std.specs.Ordering.{eq_by_cmp, nat_cmp}
use Rattle.std.proofs.lemmas.Fn.{filter_same}
use Rattle.std.proofs.lemmas.List.Elements.{recursion_from_All}
use Rattle.sorted_pairs.proofs.KeepLemmas.{filter_all}
use Rattle.sorted_pairs.proofs.sorted.take_away_second.Goals as goal

pub returns-then-not-may_have_second-clause-items : goal.returns-then-not-may_have_second-clause-items
returns-then-not-may_have_second-clause-items g c =
    let items = c.args.pairs.now.items in
    let none = subst (All (λ p. not (eq_by_cmp nat_cmp p.1 c.args.second) ≡ true)) c.deref.ensures.value
    (c.may_have_second.ensures c.if-not-may_have_second.true) in
    sym (filter_all (λ p. not (eq_by_cmp nat_cmp p.1 c.args.second)) items
    (recursion_from_All (λ p. not (eq_by_cmp nat_cmp p.1 c.args.second) ≡ true) items none))

pub returns-clause-items : goal.returns-clause-items
returns-clause-items g c = filter_same _ _ _ (λ x b f' k. search rules) _ _ c.retain.ensures.filtered
