use Rattle.std.proofs.Common.{◌≡◌, ℕ, Bool, map, filter, take, Ok, ap, ◌∙◌, rules, tests}
use Rattle.std.specs.Prelude.{nat_le}
use Rattle.std.proofs.lemmas.Iterator.{YieldsList-from_map, items_from_collect}
use Rattle.std.proofs.lemmas.Iterator.Consumers.{YieldsList-at, YieldsList-from_filter, YieldsList-from_rest}
use Rattle.role_sessions.specs.Listed.{listed_from}
use Rattle.role_sessions.proofs.ListedLemmas.{gathered_is_listed}
use Rattle.role_sessions.proofs.open_sessions.OpenSessions.listed_from.Goals as goal

pub returns : goal.returns
returns c =
    let es = c.self.inside.sessions.entries in
    let from = c.args.from in
    let passes : ℕ × ℕ → Bool = λ p. nat_le from p.0 in
    let gathered : c.in_ok-listed.listed.items ≡ filter passes (map (λ e. (e.0, e.1.session.user)) es) =
    items_from_collect {E = ℕ} (Ok c.in_ok-listed.listed) c.in_ok-listed.ensures.ran
    (YieldsList-from_filter _ passes
    (YieldsList-at c.filter.ensures.source
    (YieldsList-from_map _ (λ e. (e.0, e.1.session.user))
    (YieldsList-at c.map.ensures.source (YieldsList-from_rest es c.iter.ensures.rest))
    c.map.ensures.closure (λ x r q k. search rules)))
    c.filter.ensures.closure (λ x r q k. search (rules, tests))) in
    c.truncate.ensures.items
    ∙ ap (take c.args.most)
    (gathered_is_listed es passes c.in_ok-listed.listed.items c.sort_unstable.new.self.items c.iter.ensures.unique
    gathered c.sort_unstable.ensures.permutation c.sort_unstable.ensures.sorted)
    ∙ ap (λ v. listed_from v.sessions from c.args.most) c.self.view_is
