use Rattle.std.proofs.Common.{Some, sym, ap, subst, ◌∙◌, rules}
use Rattle.std.specs.FinMap as map
use Rattle.role_sessions.specs.Decisions.{relations_of, verdict}
use Rattle.role_sessions.specs.Kept.{KeptAreRight}
use Rattle.role_sessions.specs.inside.Remembered.{RemembersRight, sessions_in, open_value, as_sessions}
use Rattle.role_sessions.proofs.OpenLemmas.{get-map_of, map_of-again}
use Rattle.role_sessions.proofs.TableLemmas.{AllOf-given, the_one, gives-sessions_in, here-sessions_in}
use Rattle.role_sessions.proofs.TableLemmas.{absent-sessions_in, table-written, kept_at, kept_from}
use Rattle.role_sessions.proofs.open_sessions.OpenSessions.check.Goals as goal

pub check-requires : goal.check-requires
check-requires c =
    let a = c.self.inside in
    kept_at (relations_of c.args.policy.now) a.generation a.sessions.entries
    (subst (λ v. KeptAreRight (relations_of c.args.policy.now) (as_sessions v)) (sym c.self.view_is) c.requires)
    c.args.id c.in-Some.found.now (sym c.in-Some.ensures.value)

pub returns-in_default-clause-verdict : goal.returns-in_default-clause-verdict
returns-in_default-clause-verdict c =
    ap (λ found. verdict (relations_of c.args.policy.now) found c.args.user c.args.operation c.args.object)
    (absent-sessions_in c.self.inside.sessions.entries c.args.id c.in_default.ensures.value
    ∙ sym (get-map_of (sessions_in c.self.inside.sessions.entries) c.args.id)
    ∙ ap (λ v. map.get v.sessions c.args.id) c.self.view_is)

pub returns-in_default-clause-sessions : goal.returns-in_default-clause-sessions
returns-in_default-clause-sessions c =
    ap (λ m. map.from_entries (sessions_in m.entries)) c.get_mut.follows.holds-at-none ∙ ap (λ v. v.sessions)
    c.self.view_is

pub returns-in_default-clause-kept : goal.returns-in_default-clause-kept
returns-in_default-clause-kept c =
    let a = c.self.inside in
    subst (λ v. KeptAreRight (relations_of c.args.policy.now) (as_sessions v))
    (sym c.self.view_is ∙ ap (λ m. open_value a.generation m.entries) (sym c.get_mut.follows.holds-at-none))
    c.requires

pub invariant_of-self-2 : goal.invariant_of-self-2
invariant_of-self-2 c =
    let a = c.self.inside in
    let h = c.get_mut.follows.holds c.check.new.self in
    table-written a.generation a.sessions.entries (c.get_mut.follows.lender c.check.new.self).entries c.args.id
    c.in-Some.found.now c.check.new.self c.self.invariant c.in-Some.ensures.value (h.3 (search rules)).0 h.2
    (c.check.ensures.past (c.self.invariant.past c.args.id c.in-Some.found.now (sym c.in-Some.ensures.value)))

pub returns-clause-verdict : goal.returns-clause-verdict
returns-clause-verdict c =
    c.check.ensures.verdict
    ∙ ap (λ found. verdict (relations_of c.args.policy.now) found c.args.user c.args.operation c.args.object)
    (here-sessions_in c.self.inside.sessions.entries c.args.id c.in-Some.found.now c.in-Some.ensures.value
    ∙ sym (get-map_of (sessions_in c.self.inside.sessions.entries) c.args.id)
    ∙ ap (λ v. map.get v.sessions c.args.id) c.self.view_is)

pub returns-clause-sessions : goal.returns-clause-sessions
returns-clause-sessions c =
    let a = c.self.inside in
    let h = c.get_mut.follows.holds c.check.new.self in
    let new = (c.get_mut.follows.lender c.check.new.self).entries in
    map_of-again (sessions_in a.sessions.entries) (sessions_in new) c.args.id c.check.new.self.session
    (ap Some c.check.ensures.session
    ∙ here-sessions_in a.sessions.entries c.args.id c.in-Some.found.now c.in-Some.ensures.value)
    (gives-sessions_in a.sessions.entries new c.args.id (Some c.check.new.self) (h.3 (search rules)).0)
    ∙ ap (λ v. v.sessions) c.self.view_is

pub returns-clause-kept : goal.returns-clause-kept
returns-clause-kept c =
    let a = c.self.inside in
    let h = c.get_mut.follows.holds c.check.new.self in
    let new = (c.get_mut.follows.lender c.check.new.self).entries in
    let relations = relations_of c.args.policy.now in
    kept_from relations a.generation new
    (AllOf-given (RemembersRight relations a.generation) a.sessions.entries new c.args.id (Some c.check.new.self)
    (h.3 (search rules)).0 (the_one (RemembersRight relations a.generation) c.check.new.self c.check.ensures.right)
    (kept_at relations a.generation a.sessions.entries
    (subst (λ v. KeptAreRight relations (as_sessions v)) (sym c.self.view_is) c.requires)))
