use Rattle.std.proofs.Common.{ap, subst, ◌∙◌, ◌+◌, length, Some, is_some, if◌then◌else◌}
use Rattle.std.specs.FinMap as map
use Rattle.role_sessions.specs.Kept.{KeepsRight}
use Rattle.role_sessions.specs.inside.Remembered.{RemembersNothing, sessions_in, open_value, as_sessions}
use Rattle.role_sessions.proofs.OpenLemmas.{map_of, map_of-insert}
use Rattle.role_sessions.proofs.TableLemmas.{the_one, gives-sessions_in, table-insert}
use Rattle.role_sessions.proofs.TableLemmas.{keeps_given, keeps_same}
use Rattle.role_sessions.proofs.open_sessions.OpenSessions.insert.Goals as goal

pub returns-in_err-insert-clause-kept : goal.returns-in_err-insert-clause-kept
returns-in_err-insert-clause-kept c =
    keeps_same c.args.self.now _ (ap (open_value c.self.inside.generation) c.in_err-insert.ensures.err ∙ c.self.view_is)

pub invariant_of-self-2 : goal.invariant_of-self-2
invariant_of-self-2 c =
    let e = c.in_ok-insert.ensures in
    let a = c.self.inside in
    table-insert a.generation a.sessions.entries c.insert.new.self.entries c.args.id c.new.result c.self.invariant
    c.new.ensures.nothing e.updates.0
    (e.len ∙ ap (λ o. length a.sessions.entries + (if is_some o then 0 else 1)) e.old)

pub returns-clause-ok : goal.returns-clause-ok
returns-clause-ok c =
    let a = c.self.inside in
    map_of-insert (sessions_in a.sessions.entries) (sessions_in c.insert.new.self.entries) c.args.id
    c.new.result.session
    (gives-sessions_in a.sessions.entries c.insert.new.self.entries c.args.id (Some c.new.result)
    c.in_ok-insert.ensures.updates.0)
    ∙ ap (map.insert (map_of (sessions_in a.sessions.entries)) c.args.id) c.new.ensures.session
    ∙ ap (λ v. map.insert v.sessions c.args.id c.args.session) c.self.view_is

pub returns-clause-kept : goal.returns-clause-kept
returns-clause-kept c =
    let a = c.self.inside in
    subst (λ v. KeepsRight (as_sessions v) (as_sessions (open_value a.generation c.insert.new.self.entries)))
    c.self.view_is
    (keeps_given a.generation a.sessions.entries c.insert.new.self.entries c.args.id (Some c.new.result)
    c.in_ok-insert.ensures.updates.0 (the_one RemembersNothing c.new.result c.new.ensures.nothing) c.self.invariant)
