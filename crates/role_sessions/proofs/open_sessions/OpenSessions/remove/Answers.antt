use Rattle.std.proofs.Common.{sym, ap, subst, ◌∙◌, ◌+◌, length, None, is_some, if◌then◌else◌}
use Rattle.std.specs.FinMap as map
use Rattle.role_sessions.specs.Kept.{KeepsRight}
use Rattle.role_sessions.specs.inside.Remembered.{sessions_in, open_value, as_sessions}
use Rattle.role_sessions.proofs.OpenLemmas.{map_of-remove}
use Rattle.role_sessions.proofs.TableLemmas.{gives-sessions_in, table-remove, keeps_given}
use Rattle.role_sessions.proofs.open_sessions.OpenSessions.remove.Goals as goal

pub invariant_of-self : goal.invariant_of-self
invariant_of-self c =
    let e = c.swap_remove-removed.ensures in
    let a = c.self.inside in
    table-remove a.generation a.sessions.entries c.swap_remove-removed.new.self.entries c.args.id c.self.invariant
    e.updates.0
    (ap (λ o. length c.swap_remove-removed.new.self.entries + (if is_some o then 1 else 0)) (sym e.value) ∙ e.len)

pub returns-clause-sessions : goal.returns-clause-sessions
returns-clause-sessions c =
    let a = c.self.inside in
    map_of-remove (sessions_in a.sessions.entries) (sessions_in c.swap_remove-removed.new.self.entries) c.args.id
    (gives-sessions_in a.sessions.entries c.swap_remove-removed.new.self.entries c.args.id None
    c.swap_remove-removed.ensures.updates.0)
    ∙ ap (λ v. map.remove v.sessions c.args.id) c.self.view_is

pub returns-clause-kept : goal.returns-clause-kept
returns-clause-kept c =
    let a = c.self.inside in
    subst (λ v. KeepsRight (as_sessions v) (as_sessions (open_value a.generation
    c.swap_remove-removed.new.self.entries)))
    c.self.view_is
    (keeps_given a.generation a.sessions.entries c.swap_remove-removed.new.self.entries c.args.id None
    c.swap_remove-removed.ensures.updates.0 (λ o e. absurd (cc)) c.self.invariant)
