use Rattle.std.proofs.Common.{◌≡◌, ap, subst, sym, ◌∙◌, rules}
use Rattle.role_sessions.specs.inside.Changes.{with_role}
use Rattle.role_sessions.specs.inside.Remembered.{open_value, IsTable}
use Rattle.role_sessions.proofs.TableLemmas.{changed-written, changed-absent, table-written, nothing_is_past}
use Rattle.role_sessions.proofs.TableLemmas.{keeps_same, written_back, on_err}
use Rattle.role_sessions.proofs.open_sessions.OpenSessions.activate.Goals as goal

pub returns-in_default : goal.returns-in_default
returns-in_default c =
    let changed = changed-absent c.self.inside.generation c.args.self.now c.self.inside.sessions.entries
    c.get_mut.follows.lender-at-none.entries c.args.id (with_role c.args.role) c.self.view_is
    c.in_default.ensures.value (ap (λ m. m.entries) c.get_mut.follows.holds-at-none) in
    record { ok = changed.sessions; err = tt; kept = changed.kept }

pub invariant_of-self-2 : goal.invariant_of-self-2
invariant_of-self-2 c =
    let a = c.self.inside in
    let h = c.get_mut.follows.holds c.activate.new.self in
    table-written a.generation a.sessions.entries (c.get_mut.follows.lender c.activate.new.self).entries c.args.id
    c.in-Some.found.now c.activate.new.self c.self.invariant c.in-Some.ensures.value (h.3 (search rules)).0 h.2
    (nothing_is_past a.generation c.activate.new.self c.in_ok-activate.ensures.nothing)

pub returns : goal.returns
returns c =
    let h = c.get_mut.follows.holds c.activate.new.self in
    let changed = changed-written c.self.inside.generation c.args.self.now c.self.inside.sessions.entries
    (c.get_mut.follows.lender c.activate.new.self).entries c.args.id (with_role c.args.role) c.self.view_is
    c.self.invariant c.in-Some.found.now c.activate.new.self c.in-Some.ensures.value (h.3 (search rules)).0
    c.in_ok-activate.ensures.nothing c.in_ok-activate.ensures.session in
    record { ok = changed.sessions; err = tt; kept = changed.kept }

same_entries : (c : goal.After-from_residual)
    → (c.get_mut.follows.lender c.activate.new.self).entries ≡ c.self.inside.sessions.entries
same_entries c =
    let h = c.get_mut.follows.holds c.activate.new.self in
    written_back c.self.inside.sessions.entries (c.get_mut.follows.lender c.activate.new.self).entries c.args.id
    c.in-Some.found.now c.activate.new.self c.in-Some.ensures.value h.0 c.in_err-activate.ensures.err

pub invariant_of-self-in_err-activate : goal.invariant_of-self-in_err-activate
invariant_of-self-in_err-activate c =
    let h = c.get_mut.follows.holds c.activate.new.self in
    subst (IsTable c.self.inside.generation)
    (sym (written_back c.self.inside.sessions.entries (c.get_mut.follows.lender c.activate.new.self).entries c.args.id
    c.in-Some.found.now c.activate.new.self c.in-Some.ensures.value h.0 c.in_err-activate.ensures.err))
    c.self.invariant

pub returns-in_err-activate-clause-err : goal.returns-in_err-activate-clause-err
returns-in_err-activate-clause-err c =
    on_err c.from_residual.result (ap (open_value c.self.inside.generation) (same_entries c) ∙ c.self.view_is)

pub returns-in_err-activate-clause-kept : goal.returns-in_err-activate-clause-kept
returns-in_err-activate-clause-kept c =
    keeps_same c.args.self.now _ (ap (open_value c.self.inside.generation) (same_entries c) ∙ c.self.view_is)
