use Rattle.std.proofs.Common.{ap, rules}
use Rattle.role_sessions.specs.inside.Changes.{without_role}
use Rattle.role_sessions.proofs.TableLemmas.{changed-written, changed-absent, table-written, nothing_is_past}
use Rattle.role_sessions.proofs.open_sessions.OpenSessions.drop_role.Goals as goal

pub returns-in_default : goal.returns-in_default
returns-in_default c =
    let changed = changed-absent c.self.inside.generation c.args.self.now c.self.inside.sessions.entries
    c.get_mut.follows.lender-at-none.entries c.args.id (without_role c.args.role) c.self.view_is
    c.in_default.ensures.value (ap (λ m. m.entries) c.get_mut.follows.holds-at-none) in
    record { sessions = changed.sessions; kept = changed.kept }

pub invariant_of-self-2 : goal.invariant_of-self-2
invariant_of-self-2 c =
    let a = c.self.inside in
    let h = c.get_mut.follows.holds c.drop_role.new.self in
    table-written a.generation a.sessions.entries (c.get_mut.follows.lender c.drop_role.new.self).entries c.args.id
    c.in-Some.found.now c.drop_role.new.self c.self.invariant c.in-Some.ensures.value (h.3 (search rules)).0 h.2
    (nothing_is_past a.generation c.drop_role.new.self c.drop_role.ensures.nothing)

pub returns : goal.returns
returns c =
    let h = c.get_mut.follows.holds c.drop_role.new.self in
    let changed = changed-written c.self.inside.generation c.args.self.now c.self.inside.sessions.entries
    (c.get_mut.follows.lender c.drop_role.new.self).entries c.args.id (without_role c.args.role) c.self.view_is
    c.self.invariant c.in-Some.found.now c.drop_role.new.self c.in-Some.ensures.value (h.3 (search rules)).0
    c.drop_role.ensures.nothing c.drop_role.ensures.session in
    record { sessions = changed.sessions; kept = changed.kept }
