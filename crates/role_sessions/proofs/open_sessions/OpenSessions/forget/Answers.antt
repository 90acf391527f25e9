use Rattle.role_sessions.proofs.TableLemmas.{forgotten, table-forget}
use Rattle.role_sessions.proofs.open_sessions.OpenSessions.forget.Goals as goal

pub invariant_of-self : goal.invariant_of-self
invariant_of-self c =
    table-forget c.self.inside.generation c.saturating_add-self-inside.result c.saturating_add-self-inside.ensures
    c.self.inside.sessions.entries
    c.self.invariant

pub returns-clause-kept : goal.returns-clause-kept
returns-clause-kept c =
    forgotten c.self.inside.generation c.saturating_add-self-inside.result c.saturating_add-self-inside.ensures
    c.self.inside.sessions.entries
    c.self.invariant
