use Rattle.std.proofs.Common.{sym, ap, subst, ◌∙◌}
use Rattle.role_sessions.specs.inside.Remembered.{sessions_in, kept_by, IsTable}
use Rattle.role_sessions.proofs.OpenLemmas.{map_of}
use Rattle.role_sessions.proofs.TableLemmas.{table_of_none, kept_by-none}
use Rattle.role_sessions.proofs.open_sessions.OpenSessions.new.Goals as goal

pub invariant_of-result : goal.invariant_of-result
invariant_of-result c = subst (IsTable 1) (sym c.new.ensures.empty) table_of_none

pub returns-clause-sessions : goal.returns-clause-sessions
returns-clause-sessions c = ap (λ es. map_of (sessions_in es)) c.new.ensures.empty

pub returns-clause-kept : goal.returns-clause-kept
returns-clause-kept c = ap (kept_by 1) c.new.ensures.empty ∙ kept_by-none 1
