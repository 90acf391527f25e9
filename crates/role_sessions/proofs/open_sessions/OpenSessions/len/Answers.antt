use Rattle.std.proofs.Common.{ap, ◌∙◌}
use Rattle.std.specs.FinMap as map
use Rattle.role_sessions.proofs.TableLemmas.{table_length}
use Rattle.role_sessions.proofs.open_sessions.OpenSessions.len.Goals as goal

pub returns : goal.returns
returns c =
    c.len.ensures.len
    ∙ table_length c.self.inside.generation c.self.inside.sessions.entries c.self.invariant
    ∙ ap (λ v. map.len v.sessions) c.self.view_is
