use Rattle.std.proofs.Common.{sym, ap, ◌∙◌}
use Rattle.std.specs.FinMap as map
use Rattle.role_sessions.specs.inside.Remembered.{sessions_in}
use Rattle.role_sessions.proofs.OpenLemmas.{get-map_of}
use Rattle.role_sessions.proofs.TableLemmas.{here-sessions_in, absent-sessions_in}
use Rattle.role_sessions.proofs.open_sessions.OpenSessions.get.Goals as goal

pub returns-in-Some : goal.returns-in-Some
returns-in-Some c =
    here-sessions_in c.self.inside.sessions.entries c.args.id c.in-Some.found.now c.in-Some.ensures.value
    ∙ sym (get-map_of (sessions_in c.self.inside.sessions.entries) c.args.id)
    ∙ ap (λ v. map.get v.sessions c.args.id) c.self.view_is

pub returns-in-None : goal.returns-in-None
returns-in-None c =
    absent-sessions_in c.self.inside.sessions.entries c.args.id c.in-None.ensures.value
    ∙ sym (get-map_of (sessions_in c.self.inside.sessions.entries) c.args.id)
    ∙ ap (λ v. map.get v.sessions c.args.id) c.self.view_is
