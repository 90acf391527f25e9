use Rattle.std.proofs.Common.{◌≡◌, ◌==◌, false, length, refl, sym, ◌∙◌, Some, None, arith}
use Rattle.std.proofs.lemmas.Grind.{common_steps}
use Rattle.role_sessions.specs.Sessions.{Session}
use Rattle.role_sessions.specs.Decisions.{relations_of}
use Rattle.role_sessions.proofs.RoleLemmas.{found_passes, none_counts, some_counts}
use Rattle.role_sessions.proofs.sessionless.decide.Goals as goal

pub returns-in-Some : goal.returns-in-Some
returns-in-Some c =
    let a = c.args in
    let relations = relations_of a.policy.now in
    let session : Session = record { user = a.user; active = a.roles.now } in
    let some : (length a.roles.now == 0) ≡ false = grind (arith, common_steps) in
    some_counts relations session session refl a.user a.operation a.object refl some
    (found_passes (relations.assigned a.user) (relations.granted a.operation a.object) a.roles.now c.in-Some.role
    (sym c.first_granting.ensures ∙ c.in-Some.is))
    (Some c.in-Some.role) (sym c.in-Some.is ∙ c.first_granting.ensures)

pub returns-then-has_one_of : goal.returns-then-has_one_of
returns-then-has_one_of c =
    let a = c.args in
    let session : Session = record { user = a.user; active = a.roles.now } in
    let some : (length a.roles.now == 0) ≡ false = grind (arith, common_steps) in
    some_counts (relations_of a.policy.now) session session refl a.user a.operation a.object refl some
    (sym c.has_one_of.ensures ∙ c.if-has_one_of.true) None (sym c.in-None.is ∙ c.first_granting.ensures)

pub returns-else-has_one_of : goal.returns-else-has_one_of
returns-else-has_one_of c =
    let a = c.args in
    let session : Session = record { user = a.user; active = a.roles.now } in
    let some : (length a.roles.now == 0) ≡ false = grind (arith, common_steps) in
    none_counts (relations_of a.policy.now) session session refl a.user a.operation a.object refl some
    (sym c.has_one_of.ensures ∙ c.if-has_one_of.false)
