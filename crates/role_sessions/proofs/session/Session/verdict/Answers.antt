use Rattle.std.proofs.Common.{◌≡◌, ◌==◌, false, length, sym, ◌∙◌, Some, None, arith}
use Rattle.std.proofs.lemmas.Grind.{common_steps}
use Rattle.role_sessions.specs.Decisions.{relations_of}
use Rattle.role_sessions.proofs.RoleLemmas.{found_passes, none_counts, some_counts}
use Rattle.role_sessions.proofs.session.Session.verdict.Goals as goal

pub returns-in-Some : goal.returns-in-Some
returns-in-Some c =
    let a = c.args in
    let relations = relations_of a.policy.now in
    let some : (length c.self.inside.active.items == 0) ≡ false = grind (arith, common_steps) in
    some_counts relations _ _ c.self.view_is a.user a.operation a.object c.if-self-user.false some
    (found_passes (relations.assigned a.self.now.user) (relations.granted a.operation a.object) a.self.now.active
    c.in-Some.role (sym c.granting.ensures ∙ c.in-Some.is))
    (Some c.in-Some.role) (sym c.in-Some.is ∙ c.granting.ensures)

pub returns-then-counts : goal.returns-then-counts
returns-then-counts c =
    let some : (length c.self.inside.active.items == 0) ≡ false = grind (arith, common_steps) in
    some_counts (relations_of c.args.policy.now) _ _ c.self.view_is c.args.user c.args.operation c.args.object
    c.if-self-user.false
    some (sym c.counts.ensures ∙ c.if-counts.true) None (sym c.in-None.is ∙ c.granting.ensures)

pub returns-else-counts : goal.returns-else-counts
returns-else-counts c =
    let some : (length c.self.inside.active.items == 0) ≡ false = grind (arith, common_steps) in
    none_counts (relations_of c.args.policy.now) _ _ c.self.view_is c.args.user c.args.operation c.args.object
    c.if-self-user.false
    some (sym c.counts.ensures ∙ c.if-counts.false)
