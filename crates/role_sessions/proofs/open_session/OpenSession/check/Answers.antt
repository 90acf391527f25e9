use Rattle.std.proofs.Common.{sym, ◌∙◌, arith}
use Rattle.role_sessions.specs.Decisions.{relations_of}
use Rattle.role_sessions.proofs.RememberLemmas.{found_right, remembered_right, remembered_past}
use Rattle.role_sessions.proofs.open_session.OpenSession.check.Goals as goal

pub returns-in-Some-clause-verdict : goal.returns-in-Some-clause-verdict
returns-in-Some-clause-verdict c =
    let a = c.args in
    found_right (relations_of a.policy.now) a.self.now.session a.generation a.user a.operation a.object
    c.in-Some.answer
    (sym c.is_of.ensures ∙ c.if-not-is_of.false) a.self.now.answers.places c.requires c.in-Some.ensures

pub returns-clause-right : goal.returns-clause-right
returns-clause-right c =
    let a = c.args in
    remembered_right (relations_of a.policy.now) a.self.now.session a.generation a.user a.operation a.object
    c.verdict-answer.result
    (sym c.is_of.ensures ∙ c.if-not-is_of.false) a.self.now.answers.places c.remember.new.self.places c.requires
    c.remember.ensures c.verdict-answer.ensures

pub returns-clause-past : goal.returns-clause-past
returns-clause-past c = λ past.
    let a = c.args in
    remembered_past a.generation a.operation a.object c.verdict-answer.result a.self.now.answers.places
    c.remember.new.self.places (omega arith) past c.remember.ensures
