-- What contracts see of the sessions: their state, and beside it the answers that are kept between checks.
use Rattle.std.specs.Prelude.{◌≡◌, ℕ, List, All, Some, IfSome}
use Rattle.std.specs.FinMap as map
use Rattle.role_sessions.specs.declared.verdict.Verdict.{Verdict}
use Rattle.role_sessions.specs.Sessions.{SessionState}
use Rattle.role_sessions.specs.Decisions.{Relations, verdict}

-- an answer that is kept: what the session's own user may do
pub record KeptAnswer : Type 0 where
  pub session : ℕ
  pub operation : ℕ
  pub object : ℕ
  pub answer : Verdict

pub record SessionsValue : Type 0 where
  pub state : SessionState
  pub kept : List KeptAnswer

-- the answer is the verdict under these relations, if the session is open
abbrev pub IsRight : Relations → SessionState → KeptAnswer → Type 0
IsRight relations state k =
    IfSome (map.get state.open_sessions k.session) (λ session.
    k.answer ≡ verdict relations (Some session) session.user k.operation k.object)

-- every answer that is kept is the verdict under these relations
abbrev pub KeptAreRight : Relations → SessionsValue → Type 0
KeptAreRight relations value = All (IsRight relations value.state) value.kept

-- under whatever relations the answers kept were right, they still are
abbrev pub KeepsRight : SessionsValue → SessionsValue → Type 0
KeepsRight old new = (relations : Relations) → KeptAreRight relations old → KeptAreRight relations new
