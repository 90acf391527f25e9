-- The answers that one session remembers.
use Rattle.std.proofs.Common.{◌≡◌, ℕ, ◌<◌, ◌==◌, true, List, All, Contains}
use Rattle.std.proofs.Common.{Some, slice_set, refl, sym, ap, ◌∙◌, eqb-true, arith}
use Rattle.std.proofs.lemmas.List.Elements.{All-same, All-set, All-contains}
use Rattle.role_sessions.specs.declared.answers.Remembered.{Remembered}
use Rattle.role_sessions.specs.declared.verdict.Verdict.{Verdict}
use Rattle.role_sessions.specs.Sessions.{Session}
use Rattle.role_sessions.specs.Decisions.{Relations, verdict}
use Rattle.role_sessions.specs.inside.Remembered.{last_generation, IsRightFor, IsPast}

-- an answer to the session's own user
module _ (relations : Relations) (session : Session) (generation user operation object : ℕ) (answer : Verdict)
    (yours : (session.user == user) ≡ true) where
  theirs : verdict relations (Some session) session.user operation object
      ≡ verdict relations (Some session) user operation object
  theirs = ap (λ u. verdict relations (Some session) u operation object) (eqb-true session.user user yours)

  pub found_right : (places : List Remembered)
      → All (IsRightFor relations generation session) places
      → Contains places (record { generation = generation; object = object; operation = operation; answer = answer })
      → answer ≡ verdict relations (Some session) user operation object
  found_right places right there =
      All-contains (IsRightFor relations generation session) places (record {
        generation = generation;
        object = object;
        operation = operation;
        answer = answer;
      }) right there refl ∙ theirs

  pub remembered_right : (places put : List Remembered)
      → All (IsRightFor relations generation session) places
      → (place : ℕ) × (put ≡ slice_set places place (record {
        generation = generation;
        object = object;
        operation = operation;
        answer = answer;
      }))
      → answer ≡ verdict relations (Some session) user operation object
      → All (IsRightFor relations generation session) put
  remembered_right places put right is due =
      let added : Remembered = record {
        generation = generation;
        object = object;
        operation = operation;
        answer = answer;
      } in
      All-same (IsRightFor relations generation session) put (slice_set places is.0 added) is.1
      (All-set (IsRightFor relations generation session) places is.0 added (λ _. due ∙ sym theirs) right)

pub remembered_past : (generation operation object : ℕ) (answer : Verdict) (places put : List Remembered)
    → generation < last_generation
    → All (IsPast generation) places
    → (place : ℕ) × (put ≡ slice_set places place (record {
      generation = generation;
      object = object;
      operation = operation;
      answer = answer;
    }))
    → All (IsPast generation) put
remembered_past generation operation object answer places put below past is =
    let added : Remembered = record {
      generation = generation;
      object = object;
      operation = operation;
      answer = answer;
    } in
    let fits : IsPast generation added = (omega arith, below) in
    All-same (IsPast generation) put (slice_set places is.0 added) is.1
    (All-set (IsPast generation) places is.0 added fits past)
