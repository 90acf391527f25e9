-- The promise of the product, for every run of a cluster.
use Rattle.std.specs.Prelude.{◌≡◌, ◌≢◌, ℕ, min, [], take, find, IsSomeAnd, Option, Some, None}
use Rattle.quorum_sizes.specs.NodeSets.{Nodes}
use Rattle.owner_streams.specs.Laws.{IsPrefixOf}
use Rattle.role_sessions.specs.Sessions.{Session}
use Rattle.role_sessions.specs.Decisions.{Relations, SessionMay, counted_roles}
use Rattle.role_sessions.specs.declared.verdict.Rule.{Rule}
use Rattle.role_sessions.specs.declared.verdict.Rule.TheVariants.{NoSession, NotYours, NoActiveRole}
use Rattle.role_sessions.specs.declared.verdict.Rule.TheVariants.{NoneAssigned, NotPermitted}
use Rattle.role_sessions.specs.declared.verdict.Verdict.{Verdict}
use Rattle.role_sessions.specs.declared.verdict.Verdict.TheVariants.{Allow, Deny}
use Rattle.role_node.specs.Access.{relations_at, session_at}
use Rattle.role_node.specs.Configs.{ConfigValue}
use Rattle.role_node.specs.Histories.{issued}
use Rattle.byz_world.specs.Checks.{decision_due}
use Rattle.byz_world.specs.Runs.{Run, history_of, stream_of, reach_of, IsCorrect, IsClusterRun}

-- the rule is the first that denies the access
abbrev pub IsFirstRule : Relations → Option Session → ℕ → ℕ → ℕ → Rule → Type 0
IsFirstRule relations found user operation object NoSession = found ≡ None
IsFirstRule relations found user operation object NotYours = IsSomeAnd found (λ session. session.user ≢ user)
IsFirstRule relations found user operation object NoActiveRole =
    IsSomeAnd found (λ session. (session.user ≡ user) × (session.active ≡ []))
IsFirstRule relations found user operation object NoneAssigned =
    IsSomeAnd found (λ session.
    (session.user ≡ user) × (session.active ≢ []) × (counted_roles relations session ≡ []))
IsFirstRule relations found user operation object NotPermitted =
    IsSomeAnd found (λ session.
    (session.user ≡ user) × (counted_roles relations session ≢ []) × ¬ (SessionMay relations session operation object))

-- CheckAccess: allowed is exactly what some counted role of the user's session may, in the first such role; and a
-- denial names the first rule that holds.
pub record IsRightDecision (relations : Relations) (found : Option Session) (user operation object : ℕ)
    (v : Verdict) : Type 0 where
  pub allows : IsSomeAnd found (λ session. (session.user ≡ user) × SessionMay relations session operation object) →
      (role : ℕ) × (v ≡ Allow role)
  pub in_a_role : (role : ℕ) → v ≡ Allow role → IsSomeAnd found (λ session.
      (session.user ≡ user)
      × (find (relations.granted operation object) (counted_roles relations session) ≡ Some role))
  pub denies : (rule : Rule) → v ≡ Deny rule → IsFirstRule relations found user operation object rule

-- A correct node answers each access: it allows exactly what Core RBAC allows over the streams that it delivered, else
-- names the first rule that denies it; two correct nodes' streams of an owner agree as far as both reach; and a correct
-- owner's stream is a prefix of what it issued.
pub record KeepsThePromise (config : ConfigValue) (liars : Nodes) (run : Run) : Type 0 where
  pub decisions : (node session user operation object : ℕ) → IsCorrect config liars node →
      IsSomeAnd (decision_due config liars run node session user operation object)
      (IsRightDecision (relations_at config.roles (history_of node run)) (session_at (history_of node run) session)
      user operation object)
  pub streams_agree : (i j owner : ℕ) →
      IsCorrect config liars i → IsCorrect config liars j →
      take (min (reach_of config run i owner) (reach_of config run j owner)) (stream_of config run i owner)
      ≡ take (min (reach_of config run i owner) (reach_of config run j owner)) (stream_of config run j owner)
  pub nothing_forged : (i owner : ℕ) →
      IsCorrect config liars i → IsCorrect config liars owner →
      IsPrefixOf (stream_of config run i owner) (issued (history_of owner run))

-- Every run of a cluster keeps the promise, whatever its liars and the network do.
abbrev pub Headline : Type 0
Headline =
    (config : ConfigValue) (liars : Nodes) (run : Run) → IsClusterRun config liars run →
    KeepsThePromise config liars run
