-- What the calls do to the open sessions. Only private functions and proofs cite this.
use Rattle.std.specs.Prelude.{ℕ, ◌==◌, not, [], ◌∷◌, ◌++◌, filter}
use Rattle.std.specs.FinMap as map
use Rattle.std.specs.Option.{option_map_or}
use Rattle.std.specs.Ordering.{nat_cmp}
use Rattle.role_sessions.specs.Sessions.{Session}

-- with the role as the last active one
abbrev pub with_role : ℕ → Session → Session
with_role role session = record { user = session.user; active = session.active ++ role ∷ [] }

-- with the role no longer among the active ones
abbrev pub without_role : ℕ → Session → Session
without_role role session = record {
  user = session.user;
  active = filter (λ active. not (active == role)) session.active;
}

-- with the session of this id changed, if it is there
abbrev pub changed_at : map.FinMap nat_cmp Session → ℕ → (Session → Session) → map.FinMap nat_cmp Session
changed_at sessions id change =
    option_map_or (λ session. map.insert sessions id (change session)) (map.get sessions id) sessions
