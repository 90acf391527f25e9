-- The open sessions as a list.
use Rattle.std.specs.Prelude.{ℕ, List, map, filter, take, nat_le}
use Rattle.std.specs.FinMap as finite
use Rattle.std.specs.Ordering.{nat_cmp}
use Rattle.role_sessions.specs.Sessions.{Session}

-- the ids in ascending order, each beside its session's user
abbrev pub ids_and_users : finite.FinMap nat_cmp Session → List (ℕ × ℕ)
ids_and_users sessions = map (λ e. (e.0, e.1.user)) (finite.entries sessions)

-- of those with this id or a greater one, the first so many
abbrev pub listed_from : finite.FinMap nat_cmp Session → ℕ → ℕ → List (ℕ × ℕ)
listed_from sessions from most = take most (filter (λ p. nat_le from p.0) (ids_and_users sessions))
