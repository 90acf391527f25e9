use Rattle.std.proofs.Common.{◌≡◌, ℕ, ◌+◌, ◌<◌, None}
use Rattle.std.specs.FinMap as map
use Rattle.cluster_hosts.proofs.reserved.has_reserved_role.Given as goal

abbrev pub invariant-loop-number : goal.invariant-loop-number
invariant-loop-number l = (k : ℕ) → k < l.number → map.get l.roles.owners (65408 + k) ≡ None
