use Rattle.std.proofs.Common.{◌≡◌}
use Rattle.cluster_hosts.specs.Fingerprints.{roles_below}
use Rattle.cluster_hosts.proofs.fingerprint.roles_bytes.Given as goal

abbrev pub invariant-loop-role : goal.invariant-loop-role
invariant-loop-role l = l.bytes.items ≡ roles_below l.roles l.role
