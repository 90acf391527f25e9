use Rattle.std.proofs.Common.{◌≡◌, ap, ◌∙◌, arith}
use Rattle.cluster_hosts.specs.Fingerprints.{roles_below}
use Rattle.cluster_hosts.proofs.fingerprint.roles_bytes.Goals as goal

pub returns : goal.returns
returns c =
    let all : c.loop-role.role ≡ 65536 = omega (arith, c.loop-role.auto.role-end, c.loop-role-test.false) in
    c.loop-role.invariant ∙ ap (roles_below c.args.roles.now) all
