use Rattle.std.proofs.Common.{◌≡◌, None, inr, refl, sym, subst, ◌∙◌, true≢false}
use Rattle.cluster_hosts.specs.Givens.{HasReservedRole, reserved_in}
use Rattle.cluster_hosts.specs.Hosts.{AreHostsIn, hosts_member}
use Rattle.cluster_hosts.proofs.GivenLemmas.{due_Ok, not_long}
use Rattle.cluster_hosts.proofs.HostLemmas.{hosts_count}
use Rattle.cluster_hosts.proofs.given.given_in.Goals as goal

pub returns-then-has_reserved_role-clause-given : goal.returns-then-has_reserved_role-clause-given
returns-then-has_reserved_role-clause-given c =
    let there = c.has_reserved_role.ensures.0 c.if-has_reserved_role.true in inr (
      refl,
      sym c.in-Ok-None.ensures.value ∙ c.in-Ok-None.field-0-is,
      (
        c.in-Ok.setup,
        due_Ok _ _ c.in-Ok.ensures.due,
        subst HasReservedRole c.roles.ensures.value there,
      ),
    )

pub returns-in-Ok-Some-hosts_in-clause-hosts : goal.returns-in-Ok-Some-hosts_in-clause-hosts
returns-in-Ok-Some-hosts_in-clause-hosts c =
    let said = rw c.in-Ok-Some-hosts_in.field-0-is at c.in-Ok-Some-hosts_in.ensures in
    let count = hosts_count (hosts_member c.args.text.now) c.n.result c.in-Ok-Some-hosts_in.hosts said in
    let nodes : c.n.result ≡ c.in-Ok.setup.config.roles.sizes.nodes = cc in
    count ∙ nodes

pub returns-in-Ok-None-hosts_in-clause-given : goal.returns-in-Ok-None-hosts_in-clause-given
returns-in-Ok-None-hosts_in-clause-given c =
    let none : reserved_in c.args.text.now ≡ None = sym c.in-Ok-None.ensures.value ∙ c.in-Ok-None.field-0-is in
    let said = rw c.in-Ok-None-hosts_in.field-0-is at c.in-Ok-None-hosts_in.ensures in
    let nodes : c.n.result ≡ c.in-Ok.setup.config.roles.sizes.nodes = cc in (
      none,
      (
        c.in-Ok.setup,
        due_Ok _ _ c.in-Ok.ensures.due,
        λ role. true≢false (sym (c.has_reserved_role.ensures.1 (subst HasReservedRole (sym c.roles.ensures.value) role))
            ∙ c.if-has_reserved_role.false),
        λ hosts are. said hosts (subst (λ n. AreHostsIn c.args.text.now n hosts) (sym nodes) are),
      ),
    )

pub returns-in-Err-hosts_in-clause-given : goal.returns-in-Err-hosts_in-clause-given
returns-in-Err-hosts_in-clause-given c = not_long _ c.in-Ok.setup (due_Ok _ _ c.in-Ok.ensures.due)
