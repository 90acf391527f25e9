use Rattle.std.proofs.Common.{◌≡◌, ◌*◌, ◌≤◌, length, ap, sym, ◌∙◌, subst, arith}
use Rattle.role_node.specs.Configs.{most_events}
use Rattle.byz_world.specs.inside.Kept.{run_in}
use Rattle.byz_world.specs.Pools.{messages, pool}
use Rattle.byz_world.specs.Worlds.{WorldValue}
use Rattle.byz_world.proofs.Numbering.{pool-length}
use Rattle.byz_world.proofs.Telling.{nodes_are, few_messages}
use Rattle.byz_world.proofs.world.World.sent_len.Goals as goal

-- what the fields keep of the pool
record Fits (w : WorldValue) : Type 0 where
  within : length (pool w.config w.run) ≤ w.config.limit
  limit : w.config.limit ≤ most_events

fits : (c : goal.After-from) → Fits c.args.self.now
fits c =
    let is = c.self.invariant.world in
    subst Fits c.self.view_is (record { within = is.within; limit = is.limit })

counted : (c : goal.After-from)
    → c.len.result * c.from.result ≡ length (pool c.args.self.now.config c.args.self.now.run)
counted c =
    let P : WorldValue → Type 0 = λ w. c.self.inside.sent.items ≡ messages w.config w.run in
    let kept : P c.args.self.now = subst P c.self.view_is c.self.invariant.world.messages in
    let long : c.len.result ≡ length c.self.inside.sent.items = omega (arith, c.len.ensures, c.self.inside.sent.ok.0) in
    let nodes : c.from.result ≡ c.args.self.now.config.roles.sizes.nodes =
    c.from.ensures ∙ c.n.ensures.value ∙ ap (λ s. s.nodes) c.sizes.ensures.value in
    (λ i. (long ∙ ap length kept) i * nodes i) ∙ sym (pool-length c.args.self.now.config c.args.self.now.run)

pub overflow_cast-result : goal.overflow_cast-result
overflow_cast-result c =
    let a = c.self.inside in
    let run = run_in a.members.items a.order.items in
    let long : c.len.result ≡ length a.sent.items = omega (arith, c.len.ensures, a.sent.ok.0) in
    let few = few_messages (length (messages a.config run)) a.config.roles.sizes.nodes a.config.limit
    (nodes_are a.config a.liars run c.self.invariant.world.cluster)
    (omega (arith, pool-length a.config run, c.self.invariant.world.within)) in
    omega (arith, long, ap length c.self.invariant.world.messages, few, c.self.invariant.world.limit)

pub overflow_mul-result : goal.overflow_mul-result
overflow_mul-result c = let f = fits c in omega (arith, counted c, f.within, f.limit)

pub returns-clause-value : goal.returns-clause-value
returns-clause-value c = counted c

pub returns-clause-limit : goal.returns-clause-limit
returns-clause-limit c = let f = fits c in omega (arith, counted c, f.within)
