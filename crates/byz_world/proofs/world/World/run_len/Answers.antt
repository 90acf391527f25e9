use Rattle.std.proofs.Common.{◌≡◌, length, arith}
use Rattle.byz_world.specs.Worlds.{WorldValue}
use Rattle.std.proofs.Common.{subst}
use Rattle.byz_world.proofs.BlockRuns.{run_length}
use Rattle.byz_world.proofs.world.World.run_len.Goals as goal

pub returns-clause-value : goal.returns-clause-value
returns-clause-value c =
    let a = c.self.inside in
    let P : WorldValue → Type 0 = λ w. length w.run ≡ length a.order.items in
    let same : P c.args.self.now =
    subst P c.self.view_is (run_length a.config a.liars a.members.items a.order.items a.sent.items
    c.self.invariant.world) in
    let long : c.len.result ≡ length a.order.items = omega (arith, c.len.ensures, a.order.ok.0) in
    omega (arith, same, long)
