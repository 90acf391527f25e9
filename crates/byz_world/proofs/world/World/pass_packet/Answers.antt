use Rattle.std.proofs.Common.{◌≡◌, sym, ap, ◌∙◌, subst}
use Rattle.std.specs.Prelude.{OnOk, OnErr, IsTrue}
use Rattle.byz_world.specs.Steps.{given, after_step, adds}
use Rattle.byz_world.specs.declared.step.Step.TheVariants.{Give}
use Rattle.byz_world.specs.declared.faults.WorldFault.TheVariants as fault
use Rattle.byz_world.proofs.Arriving.{pooled_may, none_given, stands_in}
use Rattle.byz_world.proofs.Stepping.{refused_after}
use Rattle.byz_world.proofs.world.World.pass_packet.Goals as goal

pub pass_on-requires : goal.pass_on-requires
pass_on-requires c =
    let v = c.seek.new.self in
    let p = c.in-Some.packet in
    pooled_may v c.args.number p c.in-Some.ensures.run
    (stands_in v c.args.self.now c.args.number p c.in-Some.ensures.same c.in-Some.ensures.value)

pub returns-in-None-clause-after : goal.returns-in-None-clause-after
returns-in-None-clause-after c =
    let w = c.args.self.now in
    c.in-None.ensures.same
    ∙ refused_after w (Give c.args.number) fault.NoSuchPacket (none_given w c.args.number (sym c.in-None.ensures.value))
    (λ e. absurd cc)

pub returns-in-Some : goal.returns-in-Some
returns-in-Some c =
    let w = c.args.self.now in
    let v = c.seek.new.self in
    let step = Give c.args.number in
    let same : v ≡ w = c.in-Some.ensures.same in
    let at = ap (given v) (stands_in v w c.args.number c.in-Some.packet same c.in-Some.ensures.value) in
    record {
      after = subst (λ u. OnOk c.pass_on.result (c.pass_on.new.self ≡ after_step u step)) same
          (c.pass_on.ensures.after step at);
      err = subst (λ u. OnErr c.pass_on.result (c.pass_on.new.self ≡ u)) same c.pass_on.ensures.err;
      memory = subst (λ u. OnErr c.pass_on.result (IsTrue (adds u step))) same (c.pass_on.ensures.memory step at);
      run = c.pass_on.ensures.run;
    }
