use Rattle.std.proofs.Common.{ap, sym, ◌∙◌}
use Rattle.byz_world.specs.Worlds.{is_correct_in}
use Rattle.byz_world.specs.declared.faults.WorldFault.TheVariants as fault
use Rattle.byz_world.proofs.Arriving.{absorbed_stays, full_refused, comes}
use Rattle.byz_world.proofs.Stepping.{refused_after}
use Rattle.byz_world.proofs.world.World.pass_on.Goals as goal

pub returns-then-not-is_correct-clause-after : goal.returns-then-not-is_correct-clause-after
returns-then-not-is_correct-clause-after c step at =
    absorbed_stays c.args.self.now step c.args.packet at
    (ap (is_correct_in c.args.self.now) (sym c.to-to.ensures)
    ∙ sym c.is_correct.ensures.value ∙ c.if-not-is_correct.true)

pub returns-then-is_full-clause-after : goal.returns-then-is_full-clause-after
returns-then-is_full-clause-after c step at =
    refused_after c.args.self.now step fault.PoolFull
    (full_refused c.args.self.now step c.args.packet at
    (ap (is_correct_in c.args.self.now) (sym c.to-to.ensures)
    ∙ sym c.is_correct.ensures.value ∙ c.if-not-is_correct.false)
    (sym c.is_full.ensures ∙ c.if-is_full.true)) (λ e. absurd cc)

pub returns-in_default-fault : goal.returns-in_default-fault
returns-in_default-fault c =
    let w = c.args.self.now in
    record {
      after = λ step at. c.in-Err.ensures.err ∙ refused_after w step c.in-Err.fault
          (c.in-Err.ensures.due step
          (comes w step c.args.packet c.to-to.result c.to-to.ensures at
          (ap (is_correct_in w) (sym c.to-to.ensures) ∙ sym c.is_correct.ensures.value ∙ c.if-not-is_correct.false)
          (sym c.is_full.ensures ∙ c.if-is_full.false)))
          c.in_default-fault.not-Memory;
      err = tt;
      memory = λ step at. tt;
      run = c.in-Err.ensures.run;
    }
