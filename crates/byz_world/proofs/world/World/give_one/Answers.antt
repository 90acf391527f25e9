use Rattle.std.proofs.Common.{Result, Ok, Err, sym, ◌∙◌, subst}
use Rattle.std.specs.Prelude.{IsTrue, OnErr}
use Rattle.byz_world.specs.Settled.{IsProlonged}
use Rattle.byz_world.specs.Steps.{adds}
use Rattle.byz_world.specs.Worlds.{WorldValue}
use Rattle.byz_world.specs.declared.step.Step.TheVariants.{Give}
use Rattle.byz_world.proofs.BlockWorld.{one_is_given}
use Rattle.byz_world.proofs.Passes.{give_prolongs, prolonged_none}
use Rattle.byz_world.proofs.world.World.give_one.Goals as goal

pub returns-clause-after : goal.returns-clause-after
returns-clause-after c = c.in_ok-pass_packet.ensures.after ∙ one_is_given c.args.self.now c.args.packet

pub returns-clause-prolonged : goal.returns-clause-prolonged
returns-clause-prolonged c =
    subst (IsProlonged c.args.self.now) (sym c.in_ok-pass_packet.ensures.after)
    (give_prolongs c.args.self.now c.args.packet)

pub returns-in_err-pass_packet-clause-prolonged : goal.returns-in_err-pass_packet-clause-prolonged
returns-in_err-pass_packet-clause-prolonged c =
    subst (IsProlonged c.args.self.now) (sym c.in_err-pass_packet.ensures.err) (prolonged_none c.args.self.now)

pub returns-in_err-pass_packet-clause-memory : goal.returns-in_err-pass_packet-clause-memory
returns-in_err-pass_packet-clause-memory c =
    let K : WorldValue → Type 0 = λ w. IsTrue (adds w (Give c.args.packet)) in
    on_err c.from_residual.result (
      c.args.packet,
      subst K (sym c.in_err-pass_packet.ensures.err) c.in_err-pass_packet.ensures.memory,
    )
  where
    on_err : {A E : Type 0} (r : Result A E) → {P : Type 0} → P → OnErr r P
    on_err (Ok x) p = tt
    on_err (Err x) p = p
