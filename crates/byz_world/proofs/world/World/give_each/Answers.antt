use Rattle.std.proofs.Common.{◌≡◌, nat_lt, length, Result, Ok, Err, ap, sym, ◌∙◌, subst}
use Rattle.std.specs.Prelude.{IsTrue, OnErr}
use Rattle.byz_world.specs.Settled.{IsProlonged, after_pass}
use Rattle.byz_world.specs.Steps.{adds}
use Rattle.byz_world.specs.Worlds.{WorldValue}
use Rattle.byz_world.specs.declared.step.Step.TheVariants.{Give}
use Rattle.byz_world.proofs.Passes.{given_first, given_next, given_prolongs, given_all, rest_adds, rest_pass}
use Rattle.byz_world.proofs.world.World.give_each.Goals as goal

pub loop-packet-init : goal.loop-packet-init
loop-packet-init c = given_first c.args.self.now _ c.run_len-before.ensures.run

pub loop-packet-preserved : goal.loop-packet-preserved
loop-packet-preserved c =
    given_next c.pass.new.self c.loop-packet.invariant c.loop-packet-test.true c.in_ok-pass.ensures.after
    c.in_ok-pass.ensures.run

pub returns-in_err-pass-clause-prolonged : goal.returns-in_err-pass-clause-prolonged
returns-in_err-pass-clause-prolonged c =
    subst (IsProlonged c.args.self.now) (sym c.in_err-pass.ensures.err) (given_prolongs c.loop-packet.invariant)

pub returns-in_err-pass-clause-memory : goal.returns-in_err-pass-clause-memory
returns-in_err-pass-clause-memory c =
    let K : WorldValue → Type 0 = λ w. IsTrue (adds w (Give c.loop-packet.packet)) in
    on_err c.from_residual.result (
      c.loop-packet.packet,
      subst K (sym c.in_err-pass.ensures.err) c.in_err-pass.ensures.memory,
    )
  where
    on_err : {A E : Type 0} (r : Result A E) → {P : Type 0} → P → OnErr r P
    on_err (Ok x) p = tt
    on_err (Err x) p = p

pub returns-clause-prolonged : goal.returns-clause-prolonged
returns-clause-prolonged c = given_prolongs c.loop-packet.invariant

pub returns-clause-adds : goal.returns-clause-adds
returns-clause-adds c =
    let first : WorldValue = c.args.self.now in
    let is : c.loop-packet.self ≡ after_pass first =
    given_all c.loop-packet.invariant c.loop-packet-test.false c.sent_len-packet-end.ensures.value in
    let before : c.run_len-before.result ≡ length first.run = c.run_len-before.ensures.value in
    let after : c.run_len.result ≡ length (after_pass first).run =
    c.run_len.ensures.value ∙ ap (λ (w : WorldValue). length w.run) is in
    λ i. nat_lt (before i) (after i)

pub returns-clause-after : goal.returns-clause-after
returns-clause-after c =
    given_all c.loop-packet.invariant c.loop-packet-test.false c.sent_len-packet-end.ensures.value

pub returns-then-at_rest-clause-adds : goal.returns-then-at_rest-clause-adds
returns-then-at_rest-clause-adds c =
    let first : WorldValue = c.args.self.now in
    sym (rest_adds first (rest_pass first c.run_len-before.ensures.run (c.at_rest.ensures.value.0 c.if-at_rest.true)))

pub returns-then-at_rest-clause-after : goal.returns-then-at_rest-clause-after
returns-then-at_rest-clause-after c =
    sym (rest_pass c.args.self.now c.run_len-before.ensures.run (c.at_rest.ensures.value.0 c.if-at_rest.true))
