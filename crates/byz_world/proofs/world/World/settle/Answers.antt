use Rattle.std.proofs.Common.{sym, ◌∙◌, arith}
use Rattle.byz_world.proofs.Passes.{passes_first, passes_next, passes_ended, passes_all, prolonged_more}
use Rattle.byz_world.proofs.Passes.{ended_settled, ended_prolongs, ended_no_shorter}
use Rattle.byz_world.proofs.world.World.settle.Goals as goal

pub loop-pass-init : goal.loop-pass-init
loop-pass-init c =
    passes_first c.args.self.now c.longest_run-pass-end.result c.longest_run-pass-end.ensures.value
    c.longest_run-pass-end.ensures.run

pub loop-pass-preserved : goal.loop-pass-preserved
loop-pass-preserved c =
    passes_next c.give_each.new.self c.loop-pass.invariant c.loop-pass-test.true
    (sym c.in_ok-adds.ensures.adds ∙ c.if-not-adds.false) c.in_ok-adds.ensures.after

pub returns-in_err-adds-clause-prolonged : goal.returns-in_err-adds-clause-prolonged
returns-in_err-adds-clause-prolonged c =
    prolonged_more c.args.self.now c.loop-pass.self _ c.loop-pass.invariant.prolonged c.in_err-adds.ensures.prolonged

pub returns-then-not-adds-clause-after : goal.returns-then-not-adds-clause-after
returns-then-not-adds-clause-after c =
    passes_ended c.give_each.new.self c.loop-pass.invariant (sym c.in_ok-adds.ensures.adds ∙ c.if-not-adds.true)
    c.in_ok-adds.ensures.after

pub returns-then-not-adds-clause-settled : goal.returns-then-not-adds-clause-settled
returns-then-not-adds-clause-settled c =
    ended_settled c.args.self.now c.give_each.new.self c.longest_run-pass-end.ensures.run
    (passes_ended c.give_each.new.self c.loop-pass.invariant (sym c.in_ok-adds.ensures.adds ∙ c.if-not-adds.true)
    c.in_ok-adds.ensures.after)

pub returns-then-not-adds-clause-prolonged : goal.returns-then-not-adds-clause-prolonged
returns-then-not-adds-clause-prolonged c =
    ended_prolongs c.args.self.now c.give_each.new.self
    (passes_ended c.give_each.new.self c.loop-pass.invariant (sym c.in_ok-adds.ensures.adds ∙ c.if-not-adds.true)
    c.in_ok-adds.ensures.after)

pub returns-clause-after : goal.returns-clause-after
returns-clause-after c = passes_all c.loop-pass.invariant c.loop-pass-test.false

pub returns-clause-settled : goal.returns-clause-settled
returns-clause-settled c =
    ended_settled c.args.self.now c.loop-pass.self c.longest_run-pass-end.ensures.run
    (passes_all c.loop-pass.invariant c.loop-pass-test.false)

pub returns-clause-prolonged : goal.returns-clause-prolonged
returns-clause-prolonged c =
    ended_prolongs c.args.self.now c.loop-pass.self (passes_all c.loop-pass.invariant c.loop-pass-test.false)

pub overflow_sub-result : goal.overflow_sub-result
overflow_sub-result c =
    let is = passes_ended c.give_each.new.self c.loop-pass.invariant
    (sym c.in_ok-adds.ensures.adds ∙ c.if-not-adds.true) c.in_ok-adds.ensures.after in
    omega (
      arith,
      ended_no_shorter c.args.self.now c.give_each.new.self is,
      c.run_len.ensures.value,
      c.run_len-before.ensures.value,
    )

pub returns-then-not-adds-clause-count : goal.returns-then-not-adds-clause-count
returns-then-not-adds-clause-count c =
    let is = passes_ended c.give_each.new.self c.loop-pass.invariant
    (sym c.in_ok-adds.ensures.adds ∙ c.if-not-adds.true) c.in_ok-adds.ensures.after in
    omega (
      arith,
      ended_no_shorter c.args.self.now c.give_each.new.self is,
      c.run_len.ensures.value,
      c.run_len-before.ensures.value,
    )

pub overflow_sub-result-2 : goal.overflow_sub-result-2
overflow_sub-result-2 c =
    let is = passes_all c.loop-pass.invariant c.loop-pass-test.false in
    omega (
      arith,
      ended_no_shorter c.args.self.now c.loop-pass.self is,
      c.run_len-2.ensures.value,
      c.run_len-before.ensures.value,
    )

pub returns-clause-count : goal.returns-clause-count
returns-clause-count c =
    let is = passes_all c.loop-pass.invariant c.loop-pass-test.false in
    omega (
      arith,
      ended_no_shorter c.args.self.now c.loop-pass.self is,
      c.run_len-2.ensures.value,
      c.run_len-before.ensures.value,
    )
