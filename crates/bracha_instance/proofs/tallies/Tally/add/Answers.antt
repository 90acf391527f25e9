use Rattle.std.proofs.Common.{true, false, sym, ◌∙◌, arith}
use Rattle.bracha_instance.proofs.NameCounts.{counted}
use Rattle.bracha_instance.proofs.tallies.Tally.add.Goals as goal

pub overflow_add-self : goal.overflow_add-self
overflow_add-self c =
    let more = counted c.self.inside.echoes c.insert.new.self c.args.name c.self.inside.echo_count true
    c.self.invariant.0 c.insert.ensures.set (sym c.if-insert.true ∙ c.insert.ensures.fresh) in
    omega (arith, more, c.insert.ensures.most)

pub invariant_of-self : goal.invariant_of-self
invariant_of-self c =
    let more = counted c.self.inside.echoes c.insert.new.self c.args.name c.self.inside.echo_count true
    c.self.invariant.0 c.insert.ensures.set (sym c.if-insert.true ∙ c.insert.ensures.fresh) in
    (more, c.self.invariant.1)

pub invariant_of-self-else-insert : goal.invariant_of-self-else-insert
invariant_of-self-else-insert c =
    let same = counted c.self.inside.echoes c.insert.new.self c.args.name c.self.inside.echo_count false
    c.self.invariant.0 c.insert.ensures.set (sym c.if-insert.false ∙ c.insert.ensures.fresh) in
    (same, c.self.invariant.1)

pub overflow_add-self-then-insert-2 : goal.overflow_add-self-then-insert-2
overflow_add-self-then-insert-2 c =
    let more = counted c.self.inside.readies c.insert-in-Ready.new.self c.args.name c.self.inside.ready_count true
    c.self.invariant.1 c.insert-in-Ready.ensures.set (sym c.if-insert-2.true ∙ c.insert-in-Ready.ensures.fresh) in
    omega (arith, more, c.insert-in-Ready.ensures.most)

pub invariant_of-self-then-insert-2 : goal.invariant_of-self-then-insert-2
invariant_of-self-then-insert-2 c =
    let more = counted c.self.inside.readies c.insert-in-Ready.new.self c.args.name c.self.inside.ready_count true
    c.self.invariant.1 c.insert-in-Ready.ensures.set (sym c.if-insert-2.true ∙ c.insert-in-Ready.ensures.fresh) in
    (c.self.invariant.0, more)

pub invariant_of-self-else-insert-2 : goal.invariant_of-self-else-insert-2
invariant_of-self-else-insert-2 c =
    let same = counted c.self.inside.readies c.insert-in-Ready.new.self c.args.name c.self.inside.ready_count false
    c.self.invariant.1 c.insert-in-Ready.ensures.set (sym c.if-insert-2.false ∙ c.insert-in-Ready.ensures.fresh) in
    (c.self.invariant.0, same)
