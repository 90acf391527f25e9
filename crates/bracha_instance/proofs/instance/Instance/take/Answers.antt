use Rattle.std.proofs.Common.{◌≡◌, true, false, Result, Ok, Err, sym, ap, ◌∙◌}
use Rattle.std.specs.Prelude.{OnErr}
use Rattle.bracha_instance.specs.Taking.{has_voted}
use Rattle.bracha_instance.proofs.Counting.{idle_state, effect_at, nothing_sent, nothing_delivered}
use Rattle.bracha_instance.proofs.instance.Instance.take.Goals as goal

-- A message that was taken before.

is_voted : (c : goal.Then-voted) → has_voted c.args.self.now c.args.kind c.args.from ≡ true
is_voted c = sym c.voted.ensures.seen ∙ c.if-voted.true

pub returns-then-voted-clause-state : goal.returns-then-voted-clause-state
returns-then-voted-clause-state c = λ takes is.
    idle_state c.args.sizes.now takes (record { kind = c.args.kind; from = c.args.from; command = c.args.command })
    c.args.self.now (is_voted c) is

pub returns-then-voted-clause-effect : goal.returns-then-voted-clause-effect
returns-then-voted-clause-effect c = λ takes owner is all.
    effect_at c.args.sizes.now takes (record { kind = c.args.kind; from = c.args.from; command = c.args.command }) owner
    c.args.self.now true (is_voted c) is all

pub returns-then-voted-clause-broadcast : goal.returns-then-voted-clause-broadcast
returns-then-voted-clause-broadcast c = λ takes is.
    nothing_sent c.args.sizes.now takes _ c.args.self.now is (returns-then-voted-clause-state c takes is)

pub returns-then-voted-clause-delivered : goal.returns-then-voted-clause-delivered
returns-then-voted-clause-delivered c = λ takes is.
    nothing_delivered c.args.sizes.now takes _ c.args.self.now is (returns-then-voted-clause-state c takes is)

-- A message that counts.

pub returns-clause-effect : goal.returns-clause-effect
returns-clause-effect c = λ takes owner is all.
    ap (λ taken. taken.effect) c.taken.ensures
    ∙ effect_at c.args.sizes.now takes (record { kind = c.args.kind; from = c.args.from; command = c.args.command })
    owner c.args.self.now false
    (sym c.voted.ensures.seen ∙ c.if-voted.false) is all

pub returns-clause-broadcast : goal.returns-clause-broadcast
returns-clause-broadcast c = λ takes is.
    ap (λ taken. taken.broadcast) c.taken.ensures ∙ c.in_ok-caused.ensures.broadcast takes is

pub returns-clause-delivered : goal.returns-clause-delivered
returns-clause-delivered c = λ takes is.
    ap (λ taken. taken.delivered) c.taken.ensures ∙ c.in_ok-caused.ensures.delivered takes is

-- Memory is wanting only for a message that counts.

on_err : {T E P : Type 0} (r : Result T E) → P → OnErr r P
on_err (Ok x) p = tt
on_err (Err e) p = p

pub returns-in_err-caused-clause-memory : goal.returns-in_err-caused-clause-memory
returns-in_err-caused-clause-memory c = on_err c.from_residual.result (λ takes owner is all.
    sym (effect_at c.args.sizes.now takes (record { kind = c.args.kind; from = c.args.from; command = c.args.command })
    owner c.args.self.now false
    (sym c.voted.ensures.seen ∙ c.if-voted.false) is all))
