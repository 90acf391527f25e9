use Rattle.std.proofs.Common.{◌∙◌, ap, sym, refl, subst, arith}
use Rattle.role_node.specs.Configs.{ConfigValue}
use Rattle.lab_scripts.specs.inside.Kept.{lab_in, given_in}
use Rattle.lab_scripts.specs.Labs.{Flushed, next_number}
use Rattle.lab_scripts.proofs.FlushLemmas.{Goes, goes-first, goes-many, goes-none, goes-over, next_number-found}
use Rattle.lab_scripts.proofs.lab.Lab.flush.Goals as goal

pub loop-count-init : goal.loop-count-init
loop-count-init c =
    goes-first (lab_in c.args.self.now) c.limit-limit.result
    (c.limit-limit.ensures ∙ ap (λ (k : ConfigValue). k.limit) c.config.ensures.value)

pub returns-in_default-clause-count : goal.returns-in_default-clause-count
returns-in_default-clause-count c =
    let found = next_number-found (lab_in c.loop-count.self) (given_in c.loop-count.self.given) c.sent_len.result
    c.next.result refl c.sent_len.ensures.value c.next.ensures.value in
    ap (λ (f : Flushed). f.count) (goes-none c.loop-count.invariant (found ∙ c.in_default.is))

pub returns-in_default-clause-after : goal.returns-in_default-clause-after
returns-in_default-clause-after c =
    let found = next_number-found (lab_in c.loop-count.self) (given_in c.loop-count.self.given) c.sent_len.result
    c.next.result refl c.sent_len.ensures.value c.next.ensures.value in
    (λ i. record { world = c.loop-count.self.world; given = c.next.ensures.same i })
    ∙ ap (λ (f : Flushed). f.lab) (goes-none c.loop-count.invariant (found ∙ c.in_default.is))

pub give_on-requires-clause-next : goal.give_on-requires-clause-next
give_on-requires-clause-next c =
    let found = next_number-found (lab_in c.loop-count.self) (given_in c.loop-count.self.given) c.sent_len.result
    c.next.result refl c.sent_len.ensures.value c.next.ensures.value in
    ap (λ given. next_number (record { world = c.loop-count.self.world; given = given })) c.next.ensures.same
    ∙ found ∙ c.in-Some.is

pub loop-count-preserved : goal.loop-count-preserved
loop-count-preserved c =
    goes-many c.in_ok-count.field-0 (record { world = c.loop-count.self.world; given = given_in c.next.new.self })
    (lab_in c.give_on.new.self)
    (subst (λ given. Goes (lab_in c.args.self.now) c.limit-limit.result c.loop-count.count
    (record { world = c.loop-count.self.world; given = given })) (sym c.next.ensures.same) c.loop-count.invariant)
    (omega (arith, c.in_ok-count.ensures.most, c.loop-count-test.true)) c.in_ok-count.ensures.after

pub returns-clause-count : goal.returns-clause-count
returns-clause-count c = ap (λ (f : Flushed). f.count) (goes-over c.loop-count.invariant c.loop-count-test.false)

pub returns-clause-after : goal.returns-clause-after
returns-clause-after c = ap (λ (f : Flushed). f.lab) (goes-over c.loop-count.invariant c.loop-count-test.false)
