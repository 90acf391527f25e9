use Rattle.std.proofs.Common.{◌≡◌, sym, ◌∙◌, subst}
use Rattle.std.specs.Prelude.{is_some}
use Rattle.bracha_instance.specs.Taking.{newly}
use Rattle.bracha_instance.proofs.Causing.{AreThis, are_this, sent_is, delivered_is}
use Rattle.bracha_instance.proofs.Counting.{counted_state, sent_of, delivered_of}
use Rattle.bracha_instance.proofs.instance.Instance.take_new.Goals as goal

pub returns-clause-state : goal.returns-clause-state
returns-clause-state c = λ takes is.
    counted_state c.args.sizes.now takes (record { kind = c.args.kind; from = c.args.from; command = c.args.command })
    c.args.self.now c.count.new.self
    c.requires c.in_ok-count.ensures.ok is

pub returns-clause-broadcast : goal.returns-clause-broadcast
returns-clause-broadcast c = λ takes is.
    sent_is c.args.command c.args.self.now c.count.new.self c.is_new-echoes.result c.is_new-readies.result
    c.kind_for.result this echoes readies c.kind_for.ensures
    ∙ sent_of c.args.sizes.now takes _ c.args.self.now c.count.new.self is (returns-clause-state c takes is)
  where
    this : AreThis c.args.command c.args.self.now c.count.new.self
    this =
        subst (AreThis c.args.command c.args.self.now) (sym c.in_ok-count.ensures.ok)
        (are_this c.args.sizes.now c.args.self.now c.args.kind c.args.from c.args.command)

    echoes : c.is_new-echoes.result ≡ is_some (newly c.args.self.now.echoed c.count.new.self.echoed)
    echoes = c.is_new-echoes.ensures
        ∙ (λ i. is_some (newly (c.echoed-echoed.ensures i) (c.echoed.ensures i)))

    readies : c.is_new-readies.result ≡ is_some (newly c.args.self.now.readied c.count.new.self.readied)
    readies = c.is_new-readies.ensures
        ∙ (λ i. is_some (newly (c.readied-readied.ensures i) (c.readied.ensures i)))

pub returns-clause-delivered : goal.returns-clause-delivered
returns-clause-delivered c = λ takes is.
    delivered_is c.args.command c.args.self.now c.count.new.self c.is_new.result
    (subst (AreThis c.args.command c.args.self.now) (sym c.in_ok-count.ensures.ok)
    (are_this c.args.sizes.now c.args.self.now c.args.kind c.args.from c.args.command))
    (c.is_new.ensures ∙ (λ i. is_some (newly (c.delivered-delivered.ensures i) (c.delivered.ensures i))))
    ∙ delivered_of c.args.sizes.now takes _ c.args.self.now c.count.new.self is (returns-clause-state c takes is)
