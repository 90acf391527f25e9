use Rattle.std.proofs.Common.{◌≡◌, sym, ap, ◌∙◌, subst}
use Rattle.std.specs.Prelude.{is_some, false}
use Rattle.quorum_sizes.specs.Sizes.{Counts}
use Rattle.bracha_instance.specs.Broadcast.{Take}
use Rattle.bracha_instance.specs.Taking.{newly}
use Rattle.bracha_instance.proofs.Causing.{AreThis, are_this, sent_is}
use Rattle.bracha_instance.proofs.Counting.{counted_state, sent_of, delivered_of, newly_same}
use Rattle.bracha_instance.proofs.record.Record.take_new.Goals as goal

pub returns-clause-state : goal.returns-clause-state
returns-clause-state c = λ s takes is.
    let t : Take = record { kind = c.args.kind; from = c.args.from; command = c.args.command } in
    counted_state s takes t c.args.self.now c.count.new.self c.requires (c.count.ensures.state s) is

pub returns-clause-broadcast : goal.returns-clause-broadcast
returns-clause-broadcast c = λ s takes is.
    sent_is c.args.command c.args.self.now c.count.new.self c.is_new.result false c.kind_for.result
    (this s) echoes no_ready c.kind_for.ensures
    ∙ sent_of s takes _ c.args.self.now c.count.new.self is (returns-clause-state c s takes is)
  where
    this : (s : Counts) → AreThis c.args.command c.args.self.now c.count.new.self
    this s =
        subst (AreThis c.args.command c.args.self.now) (sym (c.count.ensures.state s))
        (are_this s c.args.self.now c.args.kind c.args.from c.args.command)

    echoes : c.is_new.result ≡ is_some (newly c.args.self.now.echoed c.count.new.self.echoed)
    echoes = c.is_new.ensures ∙ (λ i. is_some (newly (c.echoed-echoed.ensures i) (c.echoed.ensures i)))

    no_ready : false ≡ is_some (newly c.args.self.now.readied c.count.new.self.readied)
    no_ready =
        sym (ap is_some (newly_same c.args.self.now.readied c.count.new.self.readied c.count.ensures.readied))

pub returns-clause-delivered : goal.returns-clause-delivered
returns-clause-delivered c = λ s takes is.
    sym (newly_same c.args.self.now.delivered c.count.new.self.delivered c.count.ensures.delivered)
    ∙ delivered_of s takes _ c.args.self.now c.count.new.self is (returns-clause-state c s takes is)
