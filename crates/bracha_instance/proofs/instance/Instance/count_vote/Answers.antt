use Rattle.std.proofs.Common.{sym, ap, ◌∙◌}
use Rattle.bracha_instance.specs.States.{kept}
use Rattle.bracha_instance.specs.Taking.{has_voted}
use Rattle.bracha_instance.specs.inside.Next.{only_if, kind_of, after_vote}
use Rattle.bracha_instance.specs.inside.Tallies.{Tallied}
use Rattle.bracha_instance.proofs.StateOf.{none_of}
use Rattle.bracha_instance.proofs.KeptInstances.{free_vote, vote_kept, vote_early}
use Rattle.bracha_instance.proofs.instance.Instance.count_vote.Goals as goal

pub count-requires : goal.count-requires
count-requires c =
    free_vote c.args.vote c.self.inside c.args.from c.self.invariant (sym c.is_some.ensures ∙ c.if-is_some.false)
    (ap (λ st. has_voted st (kind_of c.args.vote) c.args.from) c.self.view_is ∙ c.requires)

pub returns-then-may_deliver-clause-ok : goal.returns-then-may_deliver-clause-ok
returns-then-may_deliver-clause-ok c =
    vote_early c.args.sizes.now c.args.vote c.args.from c.args.command c.self.inside c.forget.new.self
    (sym c.is_some.ensures ∙ c.if-is_some.false) c.kind-kind.ensures c.note-2.ensures.votes
    c.in_ok-support.ensures.ok c.in_ok-support.ensures.support c.may_ready.ensures c.keep_first.ensures
    c.may_deliver.ensures (ap (λ b. only_if b c.args.command) (sym c.if-may_deliver.true))
    (ap (λ (w : Tallied). w.echoes) c.forget.ensures) (ap (λ (w : Tallied). w.readies) c.forget.ensures)
    ∙ ap (λ st. after_vote c.args.sizes.now st c.args.vote c.args.from c.args.command st.delivered) c.self.view_is

pub invariant_of-self-else-may_deliver : goal.invariant_of-self-else-may_deliver
invariant_of-self-else-may_deliver c =
    vote_kept c.args.vote c.self.inside c.args.from c.args.command c.self.invariant
    (sym c.is_some.ensures ∙ c.if-is_some.false)
    (ap (λ st. has_voted st (kind_of c.args.vote) c.args.from) c.self.view_is ∙ c.requires)
    c.kind-kind.ensures c.note-2.ensures.votes c.note-2.ensures.fit c.in_ok-support.ensures.ok

pub returns-clause-ok : goal.returns-clause-ok
returns-clause-ok c =
    let none = none_of c.self.inside.delivered (sym c.is_some.ensures ∙ c.if-is_some.false) in
    vote_early c.args.sizes.now c.args.vote c.args.from c.args.command c.self.inside c.count.new.self
    (sym c.is_some.ensures ∙ c.if-is_some.false) c.kind-kind.ensures c.note-2.ensures.votes
    c.in_ok-support.ensures.ok c.in_ok-support.ensures.support c.may_ready.ensures c.keep_first.ensures
    c.may_deliver.ensures (none ∙ ap (λ b. only_if b c.args.command) (sym c.if-may_deliver.false))
    (ap (λ d. kept d c.count.new.self.echoes) (sym none)) (ap (λ d. kept d c.count.new.self.readies) (sym none))
    ∙ ap (λ st. after_vote c.args.sizes.now st c.args.vote c.args.from c.args.command st.delivered) c.self.view_is
