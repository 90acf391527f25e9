use Rattle.std.proofs.Common.{◌+◌, sym, ap, ◌∙◌}
use Rattle.lab_scripts.specs.inside.Flags.{flagged, with_many}
use Rattle.lab_scripts.specs.inside.Kept.{given_in}
use Rattle.lab_scripts.specs.Labs.{with_all_below, with_number}
use Rattle.lab_scripts.proofs.FlushLemmas.{with_many-none, with_many-next}
use Rattle.lab_scripts.proofs.SettleLemmas.{below_many}
use Rattle.lab_scripts.proofs.given.Given.mark_many.Goals as goal

pub loop-number-init : goal.loop-number-init
loop-number-init c = sym (with_many-none (given_in c.args.self.now) c.args.first)

pub loop-number-preserved : goal.loop-number-preserved
loop-number-preserved c =
    c.in_ok-mark_at.ensures
    ∙ ap (λ given. with_number given (c.args.first + c.loop-number.number)) c.loop-number.invariant
    ∙ with_many-next (given_in c.args.self.now) c.args.first c.loop-number.number

pub returns-then-self-first : goal.returns-then-self-first
returns-then-self-first c =
    let f = flagged c.args.self.now.flags.items in
    let same = c.if-self-first.true in
    ap (λ n. with_all_below f (n + c.args.count)) same ∙ below_many f c.args.first c.args.count
    ∙ ap (λ n. with_many (with_all_below f n) c.args.first c.args.count) (sym same)
