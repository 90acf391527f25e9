use Rattle.std.proofs.Common.{◌∙◌, ℕ, ap, sym, arith, not}
use Rattle.lab_scripts.specs.inside.Kept.{given_in}
use Rattle.lab_scripts.specs.inside.Flags.{flagged, AreSet}
use Rattle.lab_scripts.proofs.FlagLemmas.{find-range, find-range-none}
use Rattle.lab_scripts.proofs.SettleLemmas.{below_set, below_unset}
use Rattle.lab_scripts.proofs.given.Given.next.Goals as goal

pub returns-then-least-end-clause-value : goal.returns-then-least-end-clause-value
returns-then-least-end-clause-value c =
    let f = flagged c.args.self.now.flags.items in
    let from = c.args.self.now.least in
    let same = ap flagged c.deref.ensures.value in
    let least = c.first_unset-least.result in
    let set : AreSet f from least = λ k over under.
    ap (λ g. g k) (sym same) ∙ c.first_unset-least.ensures.set k over under in
    sym (find-range (λ (k : ℕ). not (given_in c.args.self.now k)) 0 c.args.end least
    (λ k _ below. ap not (below_set f from least k set below)) (omega arith) (omega (arith, c.if-least-end.true))
    (ap not (below_unset f from least c.first_unset-least.ensures.from
    (ap (λ g. g least) (sym same) ∙ c.first_unset-least.ensures.unset c.if-least-end.true))))

pub returns-else-least-end-clause-value : goal.returns-else-least-end-clause-value
returns-else-least-end-clause-value c =
    let f = flagged c.args.self.now.flags.items in
    let from = c.args.self.now.least in
    let same = ap flagged c.deref.ensures.value in
    let least = c.first_unset-least.result in
    let set : AreSet f from least = λ k over under.
    ap (λ g. g k) (sym same) ∙ c.first_unset-least.ensures.set k over under in
    sym (find-range-none (λ (k : ℕ). not (given_in c.args.self.now k)) 0 c.args.end
    (λ k _ below. ap not (below_set f from least k set (omega (arith, below, c.if-least-end.false)))))
