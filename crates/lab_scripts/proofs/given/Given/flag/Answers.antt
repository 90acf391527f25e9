use Rattle.std.proofs.Common.{ap, ◌∙◌, arith}
use Rattle.lab_scripts.proofs.FlagLemmas.{none_behind}
use Rattle.lab_scripts.proofs.SettleLemmas.{below_swapped}
use Rattle.lab_scripts.specs.Labs.{with_all_below}
use Rattle.lab_scripts.specs.inside.Flags.{flagged}
use Rattle.lab_scripts.proofs.given.Given.flag.Goals as goal

pub invariant_of-self : goal.invariant_of-self
invariant_of-self c = record {
  behind = λ k h. ap (λ given. given k) c.in_err-set_flag.ensures.err ∙ c.args.self.now.behind k h;
}

pub invariant_of-self-2 : goal.invariant_of-self-2
invariant_of-self-2 c = record {
  behind = λ k h.
      ap (λ given. given k) c.in_ok-set_flag.ensures.set
      ∙ none_behind (flagged c.args.self.now.flags.items) c.args.number k
      (c.args.self.now.behind k (omega (arith, h, c.max-self.ensures))) (omega (arith, h, c.max-self.ensures));
}

pub returns : goal.returns
returns c =
    ap (λ given. with_all_below given c.args.self.now.least) c.in_ok-set_flag.ensures.set
    ∙ below_swapped (flagged c.args.self.now.flags.items) c.args.self.now.least c.args.number
