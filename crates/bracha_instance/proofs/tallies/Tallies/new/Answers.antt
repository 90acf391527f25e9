use Rattle.std.proofs.Common.{sym, ap, ◌∙◌, subst}
use Rattle.bracha_instance.specs.inside.Tallies.{tallied, AreTallies}
use Rattle.bracha_instance.proofs.TallyLemmas.{tallied-none, AreTallies-none}
use Rattle.bracha_instance.proofs.tallies.Tallies.new.Goals as goal

pub invariant_of-result : goal.invariant_of-result
invariant_of-result c = record {
  tallies = subst AreTallies (sym c.new.ensures.items) AreTallies-none;
  none = λ _. c.new.ensures.items;
}

pub returns : goal.returns
returns c = ap tallied c.new.ensures.items ∙ tallied-none
