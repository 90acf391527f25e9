use Rattle.std.proofs.Common.{sym, ap, ◌∙◌}
use Rattle.std.specs.FinSet as sets
use Rattle.std.specs.Ordering.{nat_cmp}
use Rattle.bracha_instance.proofs.tallies.Tally.new.Goals as goal

pub invariant_of-result : goal.invariant_of-result
invariant_of-result c = (
  sym (ap sets.len c.new.ensures ∙ sets.len-empty nat_cmp),
  sym (ap sets.len c.new-2.ensures ∙ sets.len-empty nat_cmp),
)
