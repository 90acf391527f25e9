use Rattle.std.proofs.Common.{refl}
use Rattle.sorted_pairs.proofs.Exported.{nothing_ascends}
use Rattle.sorted_pairs.proofs.Exported.{no_blocks}
use Rattle.rbac_state.proofs.relation.Relation.new.Goals as goal

pub returns-clause-kept : goal.returns-clause-kept
returns-clause-kept g c = record {
  by_first = rw (c.new.ensures.items) (nothing_ascends _);
  by_second = rw (c.new-2.ensures.items) (nothing_ascends _);
  same = λ first second. rw (c.new.ensures.items, c.new-2.ensures.items) refl;
  first_blocks = rw (c.new.ensures.items) no_blocks;
  second_blocks = rw (c.new-2.ensures.items) no_blocks;
}
