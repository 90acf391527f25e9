use Rattle.std.proofs.Common.{sym, ap, ◌∙◌, subst, arith}
use Rattle.std.specs.List.Sorted.{IsStrictlySortedBy}
use Rattle.sorted_pairs.specs.Lists.{is_among}
use Rattle.sorted_pairs.specs.Pairs.{number_cmp}
use Rattle.sorted_pairs.proofs.Exported.{less_room}
use Rattle.rbac_state.proofs.relation.Relation.free.Goals as goal

pub returns-in_err-make_room-clause-kept : goal.returns-in_err-make_room-clause-kept
returns-in_err-make_room-clause-kept g c = record {
  by_first =
      subst (IsStrictlySortedBy number_cmp) (sym c.make_room.ensures.same)
      c.requires.kept.by_first;
  by_second = c.requires.kept.by_second;
  same = λ a b.
      c.requires.kept.same a b
      ∙ ap (λ l. is_among number_cmp l (a, b)) (sym c.make_room.ensures.same);
  first_blocks = c.make_room.ensures.more c.args.self.now.room c.requires.more c.requires.kept.first_blocks;
  second_blocks = c.requires.kept.second_blocks;
}

pub make_room-requires-2-clause-blocks : goal.make_room-requires-2-clause-blocks
make_room-requires-2-clause-blocks g c =
    less_room 0 c.args.self.now.room (omega arith) c.args.self.now.by_second.items c.requires.kept.second_blocks

pub returns-in_err-make_room-2-clause-kept : goal.returns-in_err-make_room-2-clause-kept
returns-in_err-make_room-2-clause-kept g c = record {
  by_first =
      subst (IsStrictlySortedBy number_cmp) (sym c.make_room.ensures.same)
      c.requires.kept.by_first;
  by_second =
      subst (IsStrictlySortedBy number_cmp) (sym c.make_room-2.ensures.same)
      c.requires.kept.by_second;
  same = λ a b.
      ap (λ l. is_among number_cmp l (b, a)) c.make_room-2.ensures.same
      ∙ c.requires.kept.same a b
      ∙ ap (λ l. is_among number_cmp l (a, b)) (sym c.make_room.ensures.same);
  first_blocks = c.make_room.ensures.more c.args.self.now.room c.requires.more c.requires.kept.first_blocks;
  second_blocks = c.make_room-2.ensures.more c.args.self.now.room c.requires.more c.requires.kept.second_blocks;
}
