use Rattle.std.proofs.Common.{sym, ap, ◌∙◌, subst}
use Rattle.std.specs.List.Sorted.{IsStrictlySortedBy}
use Rattle.std.specs.Ordering.{nat_cmp}
use Rattle.std.proofs.lemmas.List.Kept.{IsStrictlySortedBy-filter}
use Rattle.std.proofs.lemmas.Cmp.{nat_cmp_total}
use Rattle.sorted_pairs.specs.Blocks.{items_in}
use Rattle.sorted_pairs.specs.Lists.{is_among}
use Rattle.sorted_pairs.specs.Pairs.{number_cmp}
use Rattle.sorted_pairs.proofs.PairLemmas.{among_others}
use Rattle.sorted_pairs.proofs.TurnedLemmas.{others_left}
use Rattle.sorted_pairs.proofs.key_range.take_away_second.Goals as goal

pub returns-then-have_at_least-2-clause-members : goal.returns-then-have_at_least-2-clause-members
returns-then-have_at_least-2-clause-members g c a b =
    others_left nat_cmp nat_cmp_total c.args.second (items_in c.args.turned.now)
    (items_in c.blocks_of-range.result.now) (items_in c.args.blocks.now.items) a b
    (is_among number_cmp (items_in c.take_away_turned.new.blocks.items) (a, b))
    c.blocks_of-range.ensures.same (c.requires.same a b) (c.take_away_turned.ensures.members (a, b))

pub returns-clause-ascending : goal.returns-clause-ascending
returns-clause-ascending g c =
    subst (IsStrictlySortedBy number_cmp) (sym c.take_away_second.ensures.items)
    (IsStrictlySortedBy-filter number_cmp _ _ c.requires.ascending)

pub returns-clause-members : goal.returns-clause-members
returns-clause-members g c a b =
    ap (λ l. is_among number_cmp l (a, b)) c.take_away_second.ensures.items
    ∙ among_others nat_cmp nat_cmp_total c.args.second (items_in c.args.blocks.now.items) a b
