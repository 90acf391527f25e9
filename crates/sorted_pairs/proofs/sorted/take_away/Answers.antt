use Rattle.std.proofs.Common.{◌∙◌, ap}
use Rattle.sorted_pairs.specs.Lists.{is_among}
use Rattle.sorted_pairs.proofs.SortedLemmas.{place_for, ascends_without, members_without, members_none, not_there}
use Rattle.sorted_pairs.proofs.sorted.take_away.Goals as goal

pub returns-in-Ok-clause-ascending : goal.returns-in-Ok-clause-ascending
returns-in-Ok-clause-ascending g c =
    rw (c.remove-gone.ensures.items)
    (ascends_without g.met.T.Ord.total c.args.items.now.items c.args.item.now c.in-Ok.place c.requires
    (rw (c.deref.ensures.value) at c.in-Ok.ensures.bound))

pub returns-in-Ok-clause-members : goal.returns-in-Ok-clause-members
returns-in-Ok-clause-members g c q =
    ap (λ l. is_among g.T.Ord.cmp l q) c.remove-gone.ensures.items
    ∙ members_without g.met.T.Ord.total c.args.items.now.items c.args.item.now c.in-Ok.place c.requires
    (rw (c.deref.ensures.value) at c.in-Ok.ensures.bound) (rw (c.deref.ensures.value) at c.in-Ok.ensures.ok) q

pub returns-in_default-clause-members : goal.returns-in_default-clause-members
returns-in_default-clause-members g c q =
    let o = g.met.T.Ord.total in
    let items = c.args.items.now.items in
    members_none o items c.args.item.now q
    (not_there o items c.args.item.now c.in_default.field-0
    (place_for o items c.args.item.now c.in_default.field-0 c.requires
    (rw (c.deref.ensures.value) at c.in_default.ensures.position)))
