use Rattle.std.proofs.Common.{◌∙◌, ap}
use Rattle.sorted_pairs.specs.Lists.{is_among}
use Rattle.sorted_pairs.proofs.SortedLemmas.{place_for, ascends_with, members_with, members_as_before, there}
use Rattle.sorted_pairs.proofs.sorted.put.Goals as goal

pub returns-in-Err-clause-ascending : goal.returns-in-Err-clause-ascending
returns-in-Err-clause-ascending g c =
    let o = g.met.T.Ord.total in
    let items = c.args.items.now.items in
    rw (c.insert_within_capacity.ensures.items)
    (ascends_with o items c.args.item c.in-Err.place c.requires.ascending
    (rw (c.deref.ensures.value) at c.in-Err.ensures.bound)
    (place_for o items c.args.item c.in-Err.place c.requires.ascending
    (rw (c.deref.ensures.value) at c.in-Err.ensures.position)))

pub returns-in-Err-clause-members : goal.returns-in-Err-clause-members
returns-in-Err-clause-members g c q =
    ap (λ l. is_among g.T.Ord.cmp l q) c.insert_within_capacity.ensures.items
    ∙ members_with g.met.T.Ord.total c.args.items.now.items c.args.item c.in-Err.place q

pub returns-in_default-clause-members : goal.returns-in_default-clause-members
returns-in_default-clause-members g c q =
    let o = g.met.T.Ord.total in
    let items = c.args.items.now.items in
    members_as_before o items c.args.item q
    (there o items c.args.item c.in_default.field-0 (rw (c.deref.ensures.value) at c.in_default.ensures.bound)
    (rw (c.deref.ensures.value) at c.in_default.ensures.ok))
