use Rattle.std.proofs.Common.{sym, ap, ◌∙◌, arith}
use Rattle.std.specs.Ordering.{is_eq}
use Rattle.std.proofs.lemmas.List.{get_or_default}
use Rattle.sorted_pairs.proofs.SearchLemmas.{parted_below, place_of_item}
use Rattle.sorted_pairs.proofs.search.find.Goals as goal
use Rattle.sorted_pairs.proofs.search.find.Goals.{else-place-items-via-then-place-items+else-is_eq}
use Rattle.sorted_pairs.proofs.search.find.Goals.{else-place-items-via-else-place-items}

pub returns-else-place-items-clause-position : goal.returns-else-place-items-clause-position
returns-else-place-items-clause-position g c rises =
    let o = g.met.T.Ord.total in
    let items = c.args.items.now in
    let item = c.args.item.now in
    let place = c.partition_point-place.result in
    place_of_item o items item c.requires place
    (c.partition_point-place.ensures.place (parted_below o items item c.requires))
    (λ within d. elim c.else-place-items.branch [
      | else-place-items-via-then-place-items+else-is_eq w ↦
          ap (λ y. is_eq (g.T.Ord.cmp y item))
          (get_or_default items place d w.index-items-place.result within ∙ sym w.index-items-place.is)
          ∙ ap is_eq (sym w.cmp.ensures) ∙ sym w.is_eq.ensures ∙ w.if-is_eq.false
      | else-place-items-via-else-place-items w ↦ absurd (omega (arith, w.if-place-items.false))
    ])
