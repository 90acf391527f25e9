use Rattle.std.proofs.Common.{◌≡◌, ◌-◌, ◌+◌, drop, refl, sym, ap, ◌∙◌, subst, arith}
use Rattle.std.specs.declared.cmp.Ordering.TheVariants.{Less}
use Rattle.std.specs.List.{AllByRecursion}
use Rattle.std.specs.Ordering.{nat_cmp}
use Rattle.std.proofs.lemmas.List.{drop-drop}
use Rattle.std.proofs.lemmas.Cmp.{nat_cmp_total}
use Rattle.sorted_pairs.specs.Blocks.{items_in}
use Rattle.sorted_pairs.specs.Pairs.{number_cmp}
use Rattle.sorted_pairs.proofs.BlockLemmas.{ascends_drop, ascends_take}
use Rattle.sorted_pairs.proofs.KeyRangeLemmas.{alike_in_range}
use Rattle.sorted_pairs.proofs.key_range.blocks_of.Goals as goal

pub returns-clause-same : goal.returns-clause-same
returns-clause-same g c =
    let blocks = c.args.blocks.now in
    let first = c.args.first in
    let start = c.lower_bound-start.result in
    let end = c.end_of-end.result in
    let onward = c.end_of-end.ensures.onward in
    let e : start + (end - start) ≡ end = omega arith in
    alike_in_range nat_cmp nat_cmp_total first (λ b. b.items) blocks _ start (end - start) refl
    c.lower_bound-start.ensures.below
    (subst (λ l. AllByRecursion (λ p. nat_cmp first p.0 ≡ Less) (items_in l))
    (sym (drop-drop (end - start) start blocks ∙ ap (λ k. drop k blocks) e)) c.end_of-end.ensures.above)

pub returns-clause-ascending : goal.returns-clause-ascending
returns-clause-ascending g c =
    let R = number_cmp in
    let blocks = c.args.blocks.now in
    let start = c.lower_bound-start.result in
    ascends_take (λ b. b.items) R (drop start blocks) (c.end_of-end.result - start)
    (ascends_drop (λ b. b.items) R blocks start c.requires.ascending)
