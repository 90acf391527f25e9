-- A relation that is kept both ways: what is left of it without the pairs of a second.
use Rattle.std.proofs.Common.{◌≡◌, ℕ, not, ◌&&◌, filter, sym, ap, ◌∙◌, subst}
use Rattle.std.specs.Ordering.{eq_by_cmp, nat_cmp}
use Rattle.std.specs.List.Sorted.{IsStrictlySortedBy}
use Rattle.std.proofs.lemmas.Cmp.{nat_cmp_total}
use Rattle.std.proofs.lemmas.List.Kept.{IsStrictlySortedBy-filter}
use Rattle.sorted_pairs.specs.Blocks.{AreBlocks, items_in}
use Rattle.sorted_pairs.specs.Lists.{is_among}
use Rattle.sorted_pairs.specs.Pairs.{number_cmp}
use Rattle.sorted_pairs.proofs.Exported.{among_turned_others}
use Rattle.rbac_state.specs.inside.Relations.{relates, IsKeptBothWays}
use Rattle.rbac_state.specs.declared.relation.Relation.{Relation}

-- a relation without the pairs of a second
pub kept_without : {k : ℕ} (old new : Relation k) (second : ℕ) → IsKeptBothWays old →
    IsStrictlySortedBy number_cmp (items_in new.by_first.items) →
    ((a b : ℕ) → relates new a b ≡ (not (eq_by_cmp nat_cmp b second) && relates old a b)) →
    (items_in new.by_second.items) ≡ filter (λ p. not (eq_by_cmp nat_cmp p.0 second)) (items_in old.by_second.items) →
    AreBlocks new.room new.by_first.items → AreBlocks new.room new.by_second.items → IsKeptBothWays new
kept_without old new second kept up members by_second first_blocks second_blocks = record {
  first_blocks = first_blocks;
  second_blocks = second_blocks;
  by_first = up;
  by_second =
      subst (IsStrictlySortedBy number_cmp) (sym by_second) (IsStrictlySortedBy-filter number_cmp _ _ kept.by_second);
  same = λ a b.
      ap (λ l. is_among number_cmp l (b, a)) by_second
      ∙ among_turned_others nat_cmp nat_cmp_total second (items_in old.by_second.items) a b
      ∙ ap (λ x. not (eq_by_cmp nat_cmp b second) && x) (kept.same a b) ∙ sym (members a b);
}
