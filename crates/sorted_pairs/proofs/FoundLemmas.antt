-- What a look-up among the pairs of one first says of the whole list.
use Rattle.std.proofs.Common.{◌≡◌, ℕ, false, List, [], sym, ap, ◌∙◌}
use Rattle.std.proofs.lemmas.Map.Lookups.{exact_unsigned}
use Rattle.std.proofs.lemmas.Cmp.{nat_cmp_total}
use Rattle.sorted_pairs.specs.Lists.{is_among}
use Rattle.sorted_pairs.specs.KeyRanges.{IsKeyRange, pairs_in}
use Rattle.sorted_pairs.specs.declared.key_range.KeyRange.{KeyRange}
use Rattle.sorted_pairs.specs.Pairs.{number_cmp}
use Rattle.sorted_pairs.proofs.PairLemmas.{among_alike}

module _ {k : ℕ} (first : ℕ) (pairs : List (ℕ × ℕ)) (found : KeyRange k) (are : IsKeyRange first pairs found) where
  pub found_among : (second : ℕ) →
      is_among number_cmp (pairs_in found) (first, second) ≡ is_among number_cmp pairs (first, second)
  found_among second =
      sym (among_alike nat_cmp_total nat_cmp_total exact_unsigned exact_unsigned (pairs_in found) first second)
      ∙ ap (λ l. is_among number_cmp l (first, second)) are.same
      ∙ among_alike nat_cmp_total nat_cmp_total exact_unsigned exact_unsigned pairs first second

  pub found_none : pairs_in found ≡ [] → (second : ℕ) → is_among number_cmp pairs (first, second) ≡ false
  found_none none second =
      sym (found_among second) ∙ ap (λ l. is_among number_cmp l (first, second)) none
