-- Lists of which each element is changed, one after the other.
use Rattle.std.proofs.Common.{◌≡◌, ℕ, ◌+◌, ◌<◌, ◌≤◌, ◌≢◌, List, length, ◌∙◌, ap, arith, below_more}
use Rattle.std.proofs.Common.{get_or-set_other, get_or-set_same, length-set}
use Rattle.std.specs.Prelude.{slice_index_or, slice_set}

-- each element below this index is changed, by its index and what it was; those behind are as they were
pub record ChangedBelow {A : Type 0} (change : ℕ → A → A) (none : A) (upto : ℕ) (old new : List A) : Type 0 where
  pub count : length new ≡ length old
  pub each : (k : ℕ) → k < upto → slice_index_or new k none ≡ change k (slice_index_or old k none)
  pub behind : (k : ℕ) → upto ≤ k → slice_index_or new k none ≡ slice_index_or old k none

-- the next one is changed
pub changed_next :
    {A : Type 0} → (change : ℕ → A → A) → (none : A) → (upto : ℕ) → (old new : List A) → (y : A) →
    upto < length new → y ≡ change upto (slice_index_or new upto none) → ChangedBelow change none upto old new →
    ChangedBelow change none (upto + 1) old (slice_set new upto y)
changed_next change none upto old new y lt is before = record {
  count = length-set new upto y ∙ before.count;
  each = below_more _ _
      (λ k h. let ne : k ≢ upto = omega arith in get_or-set_other new upto k y none ne ∙ before.each k h)
      (get_or-set_same new upto y none lt ∙ is ∙ ap (change upto) (before.behind upto (omega arith)));
  behind = λ k h.
      let ne : k ≢ upto = omega arith in
      get_or-set_other new upto k y none ne ∙ before.behind k (omega arith);
}
