-- Where what is picked from a list stands in it, and what is picked before.
use Rattle.std.proofs.Common.{◌≡◌, ℕ, zero, suc, List, [], ◌∷◌, take, slice_get, Option, Some, None}
use Rattle.std.proofs.Common.{refl, sym, ap, ◌∙◌}
use Rattle.std.specs.List.{filter_map, cons_option}

-- y comes from an element of the list, and these come from those before it
abbrev pub IsPickedAt : {A B : Type 0} → (A → Option B) → List A → B → List B → Type 0
IsPickedAt {A} {B} h xs y before =
    (at : ℕ) × (from : A) × (slice_get xs at ≡ Some from) × (h from ≡ Some y) × (before ≡ filter_map h (take at xs))

later_by : {A B : Type 0} (h : A → Option B) (x : A) (xs : List A) (y : B) (before : List B) (o : Option B) → h x ≡ o →
    IsPickedAt h xs y before → IsPickedAt h (x ∷ xs) y (cons_option o before)
later_by h x xs y before o is found = (
  suc found.0,
  found.1,
  found.2,
  found.3,
  ap (cons_option o) found.4 ∙ ap (λ p. cons_option p (filter_map h (take found.0 xs))) (sym is),
)

picked_by : {A B : Type 0} (h : A → Option B) (x : A) (xs : List A) (y : B) →
    ((k : ℕ) → slice_get (filter_map h xs) k ≡ Some y → IsPickedAt h xs y (take k (filter_map h xs))) →
    (o : Option B) → h x ≡ o → (k : ℕ) → slice_get (cons_option o (filter_map h xs)) k ≡ Some y →
    IsPickedAt h (x ∷ xs) y (take k (cons_option o (filter_map h xs)))
picked_by h x xs y rest None is k e = later_by h x xs y (take k (filter_map h xs)) None is (rest k e)
picked_by h x xs y rest (Some z) is zero e = (zero, x, refl, is ∙ e, refl)
picked_by h x xs y rest (Some z) is (suc k) e = later_by h x xs y (take k (filter_map h xs)) (Some z) is (rest k e)

pub picked_at : {A B : Type 0} (h : A → Option B) (xs : List A) (y : B) (k : ℕ) →
    slice_get (filter_map h xs) k ≡ Some y → IsPickedAt h xs y (take k (filter_map h xs))
picked_at h [] y k e = absurd cc
picked_at h (x ∷ xs) y k e = picked_by h x xs y (picked_at h xs y) (h x) refl k e
