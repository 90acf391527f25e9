-- Elements of lists by their numbers.
use Rattle.std.proofs.Common.{◌≡◌, ℕ, zero, suc, ◌+◌, ◌⊎◌, inl, inr, ⊎_elim, Bool, true, false, List, [], ◌∷◌}
use Rattle.std.proofs.Common.{◌++◌, length, Option, Some, None, refl, sym, ap, ◌∙◌, subst, arith}
use Rattle.std.specs.Prelude.{slice_get, Contains}
use Rattle.std.specs.List.{flat_map}
use Rattle.std.proofs.lemmas.List.Elements.{Contains-append_left, Contains-append_right, Contains-append_cases}
use Rattle.std.proofs.lemmas.Option.{slice_get-get_or, slice_get_within, get_or_from_slice_get}
use Rattle.byz_world.specs.Pools.{listed}

-- what a list holds at a number, a longer one does
pub at_front : {A : Type 0} (xs ys : List A) (k : ℕ) (x : A) → slice_get xs k ≡ Some x → slice_get (xs ++ ys) k ≡ Some x
at_front [] ys k x e = absurd cc
at_front (y ∷ xs) ys zero x e = e
at_front (y ∷ xs) ys (suc k) x e = at_front xs ys k x e

pub at_tail : {A : Type 0} (xs ys : List A) (k : ℕ) → slice_get ys k ≡ slice_get (xs ++ ys) (length xs + k)
at_tail [] ys k = let e : 0 + k ≡ k = omega arith in ap (slice_get ys) (sym e)
at_tail (x ∷ xs) ys k =
    let e : suc (length xs) + k ≡ suc (length xs + k) = omega arith in
    at_tail xs ys k ∙ ap (slice_get (x ∷ (xs ++ ys))) (sym e)

-- an element is at some number, and what is at a number is an element
pub number_of : {A : Type 0} (xs : List A) (x : A) → Contains xs x → (k : ℕ) × (slice_get xs k ≡ Some x)
number_of xs x c = (c.0, slice_get-get_or xs c.0 x c.1 ∙ ap Some c.2)

pub contained : {A : Type 0} (xs : List A) (k : ℕ) (x : A) → slice_get xs k ≡ Some x → Contains xs x
contained xs k x e = (k, slice_get_within xs k x e, get_or_from_slice_get xs k x x e)

one_more_is : {A : Type 0} (y x : A) (k : ℕ) → slice_get (y ∷ []) k ≡ Some x → y ≡ x
one_more_is y x zero e = cc
one_more_is y x (suc k) e = absurd cc

pub contains_one : {A : Type 0} (y x : A) → Contains (y ∷ []) x → y ≡ x
contains_one y x c = let at = number_of (y ∷ []) x c in one_more_is y x at.0 at.1

pub contains_listed : {A : Type 0} (o : Option A) (x : A) → Contains (listed o) x → o ≡ Some x
contains_listed None x c = absurd (omega (arith, c.1))
contains_listed (Some y) x c = ap Some (contains_one y x c)

pub listed_contains : {A : Type 0} (o : Option A) (x : A) → o ≡ Some x → Contains (listed o) x
listed_contains None x e = absurd cc
listed_contains (Some y) x e = contained (y ∷ []) 0 x e

-- an element of the image of a list comes from one of the list
pub contains_flat : {A B : Type 0} (f : A → List B) (xs : List A) (y : B) → Contains (flat_map f xs) y →
    (x : A) × Contains xs x × Contains (f x) y
contains_flat f [] y c = absurd (omega (arith, c.1))
contains_flat f (x ∷ xs) y c =
    ⊎_elim
    (λ (h : Contains (f x) y). (x, contained (x ∷ xs) 0 x refl, h))
    (λ (h : Contains (flat_map f xs) y).
    let later = contains_flat f xs y h in
    (later.0, Contains-append_right (x ∷ []) xs later.0 later.1, later.2))
    (Contains-append_cases (f x) (flat_map f xs) y c)

pub flat_contains : {A B : Type 0} (f : A → List B) (xs : List A) (x : A) (y : B) → Contains xs x → Contains (f x) y
    → Contains (flat_map f xs) y
flat_contains f [] x y c d = absurd (omega (arith, c.1))
flat_contains f (z ∷ xs) x y c d =
    ⊎_elim
    (λ (h : Contains (z ∷ []) x).
    let P : _ → Type 0 = λ w. Contains (f w) y in
    Contains-append_left (f z) (flat_map f xs) y (subst P (sym (contains_one z x h)) d))
    (λ (h : Contains xs x). Contains-append_right (f z) (flat_map f xs) y (flat_contains f xs x y h d))
    (Contains-append_cases (z ∷ []) xs x c)

-- an element of which a test holds, unless it holds of none
pub one_passes : {A : Type 0} (test : A → Bool) (xs : List A) →
    ((k : ℕ) (x : A) → slice_get xs k ≡ Some x → test x ≡ false) ⊎ ((x : A) × Contains xs x × (test x ≡ true))
one_passes test [] = inl (λ k x at. absurd cc)
one_passes {A} test (y ∷ xs) = by (test y) refl (one_passes test xs)
  where
    none : test y ≡ false → ((k : ℕ) (x : A) → slice_get xs k ≡ Some x → test x ≡ false) → (k : ℕ) (x : A) →
        slice_get (y ∷ xs) k ≡ Some x → test x ≡ false
    none first rest zero x at = let same : y ≡ x = cc in ap test (sym same) ∙ first
    none first rest (suc k) x at = rest k x at

    by : (b : Bool) → test y ≡ b →
        ((k : ℕ) (x : A) → slice_get xs k ≡ Some x → test x ≡ false) ⊎ ((x : A) × Contains xs x × (test x ≡ true)) →
        ((k : ℕ) (x : A) → slice_get (y ∷ xs) k ≡ Some x → test x ≡ false)
        ⊎ ((x : A) × Contains (y ∷ xs) x × (test x ≡ true))
    by true first rest = inr (y, contained (y ∷ xs) 0 y refl, first)
    by false first rest =
        ⊎_elim
        (λ (no_more : (k : ℕ) (x : A) → slice_get xs k ≡ Some x → test x ≡ false). inl (none first no_more))
        (λ (later : (x : A) × Contains xs x × (test x ≡ true)).
        inr (later.0, Contains-append_right (y ∷ []) xs later.0 later.1, later.2))
        rest
