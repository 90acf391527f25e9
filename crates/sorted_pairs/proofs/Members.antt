-- The members of lists, and of what is picked from a list.
use Rattle.std.proofs.Common.{◌≡◌, Bool, true, false, ◌⊎◌, inl, inr, cond, zero, All}
use Rattle.std.proofs.Common.{suc, List, [], ◌∷◌, refl, ap, ◌∙◌, arith, filter, map}
use Rattle.std.specs.Prelude.{Contains}
use Rattle.std.proofs.lemmas.List.Elements.{All-contains, All-contains_itself, All-filter, All-head, All-tail}
use Rattle.std.proofs.lemmas.List.Elements.{filter_passes}

pub contains_head : {X : Type 0} (x : X) (xs : List X) (y : X) → x ≡ y → Contains (x ∷ xs) y
contains_head x xs y e = (0, omega arith, e)

pub contains_more : {X : Type 0} (x : X) (xs : List X) (y : X) → Contains xs y → Contains (x ∷ xs) y
contains_more x xs y (k, below, is) = (suc k, omega arith, is)

pub contains_cases : {X : Type 0} (x : X) (xs : List X) (y : X) → Contains (x ∷ xs) y → (x ≡ y) ⊎ Contains xs y
contains_cases x xs y (zero, below, is) = inl is
contains_cases x xs y (suc k, below, is) = inr (k, omega arith, is)

pub contains_none : {X : Type 0} (y : X) (P : Type 0) → Contains [] y → P
contains_none y P (k, below, is) = absurd (omega arith)

-- what a filter keeps is in the list, and passes
pub in_filter : {X : Type 0} (p : X → Bool) (xs : List X) (x : X) → Contains (filter p xs) x
    → Contains xs x × (p x ≡ true)
in_filter p xs x h = (
  All-contains (Contains xs) (filter p xs) x (All-filter p (Contains xs) xs (All-contains_itself xs)) h,
  All-contains (λ y. p y ≡ true) (filter p xs) x (filter_passes p xs) h,
)

-- it keeps what passes
pub into_filter : {X : Type 0} (p : X → Bool) (xs : List X) (x : X) → Contains xs x → p x ≡ true
    → Contains (filter p xs) x
into_filter p [] x within passes = within
into_filter p (y ∷ xs) x within passes =
    elim (contains_cases y xs x within) [
      | inl here ↦ rw (ap p here ∙ passes) (contains_head y _ x here)
      | inr later ↦
          elim (p y) as (λ b. Contains (cond b (y ∷ filter p xs) (filter p xs)) x) [
            | true ↦ contains_more y _ x (into_filter p xs x later passes)
            | false ↦ into_filter p xs x later passes
          ]
    ]

-- of a list of which none passes a filter keeps none, and where each passes all
pub filter_none : {X : Type 0} (p : X → Bool) (xs : List X) → All (λ x. p x ≡ false) xs → filter p xs ≡ []
filter_none p [] none = refl
filter_none p (x ∷ xs) none =
    ap (λ b. cond b (x ∷ filter p xs) (filter p xs)) (All-head (λ x. p x ≡ false) x xs none)
    ∙ filter_none p xs (All-tail (λ x. p x ≡ false) x xs none)

pub filter_every : {X : Type 0} (p : X → Bool) (xs : List X) → All (λ x. p x ≡ true) xs → filter p xs ≡ xs
filter_every p [] every = refl
filter_every p (x ∷ xs) every =
    ap (λ b. cond b (x ∷ filter p xs) (filter p xs)) (All-head (λ x. p x ≡ true) x xs every)
    ∙ ap (λ l. x ∷ l) (filter_every p xs (All-tail (λ x. p x ≡ true) x xs every))

-- the members of a mapped list
pub mapped_from : {X Y : Type 0} (f : X → Y) (xs : List X) (y : Y) → Contains (map f xs) y
    → (x : X) × Contains xs x × (f x ≡ y)
mapped_from f [] y h = contains_none y _ h
mapped_from f (x ∷ xs) y h =
    elim (contains_cases (f x) (map f xs) y h) [
      | inl here ↦ (x, contains_head x xs x refl, here)
      | inr later ↦ let z = mapped_from f xs y later in (z.0, contains_more x xs z.0 z.1, z.2)
    ]

pub mapped_into : {X Y : Type 0} (f : X → Y) (xs : List X) (x : X) → Contains xs x → Contains (map f xs) (f x)
mapped_into f [] x within = contains_none x _ within
mapped_into f (z ∷ xs) x within =
    elim (contains_cases z xs x within) [
      | inl here ↦ contains_head (f z) (map f xs) (f x) (ap f here)
      | inr later ↦ contains_more (f z) (map f xs) (f x) (mapped_into f xs x later)
    ]

module _ {X Y : Type 0} (p : X → Bool) (f : X → Y) where
  -- y comes of an item that passes
  abbrev pub Picked : List X → Y → Type 0
  Picked xs y = (x : X) × Contains xs x × (p x ≡ true) × (f x ≡ y)

  picked_more : (x : X) (xs : List X) (y : Y) → Picked xs y → Picked (x ∷ xs) y
  picked_more x xs y (z, within, passes, gives) = (z, contains_more x xs z within, passes, gives)

  pub picked_from : (xs : List X) (y : Y) → Contains (map f (filter p xs)) y → Picked xs y
  picked_from [] y h = contains_none y _ h
  picked_from (x ∷ xs) y h =
      elim (p x) as (λ b. p x ≡ b → Contains (map f (cond b (x ∷ filter p xs) (filter p xs))) y → Picked (x ∷ xs) y) [
        | true ↦ λ passes h. elim (contains_cases (f x) _ y h) [
          | inl gives ↦ (x, contains_head x xs x refl, passes, gives)
          | inr later ↦ picked_more x xs y (picked_from xs y later)
        ]
        | false ↦ λ _ h. picked_more x xs y (picked_from xs y h)
      ] refl h

  pub picked_into : (xs : List X) (x : X) → Contains xs x → p x ≡ true → Contains (map f (filter p xs)) (f x)
  picked_into [] x within passes = contains_none x _ within
  picked_into (z ∷ xs) x within passes =
      elim (contains_cases z xs x within) [
        | inl here ↦ rw (ap p here ∙ passes) (contains_head (f z) _ (f x) (ap f here))
        | inr later ↦
            elim (p z) as (λ b. Contains (map f (cond b (z ∷ filter p xs) (filter p xs))) (f x)) [
              | true ↦ contains_more (f z) _ (f x) (picked_into xs x later passes)
              | false ↦ picked_into xs x later passes
            ]
      ]
