-- Lists: what stands in one, and how it goes on.
use Rattle.std.proofs.Common.{◌≡◌, ℕ, zero, suc, ◌<◌, Bool, true, false, cond, List, [], ◌∷◌}
use Rattle.std.proofs.Common.{◌++◌, take, drop, slice_get, find, Option, Some, None, refl, sym}
use Rattle.std.proofs.Common.{ap, ◌∙◌, arith, append_assoc, append-nil, take-append-drop, length}
use Rattle.std.specs.List.{filter_map, cons_option}
use Rattle.std.proofs.lemmas.List.Elements.{filter_map-append}
use Rattle.byz_world.proofs.Elements.{at_front}

-- x stands in the list
abbrev pub IsIn : {A : Type 0} → List A → A → Type 0
IsIn xs x = (k : ℕ) × (slice_get xs k ≡ Some x)

pub in_tail : {A : Type 0} (x : A) (xs : List A) (y : A) → IsIn xs y → IsIn (x ∷ xs) y
in_tail x xs y found = (suc found.0, found.1)

-- What is found is there, and passes the test.

found_by : {A : Type 0} (p : A → Bool) (y : A) (ys : List A) (x : A) (b : Bool) → p y ≡ b
    → (find p ys ≡ Some x → IsIn ys x × (p x ≡ true)) → cond b (Some y) (find p ys) ≡ Some x
    → IsIn (y ∷ ys) x × (p x ≡ true)
found_by p y ys x true is rest e = let same : y ≡ x = cc in ((zero, e), ap p (sym same) ∙ is)
found_by p y ys x false is rest e = let later = rest e in (in_tail y ys x later.0, later.1)

pub found_in : {A : Type 0} (p : A → Bool) (xs : List A) (x : A) → find p xs ≡ Some x → IsIn xs x × (p x ≡ true)
found_in p [] x e = absurd cc
found_in p (y ∷ ys) x e = found_by p y ys x (p y) refl (found_in p ys x) e

-- .. and where an element passes, one is found
found_there_by : {A : Type 0} (p : A → Bool) (y : A) (ys : List A) (b : Bool) → p y ≡ b
    → (b ≡ false → (z : A) × (find p ys ≡ Some z)) → (z : A) × (cond b (Some y) (find p ys) ≡ Some z)
found_there_by p y ys true is rest = (y, refl)
found_there_by p y ys false is rest = rest refl

pub found_there : {A : Type 0} (p : A → Bool) (xs : List A) (x : A) (k : ℕ) → slice_get xs k ≡ Some x → p x ≡ true
    → (z : A) × (find p xs ≡ Some z)
found_there p [] x k e passes = absurd cc
found_there p (y ∷ ys) x zero e passes =
    let same : y ≡ x = cc in
    found_there_by p y ys (p y) refl (λ not_it. let it : p y ≡ true = ap p same ∙ passes in absurd cc)
found_there p (y ∷ ys) x (suc k) e passes = found_there_by p y ys (p y) refl (λ _. found_there p ys x k e passes)

-- What is picked comes from an element.

abbrev pub IsPicked : {A B : Type 0} → (A → Option B) → List A → B → Type 0
IsPicked {A} {B} h xs y = (x : A) × IsIn xs x × (h x ≡ Some y)

picked_later : {A B : Type 0} (h : A → Option B) (x : A) (xs : List A) (y : B) → IsPicked h xs y → IsPicked h (x ∷ xs) y
picked_later h x xs y found = (found.0, in_tail x xs found.0 found.1, found.2)

picked_by : {A B : Type 0} (h : A → Option B) (x : A) (xs : List A) (y : B)
    → ((k : ℕ) → slice_get (filter_map h xs) k ≡ Some y → IsPicked h xs y) → (o : Option B) → h x ≡ o →
    (k : ℕ) → slice_get (cons_option o (filter_map h xs)) k ≡ Some y → IsPicked h (x ∷ xs) y
picked_by h x xs y rest None is k e = picked_later h x xs y (rest k e)
picked_by h x xs y rest (Some z) is zero e = (x, (zero, refl), is ∙ e)
picked_by h x xs y rest (Some z) is (suc k) e = picked_later h x xs y (rest k e)

pub picked_from : {A B : Type 0} (h : A → Option B) (xs : List A) (y : B) (k : ℕ)
    → slice_get (filter_map h xs) k ≡ Some y
    → IsPicked h xs y
picked_from h [] y k e = absurd cc
picked_from h (x ∷ xs) y k e = picked_by h x xs y (picked_from h xs y) (h x) refl k e

-- .. and each element that gives one is picked.

there_by : {A B : Type 0} (h : A → Option B) (xs : List A) (y : B) (o : Option B) → IsIn (filter_map h xs) y
    → IsIn (cons_option o (filter_map h xs)) y
there_by h xs y None found = found
there_by h xs y (Some z) found = in_tail z (filter_map h xs) y found

pub is_picked : {A B : Type 0} (h : A → Option B) (xs : List A) (x : A) (y : B) (k : ℕ) → slice_get xs k ≡ Some x
    → h x ≡ Some y
    → IsIn (filter_map h xs) y
is_picked h [] x y k e gives = absurd cc
is_picked h (z ∷ xs) x y zero e gives =
    let same : z ≡ x = cc in
    (zero, ap (λ o. slice_get (cons_option o (filter_map h xs)) zero) (ap h same ∙ gives))
is_picked h (z ∷ xs) x y (suc k) e gives = there_by h xs y (h z) (is_picked h xs x y k e gives)

-- Fronts.

-- the second list begins with the first
abbrev pub IsFront : {A : Type 0} → List A → List A → Type 0
IsFront {A} xs ys = (later : List A) × (ys ≡ xs ++ later)

pub front_taken : {A : Type 0} (n : ℕ) (xs : List A) → IsFront (take n xs) xs
front_taken n xs = (drop n xs, sym (take-append-drop n xs))

pub front_itself : {A : Type 0} (xs : List A) → IsFront xs xs
front_itself xs = ([], sym (append-nil xs))

pub front_of_front : {A : Type 0} (xs ys zs : List A) → IsFront xs ys → IsFront ys zs → IsFront xs zs
front_of_front xs ys zs a b =
    (a.0 ++ b.0, b.1 ∙ ap (λ list. list ++ b.0) a.1 ∙ append_assoc xs a.0 b.0)

pub front_picked : {A B : Type 0} (h : A → Option B) (xs ys : List A) → IsFront xs ys
    → IsFront (filter_map h xs) (filter_map h ys)
front_picked h xs ys a = (filter_map h a.0, ap (filter_map h) a.1 ∙ filter_map-append h xs a.0)

pub in_front : {A : Type 0} (xs ys : List A) (x : A) → IsFront xs ys → IsIn xs x → IsIn ys x
in_front xs ys x front found =
    (found.0, ap (λ list. slice_get list found.0) front.1 ∙ at_front xs front.0 found.0 x found.1)

-- what stands before place n stands there in the whole list
pub slice_get-taken : {A : Type 0} (n : ℕ) (xs : List A) (k : ℕ) (x : A) → slice_get (take n xs) k ≡ Some x
    → (k < n) × (slice_get xs k ≡ Some x)
slice_get-taken zero xs k x e = absurd cc
slice_get-taken (suc n) [] k x e = absurd cc
slice_get-taken (suc n) (y ∷ ys) zero x e = (omega arith, e)
slice_get-taken (suc n) (y ∷ ys) (suc k) x e = let rest = slice_get-taken n ys k x e in (omega arith, rest.1)

-- a list whose elements are those of another at the same places is a prefix of it
pub front_by_places : {A : Type 0} (xs ys : List A)
    → ((k : ℕ) (x : A) → slice_get xs k ≡ Some x → slice_get ys k ≡ Some x)
    → (rest : List A) × (xs ++ rest ≡ ys)
front_by_places [] ys same = (ys, refl)
front_by_places (x ∷ xs) [] same = absurd (let clash : None ≡ Some x = same zero x refl in cc)
front_by_places (x ∷ xs) (y ∷ ys) same =
    let later = front_by_places xs ys (λ k z e. same (suc k) z e) in
    let first : y ≡ x = let e : Some y ≡ Some x = same zero x refl in cc in
    (later.0, λ i. sym first i ∷ later.1 i)

-- lists of one length of which no two elements at one place differ are one
pub same_by_places : {A : Type 0} (xs ys : List A) → length xs ≡ length ys →
    ((k : ℕ) (x y : A) → slice_get xs k ≡ Some x → slice_get ys k ≡ Some y → x ≡ y) → xs ≡ ys
same_by_places [] [] long same = refl
same_by_places [] (y ∷ ys) long same = absurd (omega arith)
same_by_places (x ∷ xs) [] long same = absurd (omega arith)
same_by_places (x ∷ xs) (y ∷ ys) long same =
    let first : x ≡ y = same zero x y refl refl in
    let rest : xs ≡ ys = same_by_places xs ys (omega arith) (λ k a b e f. same (suc k) a b e f) in
    λ i. first i ∷ rest i
