-- The first moment at which something holds of a list that grows.
use Rattle.std.proofs.Common.{◌≡◌, ℕ, zero, suc, ◌<◌, ◌≤◌, zero-le, suc-le-suc, le_of_suc-le-suc, le_refl, List}
use Rattle.std.proofs.Common.{[], ◌∷◌, ◌++◌, length, take, take_all, Option, Some, None, refl, sym, ap, ◌∙◌, arith}
use Rattle.std.specs.Option.{option_or}
use Rattle.bracha_instance.specs.Prefixes.{at_first_prefix}

or_assoc : {B : Type 0} (a b c : Option B) → option_or a (option_or b c) ≡ option_or (option_or a b) c
or_assoc None b c = refl
or_assoc (Some x) b c = refl

or_kept : {B : Type 0} (a b more : Option B) (c : B) → (b ≡ Some c → more ≡ Some c) → option_or a b ≡ Some c
    → option_or a more ≡ Some c
or_kept None b more c keeps e = keeps e
or_kept (Some x) b more c keeps e = e

or_none : {B : Type 0} (a b : Option B) → option_or a b ≡ None → (a ≡ None) × (b ≡ None)
or_none None b e = (refl, e)
or_none (Some x) b e = absurd cc

-- one more element can settle what no shorter prefix did
pub prefix_push : {A B : Type 0} (ask : List A → Option B) (xs : List A) (x : A) →
    at_first_prefix ask (xs ++ x ∷ []) ≡ option_or (at_first_prefix ask xs) (ask (xs ++ x ∷ []))
unfolding at_first_prefix
prefix_push ask [] x = refl
prefix_push ask (y ∷ ys) x =
    ap (option_or (ask [])) (prefix_push (λ past. ask (y ∷ past)) ys x)
    ∙ or_assoc (ask []) (at_first_prefix (λ past. ask (y ∷ past)) ys) (ask (y ∷ ys ++ x ∷ []))

-- what is settled stays
pub prefix_kept : {A B : Type 0} (ask : List A → Option B) (xs ys : List A) (c : B) →
    at_first_prefix ask xs ≡ Some c → at_first_prefix ask (xs ++ ys) ≡ Some c
unfolding at_first_prefix
prefix_kept ask [] [] c e = e
prefix_kept ask [] (y ∷ ys) c e = ap (λ o. option_or o (at_first_prefix (λ past. ask (y ∷ past)) ys)) e
prefix_kept ask (x ∷ xs) ys c e = or_kept (ask []) _ _ c (prefix_kept (λ past. ask (x ∷ past)) xs ys c) e

-- where nothing is settled, no prefix answers
pub prefix_none : {A B : Type 0} (ask : List A → Option B) (xs : List A) → at_first_prefix ask xs ≡ None → (m : ℕ)
    → ask (take m xs) ≡ None
unfolding at_first_prefix
prefix_none ask [] e zero = e
prefix_none ask [] e (suc m) = e
prefix_none ask (x ∷ xs) e zero = (or_none _ _ e).0
prefix_none ask (x ∷ xs) e (suc m) = prefix_none (λ past. ask (x ∷ past)) xs (or_none _ _ e).1 m

pub prefix_last : {A B : Type 0} (ask : List A → Option B) (xs : List A) → at_first_prefix ask xs ≡ None → ask xs ≡ None
prefix_last ask xs e = ap ask (sym (take_all (length xs) xs (le_refl _))) ∙ prefix_none ask xs e (length xs)

abbrev pub IsFirst : {A B : Type 0} → (List A → Option B) → List A → B → Type 0
IsFirst ask xs c = (m : ℕ) × (m ≤ length xs) × (ask (take m xs) ≡ Some c) × ((k : ℕ) → k < m → ask (take k xs) ≡ None)

earlier : {A B : Type 0} (ask : List A → Option B) (x : A) (xs : List A) (m : ℕ) → ask [] ≡ None →
    ((k : ℕ) → k < m → ask (x ∷ take k xs) ≡ None) → (k : ℕ) → k < suc m → ask (take k (x ∷ xs)) ≡ None
earlier ask x xs m is before zero h = is
earlier ask x xs m is before (suc k) h = before k (le_of_suc-le-suc h)

found_by : {A B : Type 0} (ask : List A → Option B) (x : A) (xs : List A) (c : B) (o rest : Option B) → ask [] ≡ o →
    (rest ≡ Some c → IsFirst (λ past. ask (x ∷ past)) xs c) → option_or o rest ≡ Some c → IsFirst ask (x ∷ xs) c
found_by ask x xs c None rest is later e =
    let r = later e in (suc r.0, suc-le-suc r.1, r.2, earlier ask x xs r.0 is r.3)
found_by ask x xs c (Some d) rest is later e = (zero, zero-le, is ∙ e, λ k h. absurd (omega arith))

-- what is settled was so at some prefix, and at none before it
pub prefix_found : {A B : Type 0} (ask : List A → Option B) (xs : List A) (c : B) → at_first_prefix ask xs ≡ Some c
    → IsFirst ask xs c
unfolding at_first_prefix
prefix_found ask [] c e = (zero, zero-le, e, λ k h. absurd (omega arith))
prefix_found ask (x ∷ xs) c e = found_by ask x xs c (ask []) _ refl (prefix_found (λ past. ask (x ∷ past)) xs c) e
