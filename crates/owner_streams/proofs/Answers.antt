-- Answers at one number after another, up to the first at which there is none.
use Rattle.std.proofs.Common.{◌≡◌, ℕ, zero, suc, ◌+◌, ◌≤◌, List, [], ◌∷◌, ◌++◌}
use Rattle.std.proofs.Common.{length, Option, Some, None, refl, sym, ap, ◌∙◌, arith}
use Rattle.std.specs.Prelude.{slice_get}
use Rattle.std.proofs.lemmas.Option.{same_Some}
use Rattle.owner_streams.specs.Places.{cons_if, answers_from}

-- the list has the answers at k and after it, and at its end there is none
abbrev pub HasAnswers : {A : Type 0} → (ℕ → Option A) → ℕ → List A → Type 0
HasAnswers ask k xs = (i : ℕ) → i ≤ length xs → ask (k + i) ≡ slice_get xs i

no_answer : {A : Type 0} (ask : ℕ → Option A) (k : ℕ) → ask k ≡ None → HasAnswers ask k []
no_answer ask k none zero h = let e : k + 0 ≡ k = omega arith in ap ask e ∙ none
no_answer ask k none (suc i) h = absurd (omega arith)

one_answer : {A : Type 0} (ask : ℕ → Option A) (k : ℕ) (x : A) (xs : List A) → ask k ≡ Some x
    → HasAnswers ask (k + 1) xs
    → HasAnswers ask k (x ∷ xs)
one_answer ask k x xs first more zero h = let e : k + 0 ≡ k = omega arith in ap ask e ∙ first
one_answer ask k x xs first more (suc i) h =
    let e : k + suc i ≡ k + 1 + i = omega arith in
    let within : i ≤ length xs = omega arith in
    ap ask e ∙ more i within

answer_or_end : {A : Type 0} (ask : ℕ → Option A) (k : ℕ) (o : Option A) (xs : List A) → ask k ≡ o
    → HasAnswers ask (k + 1) xs
    → HasAnswers ask k (cons_if o xs)
answer_or_end ask k None xs e more = no_answer ask k e
answer_or_end ask k (Some x) xs e more = one_answer ask k x xs e more

-- from a place on at which there are no answers, none is missed
pub answers_are_all : {A : Type 0} (ask : ℕ → Option A) (k most : ℕ) → ((i : ℕ) → k + most ≤ i → ask i ≡ None)
    → HasAnswers ask k (answers_from ask k most)
unfolding answers_from
answers_are_all ask k zero none = let h : k + 0 ≤ k = omega arith in no_answer ask k (none k h)
answers_are_all ask k (suc most) none =
    answer_or_end ask k (ask k) _ refl (answers_are_all ask (k + 1) most (λ i h. let past : k + suc most ≤ i =
    omega arith in none i past))

-- the answers are one list
pub answers_are_one : {A : Type 0} (ask : ℕ → Option A) (k : ℕ) (xs ys : List A) → HasAnswers ask k xs
    → HasAnswers ask k ys
    → xs ≡ ys
answers_are_one ask k [] [] p q = refl
answers_are_one ask k [] (y ∷ ys) p q =
    absurd (let e : None ≡ Some y = sym (p 0 (omega arith)) ∙ q 0 (omega arith) in cc)
answers_are_one ask k (x ∷ xs) [] p q =
    absurd (let e : Some x ≡ None = sym (p 0 (omega arith)) ∙ q 0 (omega arith) in cc)
answers_are_one ask k (x ∷ xs) (y ∷ ys) p q =
    let first : x ≡ y = same_Some x y (sym (p 0 (omega arith)) ∙ q 0 (omega arith)) in
    let rest : xs ≡ ys =
    answers_are_one ask (k + 1) xs ys
    (λ i h. let e : k + 1 + i ≡ k + suc i = omega arith in let within : suc i ≤ length (x ∷ xs) = omega arith in
    ap ask e ∙ p (suc i) within)
    (λ i h. let e : k + 1 + i ≡ k + suc i = omega arith in let within : suc i ≤ length (y ∷ ys) = omega arith in
    ap ask e ∙ q (suc i) within) in
    λ i. first i ∷ rest i

abbrev pub Begins : {A : Type 0} → List A → List A → Type 0
Begins {A} xs ys = (rest : List A) × (xs ++ rest ≡ ys)

both_go_on : {A : Type 0} (o later : Option A) (xs ys : List A) → ((x : A) → o ≡ Some x → later ≡ Some x) → Begins xs ys
    → Begins (cons_if o xs) (cons_if later ys)
both_go_on None later xs ys stays more = (cons_if later ys, refl)
both_go_on (Some x) later xs ys stays more =
    (more.0, (λ i. x ∷ more.1 i) ∙ ap (λ o. cons_if o ys) (sym (stays x refl)))

-- where answers stay, and there are more of them, their list goes on
pub answers_go_on : {A : Type 0} (ask later : ℕ → Option A) (k m n : ℕ)
    → ((i : ℕ) (x : A) → ask i ≡ Some x → later i ≡ Some x)
    → m ≤ n → Begins (answers_from ask k m) (answers_from later k n)
unfolding answers_from
answers_go_on ask later k zero n stays h = (answers_from later k n, refl)
answers_go_on ask later k (suc m) zero stays h = absurd (omega arith)
answers_go_on ask later k (suc m) (suc n) stays h =
    both_go_on (ask k) (later k) _ _ (stays k) (answers_go_on ask later (k + 1) m n stays (omega arith))
