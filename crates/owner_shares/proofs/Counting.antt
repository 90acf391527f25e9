-- How many packets of a list pass a test.
use Rattle.std.proofs.Common.{◌≡◌, ℕ, suc, ◌+◌, ◌≤◌, ◌⊎◌, ⊎_elim, Bool, true, false, cond, List, [], ◌∷◌}
use Rattle.std.proofs.Common.{length, refl, ap, ◌∙◌, arith}
use Rattle.std.specs.Prelude.{nat_lt, count_by, All}
use Rattle.std.proofs.lemmas.Bool.Decides.{nat_tests}
use Rattle.std.proofs.lemmas.List.Elements.{All-head, All-tail}
use Rattle.std.proofs.lemmas.List.Sums.{sum_by-cons}
use Rattle.link_frames.specs.frames.Packets.{PacketValue}

pub count-cons : (p : PacketValue → Bool) (x : PacketValue) (xs : List PacketValue) →
    count_by p (x ∷ xs) ≡ cond (p x) 1 0 + count_by p xs
count-cons p x xs = sum_by-cons (λ y. cond (p y) 1 0) x xs

passes_once : (b : Bool) (n : ℕ) → b ≡ true → cond b 1 0 + n ≡ suc n
passes_once true n e = omega arith
passes_once false n e = absurd cc

passes_not : (b : Bool) (n : ℕ) → b ≡ false → cond b 1 0 + n ≡ n
passes_not true n e = absurd cc
passes_not false n e = omega arith

pub count_none : (p : PacketValue → Bool) → ((x : PacketValue) → p x ≡ false) → (xs : List PacketValue) →
    count_by p xs ≡ 0
count_none p fails [] = refl
count_none p fails (x ∷ xs) =
    count-cons p x xs ∙ passes_not (p x) _ (fails x) ∙ count_none p fails xs

pub count_all : (p : PacketValue → Bool) (xs : List PacketValue) → All (λ x. p x ≡ true) xs →
    count_by p xs ≡ length xs
count_all p [] passes = refl
count_all p (x ∷ xs) passes =
    let P : PacketValue → Type 0 = λ y. p y ≡ true in
    count-cons p x xs ∙ passes_once (p x) _ (All-head P x xs passes)
    ∙ ap suc (count_all p xs (All-tail P x xs passes))

-- what passes one test passes one of two others
abbrev pub IsEither : (PacketValue → Bool) → (PacketValue → Bool) → (PacketValue → Bool) → PacketValue → Type 0
IsEither p q r x = p x ≡ true → (q x ≡ true) ⊎ (r x ≡ true)

one_or_other : (p q r : Bool) → (p ≡ true → (q ≡ true) ⊎ (r ≡ true)) → cond p 1 0 ≤ cond q 1 0 + cond r 1 0
one_or_other false q r h = omega arith
one_or_other true true r h = omega arith
one_or_other true false true h = omega arith
one_or_other true false false h =
    absurd (⊎_elim (λ (e : false ≡ true). cc) (λ (e : false ≡ true). cc) (h refl))

pub count_either : (p q r : PacketValue → Bool) (xs : List PacketValue) → All (IsEither p q r) xs →
    count_by p xs ≤ count_by q xs + count_by r xs
count_either p q r [] either = omega arith
count_either p q r (x ∷ xs) either =
    omega (
      arith,
      count-cons p x xs,
      count-cons q x xs,
      count-cons r x xs,
      one_or_other (p x) (q x) (r x) (All-head (IsEither p q r) x xs either),
      count_either p q r xs (All-tail (IsEither p q r) x xs either),
    )

pub none_below : (n : ℕ) → nat_lt n 0 ≡ false
none_below n = grind (arith, nat_tests)
