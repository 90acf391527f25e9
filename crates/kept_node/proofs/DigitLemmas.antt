-- Digits of numbers, and numbers of digits.
use Rattle.std.proofs.Common.{◌≡◌, ℕ, zero, suc, ◌+◌, ◌-◌, ◌*◌, ◌/◌, ◌%◌, ◌<◌, ◌≤◌, Bool, true, false, cond}
use Rattle.std.proofs.Common.{Option, Some, None, List, [], ◌∷◌, ◌++◌, length, take, drop, refl, ap, sym, ◌∙◌, subst}
use Rattle.std.proofs.Common.{arith, length-append, ◌⊎◌, inl, inr}
use Rattle.std.specs.Prelude.{◌&&◌, nat_le, option_and_then, option_map}
use Rattle.std.proofs.Math.Seq.{take-append_seam, drop-append_seam}
use Rattle.std.proofs.lemmas.List.{take-append-drop}
use Rattle.std.proofs.lemmas.Bool.Decides.{nat_tests}
use Rattle.batch_journal.specs.Digits.{digits_of, is_digit, AreDigits}
use Rattle.kept_node.specs.inside.EventReading.{number_of, number_at, up_to}

pub length-digits_of : (count n : ℕ) → length (digits_of count n) ≡ count
unfolding digits_of
length-digits_of zero n = refl
length-digits_of (suc count) n = ap suc (length-digits_of count (n / 120))

digit_is : (n : ℕ) → is_digit (129 + n % 120) ≡ true
digit_is n = grind (arith, nat_tests)

pub both : (a b : Bool) → a ≡ true → b ≡ true → (a && b) ≡ true
both true b ha hb = hb
both false b ha hb = ha

pub both_left : (a b : Bool) → (a && b) ≡ true → a ≡ true
both_left true b h = refl
both_left false b h = h

pub both_right : (a b : Bool) → (a && b) ≡ true → b ≡ true
both_right true b h = h
both_right false b h = absurd cc

pub digits-digits_of : (count n : ℕ) → AreDigits (digits_of count n)
unfolding digits_of
digits-digits_of zero n = refl
digits-digits_of (suc count) n = both _ _ (digit_is n) (digits-digits_of count (n / 120))

pub digits-append : (a b : List ℕ) → AreDigits a → AreDigits b → AreDigits (a ++ b)
digits-append [] b ha hb = hb
digits-append (x ∷ a) b ha hb = both _ _ (both_left _ _ ha) (digits-append a b (both_right _ _ ha) hb)

-- how many numbers have so many digits
abbrev pub numbers_of : ℕ → ℕ
numbers_of zero = 1
numbers_of (suc count) = 120 * numbers_of count

up_to_is : (most n : ℕ) → n ≤ most → up_to most n ≡ Some n
up_to_is most n h = let test : nat_le n most ≡ true = grind (arith, nat_tests) in rw test refl

number_again : (count n : ℕ) → n < numbers_of count → n ≤ 18446744073709551615 → number_of (digits_of count n) ≡ Some n
unfolding number_of digits_of
number_again zero n few most = let none : n ≡ 0 = omega arith in ap Some (sym none)
number_again (suc count) n few most =
    let fewer : n / 120 < numbers_of count = omega arith in
    let high = number_again count (n / 120) fewer (omega arith) in
    let same : (n / 120) * 120 + ((129 + n % 120) - 129) ≡ n = omega arith in
    rw (digit_is n, high, same) (up_to_is 18446744073709551615 n most)

-- a number of so many digits is read, with what is behind
pub read_again : (width most n : ℕ) (rest : List ℕ) → n < numbers_of width → n ≤ most → most ≤ 18446744073709551615 →
    number_at width most (digits_of width n ++ rest) ≡ Some (n, rest)
unfolding number_at
read_again width most n rest few fits wide =
    let long = length-digits_of width n in
    let front : take width (digits_of width n ++ rest) ≡ digits_of width n =
    subst (λ w. take w (digits_of width n ++ rest) ≡ digits_of width n) long (take-append_seam (digits_of width n)
    rest) in
    let behind : drop width (digits_of width n ++ rest) ≡ rest =
    subst (λ w. drop w (digits_of width n ++ rest) ≡ rest) long (drop-append_seam (digits_of width n) rest) in
    let there : nat_le width (length (digits_of width n ++ rest)) ≡ true = enough in
    rw (there, front, number_again width n few (omega arith), up_to_is most n fits, behind) refl
  where
    enough : nat_le width (length (digits_of width n ++ rest)) ≡ true
    enough =
        let at : width ≤ length (digits_of width n ++ rest) =
        omega (arith, length-digits_of width n, length-append (digits_of width n) rest) in
        grind (arith, nat_tests)

-- what follows where one thing is read after another
pub then_some : {A B : Type 0} (f : A → Option B) (o : Option A) (b : B) → option_and_then f o ≡ Some b →
    (a : A) × (o ≡ Some a) × (f a ≡ Some b)
then_some f None b e = absurd cc
then_some f (Some a) b e = (a, refl, e)

-- what follows of a value that was there, whatever it is
pub then_by : {A B P : Type 0} (f : A → Option B) (o : Option A) (b : B) → option_and_then f o ≡ Some b →
    ((a : A) → o ≡ Some a → f a ≡ Some b → P) → P
then_by f None b e k = absurd cc
then_by f (Some a) b e k = k a refl e

pub some_pair : {A B : Type 0} (a c : A) (b d : B) → ◌≡◌ {A = Option (A × B)} (Some (a, b)) (Some (c, d)) →
    (a ≡ c) × (b ≡ d)
some_pair {A} {B} a c b d e =
    let is : ◌≡◌ {A = A × B} (a, b) (c, d) = cc in
    (ap (λ (p : A × B). p.0) is, ap (λ (p : A × B). p.1) is)

up_to_found : (most n m : ℕ) → up_to most n ≡ Some m → (n ≡ m) × (m ≤ most)
up_to_found most n m e = go (nat_le n most) refl e
  where
    go : (b : Bool) → nat_le n most ≡ b → cond b (Some n) None ≡ Some m → (n ≡ m) × (m ≤ most)
    go true t e = let is : n ≡ m = cc in (is, grind (arith, nat_tests))
    go false t e = absurd cc

-- what is read as a number are its digits
number_found : (digits : List ℕ) (n : ℕ) → number_of digits ≡ Some n → digits_of (length digits) n ≡ digits
unfolding number_of digits_of
number_found [] n e = refl
number_found (digit ∷ digits) n e = go (number_found digits) (is_digit digit) refl e
  where
    go : ((m : ℕ) → number_of digits ≡ Some m → digits_of (length digits) m ≡ digits) → (b : Bool) →
        is_digit digit ≡ b →
        cond b (option_and_then (λ high. up_to 18446744073709551615 (high * 120 + (digit - 129))) (number_of digits))
        None ≡ Some n →
        (129 + n % 120) ∷ digits_of (length digits) (n / 120) ≡ digit ∷ digits
    go before true t e =
        let high = then_some (λ high. up_to 18446744073709551615 (high * 120 + (digit - 129))) (number_of digits) n e in
        let is = (up_to_found 18446744073709551615 (high.0 * 120 + (digit - 129)) n high.2).0 in
        let low : 129 ≤ digit = grind (arith, nat_tests) in
        let top : digit ≤ 248 = grind (arith, nat_tests) in
        let first : 129 + n % 120 ≡ digit = omega arith in
        let rest : n / 120 ≡ high.0 = omega arith in
        let tail = ap (digits_of (length digits)) rest ∙ before high.0 high.1 in
        λ i. first i ∷ tail i
    go before false t e = absurd cc

length-front : (width : ℕ) (digits : List ℕ) → width ≤ length digits → length (take width digits) ≡ width
length-front zero digits h = refl
length-front (suc width) [] h = absurd (omega arith)
length-front (suc width) (x ∷ digits) h = ap suc (length-front width digits (omega arith))

-- what is read as a number at the front are its digits
pub read_found : (width most n : ℕ) (digits rest : List ℕ) → number_at width most digits ≡ Some (n, rest) →
    (digits ≡ digits_of width n ++ rest) × (n ≤ most)
unfolding number_at
read_found width most n digits rest e = go (nat_le width (length digits)) refl e
  where
    go : (b : Bool) → nat_le width (length digits) ≡ b →
        cond b (option_and_then {U = ℕ × List ℕ}
        (λ number. option_and_then {U = ℕ × List ℕ} (λ (m : ℕ). Some (m, drop width digits)) (up_to most number))
        (number_of (take width digits))) None ≡ Some (n, rest) →
        (digits ≡ digits_of width n ++ rest) × (n ≤ most)
    go true t e =
        let there : width ≤ length digits = grind (arith, nat_tests) in
        let number = then_some {A = ℕ} {B = ℕ × List ℕ}
        (λ k. option_and_then {U = ℕ × List ℕ} (λ (m : ℕ). Some (m, drop width digits)) (up_to most k))
        (number_of (take width digits)) (n, rest) e in
        let m = then_some {A = ℕ} {B = ℕ × List ℕ} (λ m. Some (m, drop width digits)) (up_to most number.0) (n, rest)
        number.2 in
        let fits = up_to_found most number.0 m.0 m.1 in
        let is = some_pair m.0 n (drop width digits) rest m.2 in
        let m_is = is.0 in
        let rest_is = is.1 in
        let front = number_found (take width digits) number.0 number.1 in
        let long = length-front width digits there in
        let front_is : digits_of width n ≡ take width digits =
        (λ i. digits_of (sym long i) (sym (fits.0 ∙ m_is) i)) ∙ front in
        (sym (take-append-drop width digits) ∙ (λ i. sym front_is i ++ rest_is i), subst (λ k. k ≤ most) m_is fits.1)
    go false t e = absurd cc

pub some_is : {A : Type 0} (a b : A) → Some a ≡ Some b → a ≡ b
some_is a b e = cc

pub mapped : {A B : Type 0} (f : A → B) (o : Option A) (b : B) → option_map f o ≡ Some b →
    (a : A) × (o ≡ Some a) × (f a ≡ b)
mapped f None b e = absurd cc
mapped f (Some a) b e = (a, refl, some_is (f a) b e)

pub chosen : {A : Type 0} (b : Bool) (x y : Option A) (a : A) → cond b x y ≡ Some a →
    ((b ≡ true) × (x ≡ Some a)) ⊎ ((b ≡ false) × (y ≡ Some a))
chosen true x y a e = inl (refl, e)
chosen false x y a e = inr (refl, e)
