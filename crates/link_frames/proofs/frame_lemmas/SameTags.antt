-- Comparing two tags byte by byte, to the end.
use Rattle.std.proofs.Common.{◌≡◌, ℕ, ◌+◌, ◌<◌, Bool, true, false, eqb, List}
use Rattle.std.proofs.Common.{length, get_or, refl, sym, ap, ◌∙◌, arith, below_more}
use Rattle.std.specs.Int.Bits.{bit_and, bit_or, bit_xor, or_zero_l, or_zero_r}
use Rattle.std.specs.Int.Bits.{xor_self, xor_assoc, xor_zero_l, xor_zero_r, and_zero_l}
use Rattle.std.specs.Str.{bytes_eq}
use Rattle.std.proofs.lemmas.Bool.{eq-eqb, eqb-true}
use Rattle.std.proofs.lemmas.Nat.{and_or_self}
use Rattle.std.proofs.lemmas.Grind.{same_number_lists}
use Rattle.std.proofs.lemmas.Slice.Eq.{bytes_eq-Decides}

or_zero : (x y : ℕ) → bit_or x y ≡ 0 → (x ≡ 0) × (y ≡ 0)
or_zero x y e =
    let right : y ≡ 0 = sym (and_or_self y x) ∙ ap (λ n. bit_and n y) e ∙ and_zero_l y in
    let left : x ≡ 0 = sym (or_zero_r x) ∙ ap (λ n. bit_or x n) (sym right) ∙ e in
    (left, right)

xor_zero : (x y : ℕ) → bit_xor x y ≡ 0 → x ≡ y
xor_zero x y e =
    sym (xor_zero_r x) ∙ ap (λ n. bit_xor x n) (sym (xor_self y)) ∙ sym (xor_assoc x y y) ∙ ap (λ n. bit_xor n y) e
    ∙ xor_zero_l y

-- the differences of so many bytes are none exactly where the bytes are the same
pub record Compared (a b : List ℕ) (i differences : ℕ) : Type 0 where
  pub same : differences ≡ 0 → (k : ℕ) → k < i → get_or a k 0 ≡ get_or b k 0
  pub none : ((k : ℕ) → k < i → get_or a k 0 ≡ get_or b k 0) → differences ≡ 0

pub Compared-more : (a b : List ℕ) (i differences : ℕ) → Compared a b i differences
    → Compared a b (i + 1) (bit_or differences (bit_xor (get_or a i 0) (get_or b i 0)))
Compared-more a b i differences h = record {
  same = λ e.
      let parts = or_zero differences (bit_xor (get_or a i 0) (get_or b i 0)) e in
      below_more (λ k. get_or a k 0 ≡ get_or b k 0) i (h.same parts.0) (xor_zero _ _ parts.1);
  none = λ all.
      let before : differences ≡ 0 = h.none (λ k lt. all k (omega arith)) in
      let here : bit_xor (get_or a i 0) (get_or b i 0) ≡ 0 =
      ap (λ n. bit_xor n (get_or b i 0)) (all i (omega arith)) ∙ xor_self (get_or b i 0) in
      ap (λ n. bit_or n (bit_xor (get_or a i 0) (get_or b i 0))) before ∙ or_zero_l _ ∙ here;
}

pub compared : (a b : List ℕ) (i differences : ℕ) → length a ≡ length b → length a ≡ i → Compared a b i differences
    → eqb differences 0 ≡ bytes_eq a b
compared a b i differences len end h = go (bytes_eq a b) refl
  where
    go : (r : Bool) → bytes_eq a b ≡ r → eqb differences 0 ≡ r
    go true e =
        let same : a ≡ b = (bytes_eq-Decides a b).0 e in
        eq-eqb _ _ (h.none (λ k lt. ap (λ l. get_or l k 0) same))
    go false e = other (eqb differences 0) refl
      where
        other : (t : Bool) → eqb differences 0 ≡ t → t ≡ false
        other false t = refl
        other true t =
            let all : a ≡ b = same_number_lists a b len (λ k lt. h.same (eqb-true _ _ t) k (omega arith)) in
            let same : bytes_eq a b ≡ true = (bytes_eq-Decides a b).1 all in absurd cc
