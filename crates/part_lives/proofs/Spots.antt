-- Where the places of a total are: place `number * length + place` is that place of the part of that number.
use Rattle.std.proofs.Common.{◌≡◌, ℕ, zero, suc, ◌+◌, ◌*◌, ◌-◌, ◌==◌, ◌<◌, ◌≤◌, false, ap, ◌∙◌}
use Rattle.std.proofs.Common.{arith, ⊎_elim}
use Rattle.std.specs.Prelude.{if◌then◌else◌}
use Rattle.std.proofs.lemmas.Bool.{cases_lt, eq-eqb}
use Rattle.std.proofs.lemmas.Bool.Decides.{nat_tests}
use Rattle.std.proofs.lemmas.Nat.{mul-le}
use native.Mathlib.Nat.{suc-mul, zero-mul}
use Rattle.part_lives.specs.Parts.{Plan, Spot, next_spot, spot_at}

abbrev pub at_spot : ℕ → ℕ → Spot
at_spot number place = record { number = number; place = place }

-- products, for `omega`

pub next_row : (n length : ℕ) → suc n * length ≡ n * length + length
next_row n length = suc-mul n length

pub no_rows : (length : ℕ) → 0 * length ≡ 0
no_rows length = zero-mul length

pub more_rows : (m n length : ℕ) → m ≤ n → m * length ≤ n * length
more_rows m n length le = mul-le m length n length le (omega arith)

-- less than a row behind them is in fewer rows
pub row_below : (m n length place : ℕ) → m * length + place < n * length → m < n
row_below m n length place less =
    ⊎_elim (λ (h : m < n). h)
    (λ (h : n ≤ m). absurd (omega (arith, more_rows n m length h, less)))
    (cases_lt m n)

pub row_within : (m n length place : ℕ) → n * length ≤ m * length + place → place < length → n ≤ m
row_within m n length place le small =
    ⊎_elim (λ (h : m < n). absurd (omega (arith, more_rows (suc m) n length h, next_row m length, le, small)))
    (λ (h : n ≤ m). h)
    (cases_lt m n)

not_last : (place length : ℕ) → suc place < length → (suc place == length) ≡ false
not_last place length less = grind (arith, nat_tests)

module _ (plan : Plan) where
  within : (number start : ℕ) → spot_at plan start ≡ at_spot number 0 → (place : ℕ) → place < plan.length →
      spot_at plan (start + place) ≡ at_spot number place
  unfolding spot_at
  within number start first zero small = let e : start + 0 ≡ start = omega arith in ap (spot_at plan) e ∙ first
  within number start first (suc place) small =
      let e : start + suc place ≡ suc (start + place) = omega arith in
      ap (spot_at plan) e ∙ ap (next_spot plan) (within number start first place (omega (arith, small)))
      ∙ ap (λ b. if b then at_spot (suc number) 0 else at_spot number (suc place))
      (not_last place plan.length small)

  row_start : 1 ≤ plan.length → (number : ℕ) → spot_at plan (number * plan.length) ≡ at_spot number 0
  unfolding spot_at
  row_start some zero = ap (spot_at plan) (no_rows plan.length)
  row_start some (suc number) =
      let last : ℕ = plan.length - 1 in
      let e : suc number * plan.length ≡ suc (number * plan.length + last) =
      omega (arith, next_row number plan.length, some) in
      ap (spot_at plan) e
      ∙ ap (next_spot plan)
      (within number (number * plan.length) (row_start some number) last (omega (arith, some)))
      ∙ ap (λ b. if b then at_spot (suc number) 0 else at_spot number (suc last))
      (eq-eqb (suc last) plan.length (omega (arith, some)))

  pub spot_is : (number place : ℕ) → place < plan.length →
      spot_at plan (number * plan.length + place) ≡ at_spot number place
  spot_is number place small =
      within number (number * plan.length) (row_start (omega (arith, small)) number) place small

  -- each place is one of some part
  pub record IsPlaced (place : ℕ) : Type 0 where
    pub number : ℕ
    pub rest : ℕ
    pub small : rest < plan.length
    pub is : place ≡ number * plan.length + rest

  pub placed : 1 ≤ plan.length → (place : ℕ) → IsPlaced place
  placed some zero = record {
    number = 0;
    rest = 0;
    small = omega (arith, some);
    is = omega (arith, no_rows plan.length);
  }
  placed some (suc place) =
      let one = placed some place in
      ⊎_elim
      (λ (h : suc one.rest < plan.length). record {
        number = one.number;
        rest = suc one.rest;
        small = h;
        is = omega (arith, one.is);
      })
      (λ (h : plan.length ≤ suc one.rest). record {
        number = suc one.number;
        rest = 0;
        small = omega (arith, some);
        is = omega (arith, one.is, one.small, next_row one.number plan.length, h);
      })
      (cases_lt (suc one.rest) plan.length)

  -- of places before so many parts
  pub spot_below : 1 ≤ plan.length → (p number : ℕ) → p < number * plan.length → (spot_at plan p).number < number
  spot_below some p number less =
      let one = placed some p in
      let is : (spot_at plan p).number ≡ one.number =
      ap (λ q. (spot_at plan q).number) one.is
      ∙ ap (λ (spot : Spot). spot.number) (spot_is one.number one.rest one.small) in
      let below = row_below one.number number plan.length one.rest (omega (arith, less, one.is)) in
      omega (arith, is, below)

  pub below_spot : 1 ≤ plan.length → (p number : ℕ) → (spot_at plan p).number < number → p < number * plan.length
  below_spot some p number less =
      let one = placed some p in
      let is : (spot_at plan p).number ≡ one.number =
      ap (λ q. (spot_at plan q).number) one.is
      ∙ ap (λ (spot : Spot). spot.number) (spot_is one.number one.rest one.small) in
      omega (
        arith,
        one.is,
        one.small,
        next_row one.number plan.length,
        more_rows (suc one.number) number plan.length (omega (arith, is, less)),
      )
