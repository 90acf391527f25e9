-- How a word holds a set of names. Serves the code, and no public contract.
use Rattle.std.specs.Prelude.{◌≡◌, ℕ, zero, suc, ◌+◌, ◌*◌, ◌/◌, ◌%◌, ◌^◌, ◌<◌, ◌==◌}
use Rattle.std.specs.Prelude.{Bool, true, false, ◌&&◌, ◌||◌, nat_lt, if◌then◌else◌, refl}
use Rattle.std.specs.Int.{bit_at}
use Rattle.std.specs.Ordering.{nat_cmp}
use Rattle.std.specs.Cmp.{nat_cmp_total, unsigned_tied}
use Rattle.std.specs.FinSet as sets
use Rattle.std.proofs.Common.{ap, ◌∙◌, sym, arith, cond}
use Rattle.std.proofs.lemmas.Bool.{eqb-true, eqb-false, le-ltb, lt-ltb}
use Rattle.std.proofs.lemmas.Bool.Decides.{nat_tests}
use Rattle.std.proofs.lemmas.Nat.{mod-pow-add}
use Rattle.std.proofs.lemmas.Nat.Bits.{bit_at-lt}
use Rattle.std.proofs.Math.Nat.{mod-eq_of_lt}
use Rattle.quorum_sizes.specs.Sizes.{most_nodes}
use Rattle.quorum_sizes.specs.NodeSets.{Nodes}

-- the name's bit is set
abbrev pub has_bit : ℕ → ℕ → Bool
has_bit word name = bit_at word name == 1

-- the names below n whose bit is set
unfoldable pub names_below : ℕ → ℕ → Nodes
names_below word zero = sets.empty
names_below word (suc n) =
    if has_bit word n then sets.insert (names_below word n) n else names_below word n

-- the names that a word holds, one bit each
abbrev pub names_in : ℕ → Nodes
names_in word = names_below word most_nodes

-- the word of the names below n
unfoldable pub word_below : Nodes → ℕ → ℕ
word_below names zero = 0
word_below names (suc n) = (if sets.contains names n then 2 ^ n else 0) + word_below names n

-- the word of a set of names
abbrev pub word_of : Nodes → ℕ
word_of names = word_below names most_nodes

-- What `Copy` asks for: a word is that of its names.

one_more : (name n : ℕ) → (name == n) ≡ false → nat_lt name (suc n) ≡ nat_lt name n
one_more name n other = grind (arith, nat_tests)

and_false : (a b c : Bool) → c ≡ false → (a && c) ≡ (b && c)
and_false a b c e = grind arith

contains_also : (word n name : ℕ) (rest : Nodes) (b : Bool) → has_bit word n ≡ b
    → sets.contains rest name ≡ (nat_lt name n && has_bit word name)
    → sets.contains (cond b (sets.insert rest n) rest) name ≡ (nat_lt name (suc n) && has_bit word name)
contains_also word n name rest true here below =
    sets.contains-insert nat_cmp_total rest n name
    ∙ ap (λ b. b || sets.contains rest name) (unsigned_tied name n)
    ∙ ap (λ b. (name == n) || b) below
    ∙ at (name == n) refl
  where
    at : (b : Bool) → (name == n) ≡ b
        → (b || (nat_lt name n && has_bit word name)) ≡ (nat_lt name (suc n) && has_bit word name)
    at true same =
        let e : name ≡ n = eqb-true name n same in
        sym (λ i. lt-ltb name (suc n) (omega arith) i && (ap (has_bit word) e ∙ here) i)
    at false other = ap (λ b. b && has_bit word name) (sym (one_more name n other))
contains_also word n name rest false here below = below ∙ at (name == n) refl
  where
    at : (b : Bool) → (name == n) ≡ b
        → (nat_lt name n && has_bit word name) ≡ (nat_lt name (suc n) && has_bit word name)
    at true same =
        let e : has_bit word name ≡ false = ap (has_bit word) (eqb-true name n same) ∙ here in
        and_false (nat_lt name n) (nat_lt name (suc n)) (has_bit word name) e
    at false other = ap (λ b. b && has_bit word name) (sym (one_more name n other))

pub contains-names_below : (word n name : ℕ)
    → sets.contains (names_below word n) name ≡ (nat_lt name n && has_bit word name)
unfolding names_below
contains-names_below word zero name =
    sets.contains-empty nat_cmp name ∙ ap (λ b. b && has_bit word name) (sym (le-ltb name 0 (omega arith)))
contains-names_below word (suc n) name =
    contains_also word n name (names_below word n) (has_bit word n) refl (contains-names_below word n name)

-- one more of the lowest bits of a word
pub bits_more : (word n : ℕ) → word % 2 ^ suc n ≡ (word / 2 ^ n % 2) * 2 ^ n + word % 2 ^ n
bits_more word n = ap (λ k. word % 2 ^ k) (one_and n) ∙ mod-pow-add word 1 n
  where
    one_and : (n : ℕ) → suc n ≡ 1 + n
    one_and n = omega arith

one_bit_more : (word n : ℕ) (b : Bool) → has_bit word n ≡ b → cond b (2 ^ n) 0 + word % 2 ^ n ≡ word % 2 ^ suc n
one_bit_more word n true set =
    let e : bit_at word n ≡ 1 = eqb-true (bit_at word n) 1 set in
    sym (bits_more word n ∙ ap (λ b. b * 2 ^ n + word % 2 ^ n) e ∙ omega arith)
one_bit_more word n false unset =
    let e : bit_at word n ≡ 0 = omega (arith, eqb-false (bit_at word n) 1 unset, bit_at-lt word n) in
    sym (bits_more word n ∙ ap (λ b. b * 2 ^ n + word % 2 ^ n) e ∙ omega arith)

pub word_below-alike : (word n : ℕ) (names : Nodes)
    → ((k : ℕ) → k < n → sets.contains names k ≡ has_bit word k) → word_below names n ≡ word % 2 ^ n
unfolding word_below
word_below-alike word zero names alike = omega arith
word_below-alike word (suc n) names alike =
    ap (λ low. cond (sets.contains names n) (2 ^ n) 0 + low)
    (word_below-alike word n names (λ k h. alike k (omega arith)))
    ∙ one_bit_more word n (sets.contains names n) (sym (alike n (omega arith)))

pub word_of-names_in : (word : ℕ) → word < 2 ^ most_nodes → word_of (names_in word) ≡ word
word_of-names_in word small =
    word_below-alike word most_nodes (names_in word)
    (λ k h. contains-names_below word most_nodes k ∙ ap (λ b. b && has_bit word k) (lt-ltb k most_nodes h))
    ∙ mod-eq_of_lt small
