-- What is done to a word, and what that does to the names that it holds.
use Rattle.std.proofs.Common.{◌≡◌, ℕ, zero, suc, ◌+◌, ◌-◌, ◌*◌, ◌/◌, ◌%◌, ◌^◌, ◌==◌, ◌<◌, ◌≤◌, Bool, true, false}
use Rattle.std.proofs.Common.{cond, ◌&&◌, ◌||◌, refl, sym, ◌∙◌, ap, arith, nat_lt, bit_and, bit_or, min}
use mir.Syntax.{w128}
use Rattle.std.proofs.lemmas.Bool.{ltb-true, and_parts, lt-ltb, le-ltb, eqb-true, eqb-false, eq-eqb, ltb-true}
use Rattle.std.proofs.lemmas.Nat.{and_mask, ones_cat, pow_pos}
use Rattle.std.proofs.lemmas.Nat.Bits.{bit_at-lt, bit_at_and, bit_at_set_same, bit_at_set_other, bit_at-zero, ones_shr}
use Rattle.std.proofs.Math.Nat.{mod-eq_of_lt, mod-lt}
use Rattle.std.specs.Int.{bit_at}
use Rattle.std.specs.Int.Count.{ones}
use Rattle.std.specs.Ordering.{nat_cmp}
use Rattle.std.specs.Cmp.{nat_cmp_total}
use Rattle.std.specs.FinSet as sets
use Rattle.quorum_sizes.specs.Sizes.{Counts, most_nodes}
use Rattle.quorum_sizes.specs.NodeSets.{nodes_among}
use Rattle.quorum_sizes.specs.inside.NodeWords.{has_bit, names_below, names_in, contains-names_below, bits_more}
use Rattle.quorum_sizes.proofs.NodeCounts.{len_below, same_names, contains-insert, contains-nodes_among}

contains-names_in : (word name : ℕ) → sets.contains (names_in word) name ≡ (nat_lt name most_nodes && has_bit word name)
contains-names_in word name = contains-names_below word most_nodes name

pub has_bit-names_in : (word name : ℕ) → name < most_nodes → has_bit word name ≡ sets.contains (names_in word) name
has_bit-names_in word name small =
    sym (contains-names_in word name ∙ ap (λ b. b && has_bit word name) (lt-ltb name most_nodes small))

-- No name.

pub names_in-zero : names_in 0 ≡ sets.empty
names_in-zero = same_names (names_in 0) sets.empty (λ name.
    contains-names_in 0 name
    ∙ and_nothing (nat_lt name most_nodes) (has_bit 0 name) (ap (λ b. b == 1) (bit_at-zero name))
    ∙ sym (sets.contains-empty nat_cmp name))
  where
    and_nothing : (a b : Bool) → b ≡ false → (a && b) ≡ false
    and_nothing a b e = grind arith

-- One more name.

abbrev with_bit : ℕ → ℕ → ℕ
with_bit word name = bit_or word (1 * 2 ^ name % 2 ^ most_nodes)

has_bit-with_bit : (word name k : ℕ) → name < most_nodes → has_bit (with_bit word name) k
    ≡ ((k == name) || has_bit word k)
has_bit-with_bit word name k small = at (k == name) refl
  where
    at : (b : Bool) → (k == name) ≡ b → has_bit (with_bit word name) k ≡ (b || has_bit word k)
    at true same =
        let e : k ≡ name = eqb-true k name same in
        ap (has_bit (with_bit word name)) e ∙ ap (λ b. b == 1) (bit_at_set_same w128 word name small)
    at false other = ap (λ b. b == 1) (bit_at_set_other w128 word name small k (eqb-false k name other))

pub names_in-with_bit : (word name : ℕ) → name < most_nodes → names_in (with_bit word name)
    ≡ sets.insert (names_in word) name
names_in-with_bit word name small =
    same_names (names_in (with_bit word name)) (sets.insert (names_in word) name) (λ k.
    contains-names_in (with_bit word name) k
    ∙ ap (λ b. nat_lt k most_nodes && b) (has_bit-with_bit word name k small)
    ∙ at k (k == name) refl
    ∙ ap (λ b. (k == name) || b) (sym (contains-names_in word k))
    ∙ sym (contains-insert (names_in word) name k))
  where
    at : (k : ℕ) (b : Bool) → (k == name) ≡ b
        → (nat_lt k most_nodes && ((k == name) || has_bit word k))
        ≡ ((k == name) || (nat_lt k most_nodes && has_bit word k))
    at k true same =
        let below : nat_lt k most_nodes ≡ true = ap (λ n. nat_lt n most_nodes) (eqb-true k name same)
        ∙ lt-ltb name most_nodes small in
        ap (λ b. b && ((k == name) || has_bit word k)) below
        ∙ ap (λ b. b || has_bit word k) same
        ∙ ap (λ b. b || (nat_lt k most_nodes && has_bit word k)) (sym same)
    at k false other =
        ap (λ b. nat_lt k most_nodes && (b || has_bit word k)) other
        ∙ ap (λ b. b || (nat_lt k most_nodes && has_bit word k)) (sym other)

-- The names of both.

has_bit-and : (a b k : ℕ) → has_bit (bit_and a b) k ≡ (has_bit a k && has_bit b k)
has_bit-and a b k =
    ap (λ n. n == 1) (bit_at_and a b k) ∙ least (bit_at a k) (bit_at b k) (bit_at-lt a k) (bit_at-lt b k)
  where
    least : (m n : ℕ) → m < 2 → n < 2 → (min m n == 1) ≡ ((m == 1) && (n == 1))
    least zero n p q =
        let e : min 0 n ≡ 0 = omega arith in
        ap (λ k. k == 1) e
    least (suc m) n p q =
        let one : suc m ≡ 1 = omega arith in
        let e : min (suc m) n ≡ n = omega arith in
        ap (λ k. k == 1) e ∙ ap (λ b. b && (n == 1)) (sym (eq-eqb (suc m) 1 one))

pub names_in-and : (a b : ℕ) → names_in (bit_and a b) ≡ sets.intersection (names_in a) (names_in b)
names_in-and a b =
    same_names (names_in (bit_and a b)) (sets.intersection (names_in a) (names_in b)) (λ k.
    contains-names_in (bit_and a b) k
    ∙ ap (λ v. nat_lt k most_nodes && v) (has_bit-and a b k)
    ∙ apart (nat_lt k most_nodes) (has_bit a k) (has_bit b k)
    ∙ (λ i. sym (contains-names_in a k) i && sym (contains-names_in b k) i)
    ∙ sym (sets.contains-intersection nat_cmp_total (names_in a) (names_in b) k))
  where
    apart : (x y z : Bool) → (x && (y && z)) ≡ ((x && y) && (x && z))
    apart true y z = refl
    apart false y z = refl

-- How many names.

len_also : (word n : ℕ) (b : Bool) → has_bit word n ≡ b
    → sets.len (names_below word n) ≡ ones (word % 2 ^ n)
    → sets.len (cond b (sets.insert (names_below word n) n) (names_below word n)) ≡ ones (word % 2 ^ suc n)
unfolding ones
len_also word n true set below =
    let rest = names_below word n in
    let new : sets.contains rest n ≡ false =
    contains-names_below word n n ∙ ap (λ b. b && has_bit word n) (le-ltb n n (omega arith)) in
    let bit : bit_at word n ≡ 1 = eqb-true (bit_at word n) 1 set in
    sets.len-insert nat_cmp_total rest n
    ∙ ap (λ b. cond b (sets.len rest) (sets.len rest + 1)) new
    ∙ ap (λ k. k + 1) below
    ∙ swap (ones (word % 2 ^ n))
    ∙ sym (ap ones (bits_more word n ∙ ap (λ b. b * 2 ^ n + word % 2 ^ n) bit)
    ∙ ones_cat n 1 (word % 2 ^ n) (mod-lt word (pow_pos n)))
  where
    swap : (k : ℕ) → k + 1 ≡ 1 + k
    swap k = omega arith
len_also word n false unset below =
    let bit : bit_at word n ≡ 0 = omega (arith, eqb-false (bit_at word n) 1 unset, bit_at-lt word n) in
    below
    ∙ nothing (ones (word % 2 ^ n))
    ∙ sym (ap ones (bits_more word n ∙ ap (λ b. b * 2 ^ n + word % 2 ^ n) bit)
    ∙ ones_cat n 0 (word % 2 ^ n) (mod-lt word (pow_pos n)))
  where
    nothing : (k : ℕ) → k ≡ 0 + k
    nothing k = omega arith

len-names_below : (word n : ℕ) → sets.len (names_below word n) ≡ ones (word % 2 ^ n)
unfolding names_below ones
len-names_below word zero =
    let none : 0 ≡ word % 2 ^ 0 = omega arith in
    sets.len-empty nat_cmp ∙ ap ones none
len-names_below word (suc n) = len_also word n (has_bit word n) refl (len-names_below word n)

pub len-names_in : (word : ℕ) → word < 2 ^ most_nodes → ones word ≡ sets.len (names_in word)
len-names_in word small =
    ap ones (sym (mod-eq_of_lt small)) ∙ sym (len-names_below word most_nodes)

-- How many nodes of these sizes.

names_below-among : (s : Counts) (word : ℕ) → s.nodes ≤ most_nodes → names_below word s.nodes
    ≡ nodes_among s (names_in word)
names_below-among s word few =
    same_names (names_below word s.nodes) (nodes_among s (names_in word)) (λ k.
    contains-names_below word s.nodes k
    ∙ at k (nat_lt k s.nodes) refl
    ∙ ap (λ b. b && nat_lt k s.nodes) (sym (contains-names_in word k))
    ∙ sym (contains-nodes_among s (names_in word) k))
  where
    and_false : (a : Bool) → false ≡ (a && false)
    and_false a = grind arith

    and_true : (a : Bool) → a ≡ ((true && a) && true)
    and_true a = grind arith

    at : (k : ℕ) (b : Bool) → nat_lt k s.nodes ≡ b
        → (nat_lt k s.nodes && has_bit word k) ≡ ((nat_lt k most_nodes && has_bit word k) && nat_lt k s.nodes)
    at k true inside =
        let below : k < s.nodes = ltb-true k s.nodes inside in
        ap (λ b. b && has_bit word k) inside
        ∙ and_true (has_bit word k)
        ∙ sym (λ i. (lt-ltb k most_nodes (omega arith) i && has_bit word k) && inside i)
    at k false outside =
        ap (λ b. b && has_bit word k) outside
        ∙ and_false (nat_lt k most_nodes && has_bit word k)
        ∙ ap (λ b. (nat_lt k most_nodes && has_bit word k) && b) (sym outside)

pub len-among : (s : Counts) (word n : ℕ) → s.nodes ≤ most_nodes → n ≡ s.nodes
    → ones (bit_and word ((2 ^ most_nodes - 1) / 2 ^ (most_nodes - n))) ≡ sets.len (nodes_among s (names_in word))
len-among s word n few same =
    let left : most_nodes - (most_nodes - s.nodes) ≡ s.nodes = omega arith in
    ap (λ n. ones (bit_and word ((2 ^ most_nodes - 1) / 2 ^ (most_nodes - n)))) same
    ∙ ap (λ mask. ones (bit_and word mask)) (ones_shr most_nodes (most_nodes - s.nodes) (omega arith))
    ∙ ap (λ n. ones (bit_and word (2 ^ n - 1))) left
    ∙ ap ones (and_mask word s.nodes)
    ∙ sym (len-names_below word s.nodes)
    ∙ ap sets.len (names_below-among s word few)

-- a word holds no more names than there may be nodes
pub len-most : (word : ℕ) → sets.len (names_in word) ≤ most_nodes
len-most word =
    len_below most_nodes (names_in word) (λ name has.
    ltb-true name most_nodes
    (and_parts (nat_lt name most_nodes) (has_bit word name) (sym (contains-names_in word name) ∙ has)).0)
