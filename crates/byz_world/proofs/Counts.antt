-- How many nodes there are beside the liars.
use Rattle.std.proofs.Common.{◌≡◌, ℕ, zero, suc, ◌+◌, ◌<◌, ◌≤◌, Bool, true, false}
use Rattle.std.proofs.Common.{cond, ◌&&◌, nat_lt, refl, sym, ap, ◌∙◌, arith, ltb-true}
use Rattle.std.specs.FinSet as sets
use Rattle.std.proofs.lemmas.Bool.{and_parts, lt-ltb}
use Rattle.quorum_sizes.specs.Sizes.{Counts}
use Rattle.quorum_sizes.specs.NodeSets.{Nodes, AreNodes, nodes_among}
use Rattle.quorum_sizes.proofs.Exported.{contains-nodes_among, count, len-count}

abbrev all : ℕ → Bool
all k = true

abbrev none : ℕ → Bool
none k = false

one_covered : (a b c : Bool) (x y z : ℕ) → (a ≡ true → c ≡ false → b ≡ true) → x ≤ y + z →
    cond a (suc x) x ≤ cond b (suc y) y + cond c (suc z) z
one_covered false true true x y z covers h = omega arith
one_covered false true false x y z covers h = omega arith
one_covered false false true x y z covers h = omega arith
one_covered false false false x y z covers h = h
one_covered true true true x y z covers h = omega arith
one_covered true true false x y z covers h = omega arith
one_covered true false true x y z covers h = omega arith
one_covered true false false x y z covers h = absurd (let clash = covers refl refl in cc)

-- what passes the first test passes the second or the third
covered : (p q r : ℕ → Bool) (n : ℕ) → ((k : ℕ) → k < n → p k ≡ true → r k ≡ false → q k ≡ true)
    → count p n ≤ count q n + count r n
covered p q r zero covers = omega arith
covered p q r (suc n) covers =
    one_covered (p n) (q n) (r n) (count p n) (count q n) (count r n) (covers n (omega arith))
    (covered p q r n (λ k h. covers k (omega arith)))

none_count : (n : ℕ) → count (λ k. false) n ≡ 0
none_count zero = refl
none_count (suc n) = none_count n

-- a set within another has no more
pub len_within : (s : Counts) (a b : Nodes) → AreNodes s a → AreNodes s b →
    ((name : ℕ) → sets.contains a name ≡ true → sets.contains b name ≡ true) → sets.len a ≤ sets.len b
len_within s a b are_a are_b covers =
    let a_len = len-count s.nodes a are_a in
    let b_len = len-count s.nodes b are_b in
    let h = covered (sets.contains a) (sets.contains b) none s.nodes (λ k within is _. covers k is) in
    omega (arith, a_len, b_len, h, none_count s.nodes)

all_count : (n : ℕ) → count (λ k. true) n ≡ n
all_count zero = refl
all_count (suc n) = ap suc (all_count n)

module _ (s : Counts) (liars : Nodes) where
  are_among : AreNodes s (nodes_among s liars)
  are_among name is = ltb-true name s.nodes (and_parts _ _ (sym (contains-nodes_among s liars name) ∙ is)).1

  honest : (name : ℕ) → name < s.nodes → sets.contains (nodes_among s liars) name ≡ false
      → sets.contains liars name ≡ false
  honest name within is =
      only_if (sets.contains liars name) (nat_lt name s.nodes) (lt-ltb name s.nodes within)
      (sym (contains-nodes_among s liars name) ∙ is)
    where
      only_if : (a b : Bool) → b ≡ true → (a && b) ≡ false → a ≡ false
      only_if false b e f = refl
      only_if true b e f = absurd cc

  -- a set that has each node of another that does not lie has as many but for the liars
  pub len_covered : (a b : Nodes) → AreNodes s a → AreNodes s b →
      ((name : ℕ) → sets.contains a name ≡ true → sets.contains liars name ≡ false → sets.contains b name ≡ true) →
      sets.len a ≤ sets.len b + sets.len (nodes_among s liars)
  len_covered a b are_a are_b covers =
      let a_len = len-count s.nodes a are_a in
      let b_len = len-count s.nodes b are_b in
      let l_len = len-count s.nodes (nodes_among s liars) are_among in
      let h = covered (sets.contains a) (sets.contains b) (sets.contains (nodes_among s liars)) s.nodes
      (λ k within is not_among. covers k is (honest k within not_among)) in
      omega (arith, a_len, b_len, l_len, h)

  -- a set that has each node that does not lie has all but the liars
  pub len_all : (b : Nodes) → AreNodes s b →
      ((name : ℕ) → name < s.nodes → sets.contains liars name ≡ false → sets.contains b name ≡ true) →
      s.nodes ≤ sets.len b + sets.len (nodes_among s liars)
  len_all b are_b covers =
      let b_len = len-count s.nodes b are_b in
      let l_len = len-count s.nodes (nodes_among s liars) are_among in
      let h = covered all (sets.contains b) (sets.contains (nodes_among s liars)) s.nodes
      (λ k within _ not_among. covers k within (honest k within not_among)) in
      omega (arith, b_len, l_len, h, all_count s.nodes)
