-- How many names sets of nodes have, by counting the nodes one by one.
use Rattle.std.proofs.Common.{◌≡◌, ℕ, zero, suc, ◌+◌, ◌==◌, ◌<◌, ◌≤◌, Bool, true, false, cond}
use Rattle.std.proofs.Common.{not, ◌&&◌, ◌||◌, IsTrue, refl, sym, ◌∙◌, ap, arith, nat_lt}
use Rattle.std.proofs.lemmas.Bool.{ltb-true, lt-ltb, eqb-true, eqb-false, eq-eqb}
use Rattle.std.proofs.lemmas.Bool.{ne_eqb, and_parts, not-true, true≢false}
use Rattle.std.specs.Ordering.{nat_cmp, is_eq}
use Rattle.std.specs.declared.cmp.Ordering.TheVariants.{Equal}
use Rattle.std.specs.Cmp.{nat_cmp_total, unsigned_tied}
use Rattle.std.specs.FinSet as sets
use Rattle.quorum_sizes.specs.Sizes.{Counts, AreSizes, echo_quorum_of}
use Rattle.quorum_sizes.specs.NodeSets.{Nodes, AreNodes, nodes_among}

-- Sets by what they contain.

pub same_names : (a b : Nodes) → ((name : ℕ) → sets.contains a name ≡ sets.contains b name) → a ≡ b
same_names a b = sets.same_set nat_cmp_total sets.nat_cmp-IsAntisymmetric a b

pub contains-insert : (names : Nodes) (k name : ℕ)
    → sets.contains (sets.insert names k) name ≡ ((name == k) || sets.contains names name)
contains-insert names k name =
    sets.contains-insert nat_cmp_total names k name ∙ ap (λ b. b || sets.contains names name) (unsigned_tied name k)

contains-remove : (names : Nodes) (k name : ℕ)
    → sets.contains (sets.remove names k) name ≡ (not (name == k) && sets.contains names name)
contains-remove names k name =
    sets.contains-remove nat_cmp_total names k name ∙ ap (λ b. not b && sets.contains names name) (unsigned_tied name k)

same_number : (name x : ℕ) → nat_cmp name x ≡ Equal → x ≡ name
same_number name x tie = sym (eqb-true name x (sym (unsigned_tied name x) ∙ ap is_eq tie))

pub contains-nodes_among : (s : Counts) (names : Nodes) (name : ℕ)
    → sets.contains (nodes_among s names) name ≡ (sets.contains names name && nat_lt name s.nodes)
contains-nodes_among s names name =
    sets.contains-retain names (λ k. nat_lt k s.nodes) name (λ x tie.
    ap (λ k. nat_lt k s.nodes) (same_number name x tie))

-- How many numbers below n pass.

abbrev pub count : (ℕ → Bool) → ℕ → ℕ
count p zero = 0
count p (suc n) = cond (p n) (suc (count p n)) (count p n)

count-alike : (p q : ℕ → Bool) (n : ℕ) → ((k : ℕ) → k < n → p k ≡ q k) → count p n ≡ count q n
count-alike p q zero alike = refl
count-alike p q (suc n) alike =
    let here : p n ≡ q n = alike n (omega arith) in
    let below : count p n ≡ count q n = count-alike p q n (λ k h. alike k (omega arith)) in
    λ i. cond (here i) (suc (below i)) (below i)

-- what two tests pass is all numbers at most, but for those that both pass
count-both : (p q : ℕ → Bool) (n : ℕ) → count p n + count q n ≤ n + count (λ k. p k && q k) n
count-both p q zero = omega arith
count-both p q (suc n) =
    let below : count p n + count q n ≤ n + count (λ k. p k && q k) n = count-both p q n in
    let goal : Bool → Bool → Type 0 =
    λ a b. cond a (suc (count p n)) (count p n) + cond b (suc (count q n)) (count q n)
    ≤ suc n + cond (a && b) (suc (count (λ k. p k && q k) n)) (count (λ k. p k && q k) n) in
    elim (p n) as (λ a. goal a (q n)) [
      | true ↦ elim (q n) as (λ b. goal true b) [ true ↦ omega arith | false ↦ omega arith ]
      | false ↦ elim (q n) as (λ b. goal false b) [ true ↦ omega arith | false ↦ omega arith ]
    ]

abbrev OneMore : (ℕ → Bool) → (ℕ → Bool) → ℕ → Type 0
OneMore p q n = (k : ℕ) × (k < n) × (p k ≡ true) × (q k ≡ false)

-- what more numbers pass than another test, one passes that the other does not
one_more : (p q : ℕ → Bool) (n : ℕ) → count q n < count p n → OneMore p q n
one_more p q zero more = absurd (omega arith)
one_more p q (suc n) more =
    at_last p q n (p n) (q n) refl refl more (one_more p q n)
  where
    at_last : (p q : ℕ → Bool) (n : ℕ) (a b : Bool) → p n ≡ a → q n ≡ b
        → cond b (suc (count q n)) (count q n) < cond a (suc (count p n)) (count p n)
        → (count q n < count p n → OneMore p q n) → OneMore p q (suc n)
    at_last p q n true false pn qn more below = (n, omega arith, pn, qn)
    at_last p q n true true pn qn more below =
        let found = below (omega arith) in (found.0, omega arith, found.2, found.3)
    at_last p q n false b pn qn more below =
        let found = below (elim b as (λ v. cond v (suc (count q n)) (count q n) < count p n → count q n < count p n) [
          | true ↦ λ h. omega arith
          | false ↦ λ h. h
        ] more) in
        (found.0, omega arith, found.2, found.3)

-- Sets of numbers below n.

abbrev AreBelow : ℕ → Nodes → Type 0
AreBelow n names = (name : ℕ) → sets.contains names name ≡ true → name < n

none_below : (names : Nodes) → AreBelow 0 names → names ≡ sets.empty
none_below names below =
    same_names names sets.empty
    (λ name. none (sets.contains names name) (below name) ∙ sym (sets.contains-empty nat_cmp name))
  where
    none : (b : Bool) {name : ℕ} → (b ≡ true → name < 0) → b ≡ false
    none true below = absurd (omega (arith, below refl))
    none false below = refl

insert-remove : (names : Nodes) (k : ℕ) → sets.contains names k ≡ true → names ≡ sets.insert (sets.remove names k) k
insert-remove names k has =
    same_names names (sets.insert (sets.remove names k) k) (λ name.
    at name (name == k) refl
    ∙ sym (contains-insert (sets.remove names k) k name
    ∙ ap (λ b. (name == k) || b) (contains-remove names k name)))
  where
    at : (name : ℕ) (b : Bool) → (name == k) ≡ b
        → sets.contains names name ≡ ((name == k) || (not (name == k) && sets.contains names name))
    at name true same = ap (sets.contains names) (eqb-true name k same) ∙ has
        ∙ ap (λ b. b || (not b && sets.contains names name)) (sym same)
    at name false other = ap (λ b. b || (not b && sets.contains names name)) (sym other)

pub len-count : (n : ℕ) (names : Nodes) → AreBelow n names → sets.len names ≡ count (sets.contains names) n
len-count zero names below = ap sets.len (none_below names below) ∙ sets.len-empty nat_cmp
len-count (suc n) names below = at_last n names below (sets.contains names n) refl (len-count n)
  where
    more : (k : ℕ) → k + 1 ≡ suc k
    more k = omega arith

    smaller : (n name : ℕ) → name < suc n → (name ≡ n → ⊥) → name < n
    smaller n name h other = omega (arith, other)

    at_last : (n : ℕ) (names : Nodes) → AreBelow (suc n) names → (b : Bool) → sets.contains names n ≡ b
        → ((m : Nodes) → AreBelow n m → sets.len m ≡ count (sets.contains m) n)
        → sets.len names ≡ cond (sets.contains names n) (suc (count (sets.contains names) n))
        (count (sets.contains names) n)
    at_last n names below true has rest =
        let others = sets.remove names n in
        let others_below : AreBelow n others = λ name h.
        let both = and_parts (not (name == n)) (sets.contains names name) (sym (contains-remove names n name) ∙ h) in
        let other : name ≡ n → ⊥ = eqb-false name n (not-true (name == n) both.0) in
        omega (arith, below name both.1, other) in
        let gone : sets.contains others n ≡ false =
        contains-remove names n n ∙ ap (λ b. not b && sets.contains names n) (eq-eqb n n refl) in
        let alike : count (sets.contains others) n ≡ count (sets.contains names) n =
        count-alike (sets.contains others) (sets.contains names) n (λ k h.
        contains-remove names n k ∙ ap (λ b. not b && sets.contains names k) (ne_eqb k n (λ e. omega arith))) in
        ap sets.len (insert-remove names n has)
        ∙ sets.len-insert nat_cmp_total others n
        ∙ ap (λ b. cond b (sets.len others) (sets.len others + 1)) gone
        ∙ ap (λ m. m + 1) (rest others others_below ∙ alike)
        ∙ more (count (sets.contains names) n)
        ∙ ap (λ b. cond b (suc (count (sets.contains names) n)) (count (sets.contains names) n)) (sym has)
    at_last n names below false lacks rest =
        rest names (λ name h. smaller n name (below name h)
        (λ e. true≢false (sym h ∙ ap (sets.contains names) e ∙ lacks)))
        ∙ ap (λ b. cond b (suc (count (sets.contains names) n)) (count (sets.contains names) n)) (sym lacks)

-- a count is of n at most
pub count-most : (p : ℕ → Bool) (n : ℕ) → count p n ≤ n
count-most p zero = omega arith
count-most p (suc n) =
    let below = count-most p n in
    elim (p n) as (λ b. cond b (suc (count p n)) (count p n) ≤ suc n) [ true ↦ omega arith | false ↦ omega arith ]

-- there are no more numbers below n than n
pub len_below : (n : ℕ) (names : Nodes) → AreBelow n names → sets.len names ≤ n
len_below n names below = omega (arith, len-count n names below, count-most (sets.contains names) n)

-- Two quorums of echoes.

pub quorums_share : (s : Counts) → AreSizes s → (a b : Nodes) → AreNodes s a → AreNodes s b
    → echo_quorum_of s ≤ sets.len a → echo_quorum_of s ≤ sets.len b → s.liars < sets.len (sets.intersection a b)
quorums_share s sizes a b are_a are_b many_a many_b =
    let common = sets.intersection a b in
    let each : (name : ℕ) → sets.contains common name ≡ (sets.contains a name && sets.contains b name) =
    sets.contains-intersection nat_cmp_total a b in
    let a_len = len-count s.nodes a are_a in
    let b_len = len-count s.nodes b are_b in
    let both = count-both (sets.contains a) (sets.contains b) s.nodes in
    let common_len : sets.len common ≡ count (λ k. sets.contains a k && sets.contains b k) s.nodes =
    len-count s.nodes common (λ name has. are_a name (left _ _ (sym (each name) ∙ has)))
    ∙ count-alike (sets.contains common) _ s.nodes (λ k h. each k) in
    omega (arith, a_len, b_len, both, common_len)
  where
    left : (a b : Bool) → (a && b) ≡ true → a ≡ true
    left true b both = refl
    left false b both = both

-- among more nodes than may lie one does not
pub one_is_correct : (s : Counts) (names liars : Nodes) → AreNodes s names → s.liars < sets.len names
    → sets.len (nodes_among s liars) ≤ s.liars
    → (name : ℕ) × (name < s.nodes) × IsTrue (sets.contains names name) × (sets.contains liars name ≡ false)
one_is_correct s names liars are many few =
    let among = nodes_among s liars in
    let each : (name : ℕ) → sets.contains among name ≡ (sets.contains liars name && nat_lt name s.nodes) =
    contains-nodes_among s liars in
    let names_len = len-count s.nodes names are in
    let among_len = len-count s.nodes among (λ name has.
    ltb-true name s.nodes (and_parts (sets.contains liars name) _ (sym (each name) ∙ has)).1) in
    let found : OneMore (sets.contains names) (sets.contains among) s.nodes =
    one_more (sets.contains names) (sets.contains among) s.nodes (omega (arith, names_len, among_len)) in (
      found.0,
      found.1,
      found.2,
      sym (and-true (sets.contains liars found.0) (nat_lt found.0 s.nodes) (lt-ltb found.0 s.nodes found.1))
          ∙ sym (each found.0) ∙ found.3,
    )
  where
    and-true : (a b : Bool) → b ≡ true → (a && b) ≡ a
    and-true a b e = grind arith
