-- The roles of a head are digits, and not too many.
use Rattle.std.proofs.Common.{◌≡◌, ℕ, zero, suc, ◌+◌, ◌-◌, ◌*◌, ◌<◌, ◌≤◌, false, cond}
use Rattle.std.proofs.Common.{Option, Some, None, [], ◌++◌, length, refl, ap, ◌∙◌, arith}
use Rattle.std.proofs.Common.{add-one, append-nil, length-append}
use Rattle.std.specs.Prelude.{is_some, ◌==◌}
use Rattle.std.specs.Cmp.{nat_cmp_total, unsigned_tied}
use Rattle.std.specs.FinMap as map
use Rattle.std.specs.FinMap.{FinMap, get-remove, len-remove, get-empty, empty_of_len}
use Rattle.std.specs.Ordering.{nat_cmp}
use Rattle.std.proofs.lemmas.Bool.Decides.{nat_tests}
use Rattle.role_commands.specs.Tables.{Table, IsTable}
use Rattle.batch_journal.specs.Digits.{digits_of, AreDigits}
use Rattle.kept_node.specs.NodeHeads.{roles_below, role_digits}
use Rattle.kept_node.proofs.DigitLemmas.{length-digits_of, digits-digits_of, digits-append}

pub below_more : (t : Table) (n : ℕ) → roles_below t (n + 1) ≡ roles_below t n ++ role_digits n (map.get t.owners n)
unfolding roles_below
below_more t n = rw add-one refl

pub below_none : (t : Table) → roles_below t 0 ≡ []
unfolding roles_below
below_none t = refl

role_are_digits : (n : ℕ) (o : Option ℕ) → AreDigits (role_digits n o)
role_are_digits n None = refl
role_are_digits n (Some owner) =
    digits-append (digits_of 3 n) (digits_of 2 owner) (digits-digits_of 3 n) (digits-digits_of 2 owner)

pub below_digits : (t : Table) (n : ℕ) → AreDigits (roles_below t n)
unfolding roles_below
below_digits t zero = refl
below_digits t (suc n) =
    digits-append (roles_below t n) (role_digits n (map.get t.owners n)) (below_digits t n)
    (role_are_digits n (map.get t.owners n))

-- the table without a role
abbrev without : Table → ℕ → Table
without t role = record { sizes = t.sizes; owners = map.remove t.owners role }

role_length : (n owner : ℕ) → length (role_digits n (Some owner)) ≡ 5
role_length n owner =
    omega (arith, length-append (digits_of 3 n) (digits_of 2 owner), length-digits_of 3 n, length-digits_of 2 owner)

other_role : (t : Table) (role n : ℕ) → n < role → map.get (map.remove t.owners role) n ≡ map.get t.owners n
other_role t role n h =
    let apart : (n == role) ≡ false = grind (arith, nat_tests) in
    get-remove nat_cmp_total t.owners role n ∙ ap (λ b. cond b None (map.get t.owners n)) (unsigned_tied n role ∙ apart)

-- what is not below a role doesn't count
below_without : (t : Table) (role n : ℕ) → n ≤ role → roles_below (without t role) n ≡ roles_below t n
unfolding roles_below
below_without t role zero h = refl
below_without t role (suc n) h =
    let less : n ≤ role = omega arith in
    let before = below_without t role n less in
    let other = other_role t role n (omega arith) in
    λ i. before i ++ role_digits n (other i)

-- a table with a role has one more than without it
one_more : (t : Table) (role owner : ℕ) → map.get t.owners role ≡ Some owner →
    map.len (without t role).owners + 1 ≡ map.len t.owners
one_more t role owner some = go (map.len t.owners) refl
  where
    less : map.len (map.remove t.owners role) ≡ map.len t.owners - 1
    less = len-remove nat_cmp_total t.owners role
        ∙ ap (λ (o : Option ℕ). cond (is_some o) (map.len t.owners - 1) (map.len t.owners)) some

    go : (n : ℕ) → map.len t.owners ≡ n → map.len (map.remove t.owners role) + 1 ≡ map.len t.owners
    go zero none =
        let absent : map.get t.owners role ≡ None =
        ap (λ (m : FinMap nat_cmp ℕ). map.get m role) (empty_of_len t.owners none) ∙ get-empty nat_cmp role in
        absurd cc
    go (suc n) e = omega (arith, less)

below_length : (n : ℕ) (t : Table) → length (roles_below t n) ≤ 5 * map.len t.owners
unfolding roles_below
below_length zero t = omega arith
below_length (suc n) t = go (below_length n) (map.get t.owners n) refl
  where
    go : ((u : Table) → length (roles_below u n) ≤ 5 * map.len u.owners) → (o : Option ℕ) →
        map.get t.owners n ≡ o → length (roles_below t n ++ role_digits n o) ≤ 5 * map.len t.owners
    go before None none = rw append-nil (before t)
    go before (Some owner) some =
        let same = ap length (below_without t n n (omega arith)) in
        omega (
          arith,
          before (without t n),
          same,
          one_more t n owner some,
          role_length n owner,
          length-append (roles_below t n) (role_digits n (Some owner)),
        )

pub below_few : (t : Table) (n : ℕ) → IsTable t → length (roles_below t n) ≤ 100000
below_few t n h = omega (arith, h.1, below_length n t)
