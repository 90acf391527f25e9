-- A table's entries, as a `BTreeMap` keeps them, are a finite map.
use Rattle.std.proofs.Common.{◌≡◌, ℕ, ◌+◌, ◌<◌, ◌≤◌, Bool, true, false, cond, nat_le, nat_lt, if◌then◌else◌, List}
use Rattle.std.proofs.Common.{[], ◌∷◌, length, Option, Some, None, is_some, IfSome, sym, refl, ap, ◌∙◌, arith}
use Rattle.std.proofs.Common.{◌&&◌, T, subst}
use Rattle.std.proofs.lemmas.Bool.Decides.{nat_tests}
use Rattle.std.proofs.lemmas.Option.{cond_some}
use Rattle.std.proofs.lemmas.Map.Keys.{IsDistinct-from_sorted}
use Rattle.std.proofs.lemmas.Map.Lookups.{btree_map_from_get, exact_unsigned}
use Rattle.std.proofs.lemmas.Map.Made.{update_all_distinct}
use Rattle.std.specs.Option.{option_or}
use Rattle.std.specs.BTreeMap as tree
use Rattle.std.specs.BTreeMap.{BTreeMap, is_at}
use Rattle.std.specs.Cmp.{nat_cmp_total, eq_by_cmp_equiv}
use Rattle.std.specs.FinMap as map
use Rattle.std.specs.FinMap.{find, is_sorted, get-from_entries, get-from_sorted, entries-from_sorted, get-insert}
use Rattle.std.specs.FinMap.{len-insert}
use Rattle.std.specs.FinMap.Entries.{below_all}
use Rattle.std.specs.List.{AllByRecursion}
use Rattle.std.specs.List.Sorted.{IsStrictlySortedBy}
use Rattle.std.specs.declared.cmp.Ordering.TheVariants.{Less}
use Rattle.std.specs.FinMap.{get-empty, len-empty, same_map, nat_cmp-IsAntisymmetric}
use Rattle.std.specs.Map.{lookup, keys_of}
use Rattle.std.specs.Ordering.{nat_cmp, eq_by_cmp, is_lt}
use Rattle.quorum_sizes.specs.Sizes.{Counts, name_due}
use Rattle.role_commands.specs.Tables.{Table, AreEntries, table_of, with_role, most_roles}
use Rattle.role_commands.specs.TableFaults.{add_due}
use Rattle.role_commands.specs.declared.table.TableFault.TheVariants.{Repeated, TooManyRoles}

abbrev owner_in : List (ℕ × ℕ) → ℕ → Option ℕ
owner_in es role = lookup (is_at (nat_cmp role)) es

find-lookup : (q : ℕ) (es : List (ℕ × ℕ)) → find nat_cmp q es ≡ owner_in es q
find-lookup q [] = refl
find-lookup q (e ∷ es) = ap (cond (eq_by_cmp nat_cmp q e.0) (Some e.1)) (find-lookup q es)

pub get-entries : (es : List (ℕ × ℕ)) (q : ℕ) → map.get (map.from_entries {R = nat_cmp} es) q ≡ owner_in es q
get-entries es q = get-from_entries nat_cmp_total es q ∙ find-lookup q es

-- to insert into the tree is to insert into the map
pub from_entries-insert : (m n : BTreeMap ℕ ℕ) (k v : ℕ) → tree.Updates nat_cmp m n k (Some v)
    → map.from_entries {R = nat_cmp} n.entries ≡ map.insert (map.from_entries m.entries) k v
from_entries-insert m n k v updates =
    same_map nat_cmp_total nat_cmp-IsAntisymmetric _ _ (λ q.
    get-entries n.entries q ∙ updates.0 q
    ∙ ap (λ b. cond b (Some v) (tree.get nat_cmp m q)) ((eq_by_cmp_equiv nat_cmp_total).symm k q)
    ∙ sym (get-insert nat_cmp_total (map.from_entries m.entries) k v q
    ∙ ap (cond (eq_by_cmp nat_cmp q k) (Some v)) (get-entries m.entries q)))

pub no_entries : (sizes : Counts) → AreEntries sizes []
no_entries sizes = (
  ((λ role. rw (get-empty nat_cmp role) tt), rw (len-empty nat_cmp ℕ) (omega arith)),
  len-empty nat_cmp ℕ,
)

either_owner : (b : Bool) (v n : ℕ) (o : Option ℕ) → v < n → IfSome o (λ owner. owner < n)
    → IfSome (cond b (Some v) o) (λ owner. owner < n)
either_owner true v n o below rest = below
either_owner false v n o below rest = rest

no_value : {A : Type 0} (o : Option A) → is_some o ≡ false → o ≡ None
no_value None e = refl
no_value (Some x) e = cc

-- one more role in the tree
pub one_more_entry : (sizes : Counts) (m n : BTreeMap ℕ ℕ) (k v : ℕ) (old : Option ℕ) → AreEntries sizes m.entries
    → tree.Updates nat_cmp m n k (Some v) → is_some (owner_in m.entries k) ≡ false → old ≡ owner_in m.entries k
    → length n.entries ≡ length m.entries + (if is_some old then 0 else 1) → length m.entries < most_roles
    → v < sizes.nodes
    → AreEntries sizes n.entries
one_more_entry sizes m n k v old are updates new had more room below =
    let is = from_entries-insert m n k v updates in
    let none : map.get (map.from_entries {R = nat_cmp} m.entries) k ≡ None = get-entries m.entries k ∙ no_value _ new in
    let one : length n.entries ≡ length m.entries + 1 = rw (ap is_some had ∙ new) at more in
    let longer : map.len (map.from_entries {R = nat_cmp} n.entries) ≡ map.len
    (map.from_entries {R = nat_cmp} m.entries) + 1 =
    ap map.len is ∙ len-insert nat_cmp_total (map.from_entries m.entries) k v ∙ rw none refl in
    let same_len : map.len (map.from_entries {R = nat_cmp} m.entries) ≡ length m.entries = are.1 in (
      (
        (λ role. rw (is, get-insert nat_cmp_total (map.from_entries m.entries) k v role)
            (either_owner (eq_by_cmp nat_cmp role k) v sizes.nodes _ below (are.0.0 role))),
        omega arith,
      ),
      omega arith,
    )

-- what is due, from what the tree says of a role with a named owner
module _ (sizes : Counts) (m : BTreeMap ℕ ℕ) (t : Table) (is : table_of sizes m.entries ≡ t) (role owner named : ℕ)
    (name : name_due sizes owner ≡ Some named) where
  pub named_below : (named < sizes.nodes) × (named ≡ owner)
  named_below =
      let parts = cond_some (nat_lt owner sizes.nodes) owner named name in
      let below : owner < sizes.nodes = grind (arith, nat_tests) in
      (rw (← parts.1) below, sym parts.1)

  is_node : nat_le sizes.nodes owner ≡ false
  is_node = let below : owner < sizes.nodes = omega (arith, named_below.0, named_below.1) in grind (arith, nat_tests)

  has_role : map.contains_key (table_of sizes m.entries).owners role ≡ is_some (owner_in m.entries role)
  has_role = ap is_some (get-entries m.entries role)

  pub repeated_due : is_some (owner_in m.entries role) ≡ true → add_due t role owner ≡ Some Repeated
  repeated_due had = rw (← is) (rw (is_node, has_role, had) refl)

  pub full_due : is_some (owner_in m.entries role) ≡ false → AreEntries sizes m.entries → most_roles ≤ length m.entries
      → add_due t role owner ≡ Some TooManyRoles
  full_due new are full =
      let many : nat_le most_roles (length m.entries) ≡ true = grind (arith, nat_tests) in
      rw (← is) (rw (is_node, has_role, new, are.1, many) refl)

  pub none_due : is_some (owner_in m.entries role) ≡ false → AreEntries sizes m.entries → length m.entries < most_roles
      → add_due t role owner ≡ None
  none_due new are room =
      let few : nat_le most_roles (length m.entries) ≡ false = grind (arith, nat_tests) in
      rw (← is) (rw (is_node, has_role, new, are.1, few) refl)

  pub added : (n : BTreeMap ℕ ℕ) → tree.Updates nat_cmp m n role (Some named)
      → table_of sizes n.entries ≡ with_role t role owner
  added n updates = rw (← is, ← named_below.1, from_entries-insert m n role named updates) refl

or_none : {A : Type 0} (o : Option A) → option_or o None ≡ o
or_none None = refl
or_none (Some x) = refl

-- an empty tree that was extended by all entries of a tree has those entries
pub extended_entries : (empty m n : BTreeMap ℕ ℕ) → tree.IsEmpty empty → tree.IsOrdered nat_cmp m
    → tree.InsertsAll nat_cmp empty m.entries n → n.entries ≡ m.entries
extended_entries empty m n none ordered inserts =
    btree_map_from_get nat_cmp_total n m inserts.1 ordered (λ q.
    inserts.0 q
    ∙ update_all_distinct (eq_by_cmp_equiv nat_cmp_total) (eq_by_cmp nat_cmp) (λ _ _. refl)
    (tree.get nat_cmp empty) m.entries q (IsDistinct-from_sorted nat_cmp (keys_of m.entries) ordered)
    ∙ ap (λ es. option_or (tree.get nat_cmp m q) (lookup (is_at (nat_cmp q)) es)) none
    ∙ or_none (tree.get nat_cmp m q)) exact_unsigned

both : (a b : Bool) → T a → T b → T (a && b)
both true b p q = q
both false b p q = p

below_each : (x : ℕ) (es : List (ℕ × ℕ)) → AllByRecursion (λ y. nat_cmp x y ≡ Less) (keys_of es)
    → T (below_all nat_cmp x es)
below_each x [] all = tt
below_each x (e ∷ es) all =
    both (is_lt (nat_cmp x e.0)) (below_all nat_cmp x es) (subst (λ o. T (is_lt o)) (sym all.0) tt)
    (below_each x es all.1)

entries_ascend : (es : List (ℕ × ℕ)) → IsStrictlySortedBy nat_cmp (keys_of es) → T (is_sorted nat_cmp es)
unfolding IsStrictlySortedBy
entries_ascend [] up = tt
entries_ascend (e ∷ es) up = both _ _ (below_each e.0 es up.0) (entries_ascend es up.1)

-- the keys of ascending entries are those of the map
pub keys-entries : (es : List (ℕ × ℕ)) → IsStrictlySortedBy nat_cmp (keys_of es)
    → map.keys (map.from_entries {R = nat_cmp} es) ≡ keys_of es
keys-entries es up =
    let ascend = entries_ascend es up in
    let same : map.from_entries {R = nat_cmp} es ≡ map.from_sorted es =
    same_map nat_cmp_total nat_cmp-IsAntisymmetric _ _ (λ q.
    get-from_entries nat_cmp_total es q ∙ sym (get-from_sorted nat_cmp es q ascend)) in
    ap map.keys same ∙ ap keys_of (entries-from_sorted nat_cmp es ascend)
