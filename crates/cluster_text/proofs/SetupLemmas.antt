-- The roles of a cluster text, one after another.
use Rattle.std.proofs.Common.{◌≡◌, ℕ, ◌+◌, ◌<◌, ◌≤◌, ◌==◌, Bool, true, false, ◌||◌, nat_le, if◌then◌else◌}
use Rattle.std.proofs.Common.{List, [], ◌∷◌, ◌++◌, drop, take, get_or, length, is_some, cond, option_and_then}
use Rattle.std.proofs.Common.{Option, Some, None, Result, Ok, Err, IsOk, refl, sym, ap, subst, ◌∙◌, append-nil}
use Rattle.std.proofs.Common.{length-append}
use Rattle.std.proofs.lemmas.List.{drop_more, drop_all, take_more}
use Rattle.std.proofs.lemmas.List.Folds.{list_any-append}
use Rattle.std.proofs.lemmas.List.Elements.{filter_map-append}
use Rattle.std.specs.List.{filter_map, cons_option, list_any}
use Rattle.std.specs.Ordering.{nat_cmp}
use Rattle.std.specs.Cmp.{nat_cmp_total, unsigned_tied}
use Rattle.std.specs.FinMap as map
use Rattle.serde_json.specs.View.{view}
use Rattle.serde_json.specs.declared.value.Value.{Value}
use Rattle.quorum_sizes.specs.Sizes.{Counts}
use Rattle.role_commands.proofs.Exported.{same_Ok}
use Rattle.role_commands.specs.Tables.{Table, no_roles, with_role, most_roles}
use Rattle.role_commands.specs.TableFaults.{add_due}
use Rattle.role_commands.specs.declared.table.TableFault.{TableFault}
use Rattle.role_commands.specs.declared.table.TableFault.TheVariants as table
use Rattle.client_lines.specs.Results.{◌>>=◌}
use Rattle.cluster_text.specs.Shapes.{pair_of}
use Rattle.cluster_text.specs.Setups.{or_table_fault, table_of, checked, fault_behind}
use Rattle.cluster_text.specs.declared.fault.ClusterFault.TheVariants as fault

-- a role was added
pub added : (t new : Table) (role owner : ℕ) → add_due t role owner ≡ None → new ≡ with_role t role owner
    → table_of t ((role, owner) ∷ []) ≡ Ok new
unfolding table_of
added t new role owner due is =
    ap (λ f. or_table_fault (with_role t role owner) f >>= (λ more. Ok more)) due ∙ ap Ok (sym is)

no_Ok : {A E : Type 0} (f : E) (x : A) → ◌≡◌ {A = Result A E} (Err f) (Ok x) → ⊥
no_Ok f x e = cc

no_None : (f : TableFault) → Some f ≡ None → ⊥
no_None f e = cc

-- the first of them was added
pub first_added : (t new : Table) (p : Option (ℕ × ℕ)) (rest : List (ℕ × ℕ)) → table_of t (cons_option p []) ≡ Ok new
    → table_of t (cons_option p rest) ≡ table_of new rest
unfolding table_of
first_added t new None rest done = ap (λ (t : Table). table_of t rest) (same_Ok t new done)
first_added t new (Some p) rest done = by_due (add_due t p.0 p.1) done
  where
    by_due : (due : Option TableFault)
        → (or_table_fault (with_role t p.0 p.1) due >>= (λ (more : Table). table_of more [])) ≡ Ok new
        → (or_table_fault (with_role t p.0 p.1) due >>= (λ more. table_of more rest)) ≡ table_of new rest
    by_due None e = ap (λ (t : Table). table_of t rest) (same_Ok (with_role t p.0 p.1) new e)
    by_due (Some f) e = absurd (no_Ok _ new e)

-- or it is refused
first_refused : (t : Table) (p : ℕ × ℕ) (rest : List (ℕ × ℕ)) (f : TableFault) → add_due t p.0 p.1 ≡ Some f
    → table_of t (p ∷ rest) ≡ Err (fault.Table f)
unfolding table_of
first_refused t p rest f due = ap (λ f. or_table_fault (with_role t p.0 p.1) f >>= (λ more. table_of more rest)) due

-- where all of them can be added, the first can
first_fits : (t : Table) (p : Option (ℕ × ℕ)) (rest : List (ℕ × ℕ)) → IsOk (table_of t (cons_option p rest))
    → IsOk (table_of t (cons_option p []))
unfolding table_of
first_fits t None rest fits = refl
first_fits t (Some p) rest fits = by_due (add_due t p.0 p.1) fits
  where
    by_due : (due : Option TableFault)
        → IsOk (or_table_fault (with_role t p.0 p.1) due >>= (λ (more : Table). table_of more rest))
        → IsOk (or_table_fault (with_role t p.0 p.1) due >>= (λ (more : Table). table_of more []))
    by_due None e = refl
    by_due (Some f) e = e

-- the pairs of items
abbrev pub pairs : List Value → List (ℕ × ℕ)
pairs items = filter_map (λ v. pair_of (view v)) items

-- the items from an index on
pub pairs-more : (items : List Value) (i : ℕ) (item : Value) → i < length items → item ≡ get_or items i item
    → pairs (drop i items) ≡ cons_option (pair_of (view item)) (pairs (drop (i + 1) items))
pairs-more items i item h is =
    ap pairs (drop_more items i item h ∙ ap (λ x. x ∷ drop (i + 1) items) (sym is))

pub pairs-none : (items : List Value) (i : ℕ) → length items ≤ i → pairs (drop i items) ≡ []
pairs-none items i h = ap pairs (drop_all i items h)

-- and those before it
pairs-before : (items : List Value) (i : ℕ) (item : Value) → i < length items → item ≡ get_or items i item
    → pairs (take (i + 1) items) ≡ pairs (take i items) ++ cons_option (pair_of (view item)) []
pairs-before items i item h is =
    ap pairs (take_more items i item h ∙ ap (λ x. take i items ++ x ∷ []) (sym is))
    ∙ filter_map-append (λ v. pair_of (view v)) (take i items) (item ∷ [])

-- ---- how the loop that adds the roles goes on

module _ (start t : Table) (whole items : List Value) (i : ℕ) (before : table_of start (pairs whole)
    ≡ table_of t (pairs (drop i items))) where
  pub added_on : (new : Table) (item : Value) → i < length items → item ≡ get_or items i item
      → table_of t (cons_option (pair_of (view item)) []) ≡ Ok new
      → table_of start (pairs whole) ≡ table_of new (pairs (drop (i + 1) items))
  added_on new item h is done =
      before ∙ ap (table_of t) (pairs-more items i item h is) ∙ first_added t new (pair_of (view item)) _ done

  pub next_fits : (item : Value) → i < length items → item ≡ get_or items i item
      → IsOk (table_of start (pairs whole)) → IsOk (table_of t (cons_option (pair_of (view item)) []))
  next_fits item h is fits =
      let left = before ∙ ap (table_of t) (pairs-more items i item h is) in
      first_fits t (pair_of (view item)) _ (subst IsOk left fits)

  pub all_added : length items ≤ i → table_of start (pairs whole) ≡ Ok t
  unfolding table_of
  all_added h = before ∙ ap (table_of t) (pairs-none items i h)

-- ---- how the loop that checks them goes on

-- the roles `before`, each another one, are a table's, to which the roles `rest` are to be added
pub record IsReached (s : Counts) (whole before rest : List (ℕ × ℕ)) : Type 0 where
  pub roles : Table
  pub sizes : roles.sizes ≡ s
  pub count : map.len roles.owners ≡ length before
  pub has : (role : ℕ) → map.contains_key roles.owners role ≡ list_any (λ other. role == other.0) before
  pub left : table_of (no_roles s) whole ≡ table_of roles rest

pub reached_none : (s : Counts) (whole : List (ℕ × ℕ)) → IsReached s whole [] whole
reached_none s whole = record {
  roles = no_roles s;
  sizes = refl;
  count = map.len-empty nat_cmp ℕ;
  has = λ role. ap is_some (map.get-empty nat_cmp role);
  left = refl;
}

module _ (s : Counts) (whole before : List (ℕ × ℕ)) where
  fault_is : (rest : List (ℕ × ℕ)) (reached : IsReached s whole before rest) (p : ℕ × ℕ)
      → add_due reached.roles p.0 p.1 ≡ fault_behind s before p
  fault_is rest reached p = rw (reached.sizes, reached.count, reached.has p.0) refl

  no_fault : (p : ℕ × ℕ) → fault_behind s before p ≡ None → list_any (λ other. p.0 == other.0) before ≡ false
  no_fault p none = by_tests (nat_le s.nodes p.1) (list_any (λ other. p.0 == other.0) before) none
    where
      by_tests : (a b : Bool)
          → (if a then Some table.NoSuchNode else (if b then Some table.Repeated
          else (if nat_le most_roles (length before) then Some table.TooManyRoles else None))) ≡ None → b ≡ false
      by_tests true b e = absurd (no_None _ e)
      by_tests false true e = absurd (no_None _ e)
      by_tests false false e = refl

  has_more : (b c : Bool) (owner : ℕ) (o : Option ℕ) → is_some o ≡ c
      → is_some (cond b (Some owner) o) ≡ (c || (b || false))
  has_more true true owner o is = refl
  has_more true false owner o is = refl
  has_more false true owner o is = is
  has_more false false owner o is = is

  -- one role more is the table's
  module _ (rest : List (ℕ × ℕ)) (p : ℕ × ℕ) (reached : IsReached s whole before (p ∷ rest))
      (none : fault_behind s before p ≡ None) where
    one_more : map.len (map.insert reached.roles.owners p.0 p.1) ≡ length (before ++ p ∷ [])
    one_more =
        map.len-insert nat_cmp_total reached.roles.owners p.0 p.1
        ∙ ap (λ b. cond b (map.len reached.roles.owners) (map.len reached.roles.owners + 1))
        (reached.has p.0 ∙ no_fault p none)
        ∙ ap (λ n. n + 1) reached.count ∙ sym (length-append before (p ∷ []))

    it_has : (role : ℕ) → map.contains_key (map.insert reached.roles.owners p.0 p.1) role
        ≡ list_any (λ other. role == other.0) (before ++ p ∷ [])
    it_has role =
        ap is_some (map.get-insert nat_cmp_total reached.roles.owners p.0 p.1 role
        ∙ ap (λ b. cond b (Some p.1) (map.get reached.roles.owners role)) (unsigned_tied role p.0))
        ∙ has_more (role == p.0) (list_any (λ other. role == other.0) before) p.1 _ (reached.has role)
        ∙ sym (list_any-append (λ other. role == other.0) before (p ∷ []))

    reached_more : IsReached s whole (before ++ p ∷ []) rest
    unfolding table_of
    reached_more = record {
      roles = with_role reached.roles p.0 p.1;
      sizes = reached.sizes;
      count = one_more;
      has = it_has;
      left = reached.left
          ∙ ap (λ f. or_table_fault (with_role reached.roles p.0 p.1) f >>= (λ more. table_of more rest))
          (fault_is (p ∷ rest) reached p ∙ none);
    }

  reached_on : (rest : List (ℕ × ℕ)) (p : Option (ℕ × ℕ)) → IsReached s whole before (cons_option p rest)
      → None ≡ option_and_then (fault_behind s before) p → IsReached s whole (before ++ cons_option p []) rest
  reached_on rest None reached none = rw append-nil reached
  reached_on rest (Some p) reached none = reached_more rest p reached (sym none)

  refused_at : (rest : List (ℕ × ℕ)) (p : Option (ℕ × ℕ)) (f : TableFault)
      → IsReached s whole before (cons_option p rest) → Some f ≡ option_and_then (fault_behind s before) p
      → table_of (no_roles s) whole ≡ Err (fault.Table f)
  refused_at rest None f reached some = absurd (no_None f some)
  refused_at rest (Some p) f reached some =
      reached.left ∙ first_refused reached.roles p rest f (fault_is (p ∷ rest) reached p ∙ sym some)

-- the roles of items up to an index were checked
abbrev pub IsChecked : Counts → List Value → ℕ → Type 0
IsChecked s items i = IsReached s (pairs items) (pairs (take i items)) (pairs (drop i items))

module _ (s : Counts) (items : List Value) (i : ℕ) (reached : IsChecked s items i) where
  module _ (item : Value) (h : i < length items) (is : item ≡ get_or items i item) where
    before_it : IsReached s (pairs items) (pairs (take i items))
        (cons_option (pair_of (view item)) (pairs (drop (i + 1) items)))
    before_it = subst (IsReached s (pairs items) (pairs (take i items))) (pairs-more items i item h is) reached

    pub checked_on : None ≡ option_and_then (fault_behind s (pairs (take i items))) (pair_of (view item))
        → IsChecked s items (i + 1)
    checked_on none =
        subst (λ before. IsReached s (pairs items) before (pairs (drop (i + 1) items)))
        (sym (pairs-before items i item h is))
        (reached_on s (pairs items) (pairs (take i items)) _ (pair_of (view item)) before_it none)

    pub checked_refused : (f : TableFault)
        → Some f ≡ option_and_then (fault_behind s (pairs (take i items))) (pair_of (view item))
        → Err (fault.Table f) ≡ checked (table_of (no_roles s) (pairs items))
    checked_refused f some =
        sym (ap checked (refused_at s (pairs items) (pairs (take i items)) _ (pair_of (view item)) f before_it some))

  pub checked_all : length items ≤ i → Ok tt ≡ checked (table_of (no_roles s) (pairs items))
  unfolding table_of
  checked_all h = sym (ap checked (reached.left ∙ ap (table_of reached.roles) (pairs-none items i h)))
