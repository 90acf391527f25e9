-- The rows of a line.
use Rattle.std.proofs.Common.{◌≡◌, ℕ, ◌-◌, ◌<◌, ◌&&◌, Bool, true, false, nat_le, if◌then◌else◌, List, [], ◌∷◌, map}
use Rattle.std.proofs.Common.{length, Option, Some, None, is_some, IfSome, option_and_then, refl, sym, ap, ◌∙◌, arith}
use Rattle.std.specs.List.{AllByRecursion, list_all, filter_map, cons_option}
use Rattle.std.proofs.lemmas.Bool.Decides.{nat_tests}
use Rattle.std.proofs.lemmas.List.{length-map}
use Rattle.std.proofs.lemmas.List.Folds.{list_all-map}
use Rattle.serde_json.specs.Data.{Data}
use Rattle.serde_json.specs.View.{view, items_of}
use Rattle.serde_json.specs.declared.value.Value.{Value}
use Rattle.quorum_sizes.specs.Sizes.{Counts}
use Rattle.client_lines.specs.Members.{whole_number}
use Rattle.operator_lines.specs.Rows.{most_asked, items_list, list_of, number_most, asked_if, asked_in, asked_of}
use Rattle.operator_lines.specs.Rows.{are_few, few_rows, rows_of}
use Rattle.operator_lines.specs.declared.decision.Access.{Access}

pub items_list-items_of : (values : List Data) → items_list (items_of values) ≡ values
items_list-items_of [] = refl
items_list-items_of (value ∷ values) = ap (λ vs. value ∷ vs) (items_list-items_of values)

-- an owner within the nodes
within : (n : ℕ) → 0 < n → (d : Data) → IfSome (number_most (n - 1) d) (λ w. w < n)
within n some d = by (whole_number d)
  where
    by_test : (k : ℕ) (b : Bool) → nat_le k (n - 1) ≡ b → IfSome (if b then Some k else None) (λ w. w < n)
    by_test k true e = grind (arith, nat_tests)
    by_test k false e = tt

    by : (o : Option ℕ) → IfSome (option_and_then (λ k. if nat_le k (n - 1) then Some k else None) o) (λ w. w < n)
    by None = tt
    by (Some k) = by_test k (nat_le k (n - 1)) refl

owner_within : (user owner operation thing : Option ℕ) (n : ℕ) → IfSome owner (λ w. w < n)
    → IfSome (asked_if user owner operation thing) (λ a. a.owner < n)
owner_within None owner operation thing n h = tt
owner_within (Some u) None operation thing n h = tt
owner_within (Some u) (Some w) None thing n h = tt
owner_within (Some u) (Some w) (Some p) None n h = tt
owner_within (Some u) (Some w) (Some p) (Some o) n h = h

named_in : (s : Counts) → 0 < s.nodes → (ds : List Data) → IfSome (asked_in s ds) (λ a. a.owner < s.nodes)
named_in s some [] = tt
named_in s some (user ∷ []) = tt
named_in s some (user ∷ owner ∷ []) = tt
named_in s some (user ∷ owner ∷ operation ∷ []) = tt
named_in s some (user ∷ owner ∷ operation ∷ thing ∷ []) = owner_within _ _ _ _ s.nodes (within s.nodes some owner)
named_in s some (user ∷ owner ∷ operation ∷ thing ∷ fifth ∷ more) = tt

named : (s : Counts) → 0 < s.nodes → (d : Data) → IfSome (asked_of s d) (λ a. a.owner < s.nodes)
unfolding asked_of
named s some d = by (list_of d)
  where
    by : (o : Option (List Data)) → IfSome (option_and_then (asked_in s) o) (λ a. a.owner < s.nodes)
    by None = tt
    by (Some ds) = named_in s some ds

-- each access in rows names a node
pub all_named : (s : Counts) → 0 < s.nodes → (items : List Value)
    → AllByRecursion (λ (a : Access). a.owner < s.nodes) (filter_map (λ row. asked_of s (view row)) items)
all_named s some [] = tt
all_named s some (item ∷ items) =
    one_more (asked_of s (view item)) (named s some (view item)) (all_named s some items)
  where
    one_more : (o : Option Access) → IfSome o (λ a. a.owner < s.nodes)
        → AllByRecursion (λ (a : Access). a.owner < s.nodes) (filter_map (λ row. asked_of s (view row)) items)
        → AllByRecursion (λ (a : Access). a.owner < s.nodes)
        (cons_option o (filter_map (λ row. asked_of s (view row)) items))
    one_more None h rest = rest
    one_more (Some a) h rest = (h, rest)

filter_map-view : {A : Type 0} (shape : Data → Option A) (items : List Value)
    → filter_map shape (map view items) ≡ filter_map (λ v. shape (view v)) items
filter_map-view shape [] = refl
filter_map-view shape (item ∷ items) = ap (cons_option (shape (view item))) (filter_map-view shape items)

few-view : (s : Counts) (items : List Value) → are_few s (map view items)
    ≡ (nat_le 1 (length items) && (nat_le (length items) most_asked
    && list_all (λ row. is_some (asked_of s (view row))) items))
few-view s items = rw (length-map items view, list_all-map (λ d. is_some (asked_of s d)) view items) refl

-- the rows of a list, from its items
pub rows-are : (s : Counts) (d : Data) (items : List Value) (few : Bool) → Some (map view items) ≡ list_of d
    → few ≡ (nat_le 1 (length items) && (nat_le (length items) most_asked
    && list_all (λ row. is_some (asked_of s (view row))) items))
    → rows_of s d ≡ (if few then Some (filter_map (λ row. asked_of s (view row)) items) else None)
unfolding rows_of
rows-are s d items few listed is =
    ap (option_and_then (few_rows s)) (sym listed)
    ∙ (λ i. if (few-view s items ∙ sym is) i then Some (filter_map-view (asked_of s) items i) else None)

-- a value that is no list has none
pub rows-none : (s : Counts) (d : Data) → None ≡ list_of d → rows_of s d ≡ None
unfolding rows_of
rows-none s d none = ap (option_and_then (few_rows s)) (sym none)
