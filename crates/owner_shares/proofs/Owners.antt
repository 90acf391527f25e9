-- The set of the owners, as one role more is looked up.
use Rattle.std.proofs.Common.{◌≡◌, ℕ, zero, suc, ◌+◌, ◌<◌, Bool, true, false, ◌||◌, ◌&&◌, ◌==◌, [], ◌∷◌, ◌++◌}
use Rattle.std.proofs.Common.{Some, None, refl, sym, ap, ◌∙◌, arith, append-nil, nat_lt}
use Rattle.std.proofs.lemmas.Bool.{lt-ltb, eqb-true}
use Rattle.std.proofs.lemmas.List.Elements.{filter_map-append}
use Rattle.std.specs.Cmp.{nat_cmp_total}
use Rattle.std.specs.FinMap as map
use Rattle.std.specs.FinSet as sets
use Rattle.std.specs.List.{filter_map, cons_option, range_with_len}
use Rattle.std.specs.Ordering.{nat_cmp}
use Rattle.quorum_sizes.specs.Sizes.{Counts}
use Rattle.quorum_sizes.specs.NodeSets.{Nodes, AreNodes, nodes_among}
use Rattle.quorum_sizes.proofs.Exported.{same_names, contains-insert, contains-nodes_among}
use Rattle.role_commands.specs.Tables.{Table}
use Rattle.owner_shares.specs.Shares.{owners_below}

-- the owners, as one role more is looked up

range-push_from : (from n : ℕ) → range_with_len from (n + 1) ≡ range_with_len from n ++ (from + n) ∷ []
range-push_from from zero =
    let first : from ≡ from + zero = omega arith in
    ap (λ k. k ∷ []) first
range-push_from from (suc n) =
    let longer : suc n + 1 ≡ suc (n + 1) = omega arith in
    let last : (from + 1) + n ≡ from + suc n = omega arith in
    ap (range_with_len from) longer
    ∙ ap (λ ks. from ∷ ks) (range-push_from (from + 1) n ∙ ap (λ k. range_with_len (from + 1) n ++ k ∷ []) last)

range-push : (n : ℕ) → range_with_len 0 (n + 1) ≡ range_with_len 0 n ++ n ∷ []
range-push n =
    let last : 0 + n ≡ n = omega arith in
    range-push_from 0 n ∙ ap (λ k. range_with_len 0 n ++ k ∷ []) last

below-push : (t : Table) (role : ℕ) →
    owners_below t (role + 1) ≡ owners_below t role ++ cons_option (map.get t.owners role) []
unfolding owners_below
below-push t role =
    ap (filter_map (map.get t.owners)) (range-push role)
    ∙ filter_map-append (map.get t.owners) (range_with_len 0 role) (role ∷ [])

abbrev pub owners_to : Table → ℕ → Nodes
owners_to t roles = sets.from_list (owners_below t roles)

pub owned : (t : Table) (role owner : ℕ) → map.get t.owners role ≡ Some owner →
    sets.insert (owners_to t role) owner ≡ owners_to t (role + 1)
owned t role owner e =
    sym (ap sets.from_list (below-push t role ∙ ap (λ o. owners_below t role ++ cons_option o []) e)
    ∙ sets.from_list_push nat_cmp_total sets.nat_cmp-IsAntisymmetric (owners_below t role) owner)

pub not_owned : (t : Table) (role : ℕ) → map.get t.owners role ≡ None → owners_to t role ≡ owners_to t (role + 1)
not_owned t role e =
    sym (ap sets.from_list (below-push t role ∙ ap (λ o. owners_below t role ++ cons_option o []) e
    ∙ append-nil (owners_below t role)))

pub none_owned : (t : Table) → sets.empty ≡ owners_to t 0
unfolding owners_below
none_owned t = refl

pub none_are_nodes : (s : Counts) → AreNodes s sets.empty
none_are_nodes s name has =
    let none : sets.contains sets.empty name ≡ false = sets.contains-empty nat_cmp name in
    absurd (cc)

pub one_more_node : (s : Counts) (names : Nodes) (owner : ℕ) → AreNodes s names → owner < s.nodes →
    AreNodes s (sets.insert names owner)
one_more_node s names owner are within name has = by (name == owner) refl (sym (contains-insert names owner name) ∙ has)
  where
    by : (b : Bool) → (name == owner) ≡ b → (b || sets.contains names name) ≡ true → name < s.nodes
    by true same e = omega (arith, eqb-true name owner same, within)
    by false other e = are name e

-- names that are all nodes are the nodes among them
pub all_among : (s : Counts) (names : Nodes) → AreNodes s names → names ≡ nodes_among s names
all_among s names are =
    same_names names (nodes_among s names) (λ name.
    both (sets.contains names name) (nat_lt name s.nodes) (λ has. lt-ltb name s.nodes (are name has))
    ∙ sym (contains-nodes_among s names name))
  where
    both : (a b : Bool) → (a ≡ true → b ≡ true) → a ≡ (a && b)
    both true b h = sym (h refl)
    both false b h = refl
