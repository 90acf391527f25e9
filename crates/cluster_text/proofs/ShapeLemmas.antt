-- The lists of a cluster text.
use Rattle.std.proofs.Common.{◌≡◌, true, false, List, [], ◌∷◌, map, Option, Some, Ok, Err, refl, ap, ◌∙◌}
use Rattle.std.specs.Prelude.{is_some}
use Rattle.std.specs.List.{list_all, filter_map, cons_option}
use Rattle.std.proofs.lemmas.List.Folds.{list_all-map}
use Rattle.serde_json.specs.Data.{Data}
use Rattle.serde_json.specs.View.{view, items_of}
use Rattle.serde_json.specs.declared.value.Value.{Value}
use Rattle.client_lines.specs.Results.{◌>>=◌}
use Rattle.client_lines.specs.declared.member.Member.{Member}
use Rattle.cluster_text.specs.Shapes.{items_list, values_of, list_items, list_member, present}
use Rattle.cluster_text.specs.declared.fault.ClusterFault.TheVariants.{OutOfRange}

pub items_list-items_of : (values : List Data) → items_list (items_of values) ≡ values
items_list-items_of [] = refl
items_list-items_of (value ∷ values) = ap (λ vs. value ∷ vs) (items_list-items_of values)

filter_map-view : {A : Type 0} (shape : Data → Option A) (items : List Value)
    → filter_map shape (map view items) ≡ filter_map (λ v. shape (view v)) items
filter_map-view shape [] = refl
filter_map-view shape (item ∷ items) = ap (cons_option (shape (view item))) (filter_map-view shape items)

module _ {A : Type 0} (m : Member) (shape : Data → Option A) (text : Data) (items : List Value)
    (listed : list_items m text ≡ Ok (map view items)) where
  -- the member's list, from its items
  member_listed : list_member m shape text ≡ present m (Some (values_of shape (map view items)))
  unfolding list_member
  member_listed = ap (λ r. r >>= (λ items. present m (Some (values_of shape items)))) listed

  pub list_member-good : list_all (λ v. is_some (shape (view v))) items ≡ true
      → list_member m shape text ≡ Ok (filter_map (λ v. shape (view v)) items)
  unfolding values_of
  list_member-good all =
      member_listed ∙ rw (list_all-map (λ d. is_some (shape d)) view items, all) (ap Ok (filter_map-view shape items))

  pub list_member-bad : list_all (λ v. is_some (shape (view v))) items ≡ false
      → list_member m shape text ≡ Err (OutOfRange m)
  unfolding values_of
  list_member-bad some = member_listed ∙ rw (list_all-map (λ d. is_some (shape d)) view items, some) refl
