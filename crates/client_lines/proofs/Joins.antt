-- Items that are written one after another, with a text between each two.
use Rattle.std.proofs.Common.{append_assoc, ◌≡◌, ◌∙◌, ℕ, ◌≤◌, List}
use Rattle.std.proofs.Common.{◌∷◌, ◌++◌, length, take, refl, sym, ap}
use Rattle.std.proofs.lemmas.List.{take_all}
use Rattle.std.specs.List.{flat_map, join_by}

-- all items are written
pub all_joined : {X : Type 0} (f : X
    → List ℕ) (between text : List ℕ) (whole : List X) (first : X) (others : List X) (i : ℕ)
    → whole ≡ first ∷ others → length others ≤ i
    → text ≡ f first ++ flat_map (λ y. between ++ f y) (take i others) → text ≡ join_by f between whole
all_joined f between text whole first others i parts h written =
    written ∙ ap (λ ys. f first ++ flat_map (λ y. between ++ f y) ys) (take_all i others h)
    ∙ ap (join_by f between) (sym parts)

-- an item is written behind a text
pub written_behind : (before start item written : List ℕ) → start ≡ before ++ written → written ≡ item
    → start ≡ before ++ item
written_behind before start item written e same = e ∙ ap (λ (w : List ℕ). before ++ w) same

-- all items are written behind a text
pub all_added : {X : Type 0} (f : X → List ℕ) (between before start text : List ℕ) (whole : List X) (first : X)
    (others : List X) (i : ℕ) → whole ≡ first ∷ others → length others ≤ i → start ≡ before ++ f first
    → text ≡ start ++ flat_map (λ y. between ++ f y) (take i others) → text ≡ before ++ join_by f between whole
all_added f between before start text whole first others i parts h begun written =
    let more = flat_map (λ y. between ++ f y) (take i others) in
    written ∙ ap (λ (front : List ℕ). front ++ more) begun ∙ append_assoc before (f first) more
    ∙ ap (λ (items : List ℕ). before ++ items)
    (all_joined f between (f first ++ more) whole first others i parts h refl)
