-- The texts of lists.
use Rattle.std.proofs.Common.{◌≡◌, ℕ, ◌+◌, ◌<◌, List, ◌++◌, length, get_or, take, sym, ap, ◌∙◌}
use Rattle.std.proofs.lemmas.List.{flat_map_more, take_more}
use Rattle.std.specs.List.{flat_map}

-- one item more is written
pub written_more : {X : Type 0} (f : X → List ℕ) (begun : List ℕ) (xs : List X) (i : ℕ) (d : X) → i < length xs
    → (begun ++ flat_map f (take i xs)) ++ f (get_or xs i d) ≡ begun ++ flat_map f (take (i + 1) xs)
written_more f begun xs i d h =
    flat_map_more f begun (take i xs) (get_or xs i d) ∙ ap (λ ys. begun ++ flat_map f ys) (sym (take_more xs i d h))
