-- The first moment at which something holds of a list that grows.
use Rattle.std.specs.Prelude.{List, [], ◌∷◌, Option}
use Rattle.std.specs.Option.{option_or}

-- the answer of the shortest prefix of the list that gives one
unfoldable pub at_first_prefix : {A B : Type 0} → (List A → Option B) → List A → Option B
at_first_prefix ask [] = ask []
at_first_prefix ask (x ∷ xs) = option_or (ask []) (at_first_prefix (λ past. ask (x ∷ past)) xs)
