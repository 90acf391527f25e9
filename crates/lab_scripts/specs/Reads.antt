-- Reading by a name.
use Rattle.std.specs.Prelude.{ℕ, if◌then◌else◌, List, [], ◌∷◌, Option, None}
use Rattle.std.specs.Str.{bytes_eq}

-- what stands behind a name is read as the table says that has the readers by their names
abbrev pub by_its_name : {A : Type 0} → List (List ℕ × (List ℕ → Option A)) → List ℕ → List ℕ → Option A
by_its_name [] name text = None
by_its_name (known ∷ more) name text = if bytes_eq name known.0 then known.1 text else by_its_name more name text
