-- The first of a list that passes, found by going over the list.
use Rattle.std.proofs.Common.{◌≡◌, ℕ, ◌+◌, ◌<◌, Bool, true, false, ◌&&◌, cond, List, [], ◌∷◌, ◌++◌, Option}
use Rattle.std.proofs.Common.{length, get_or, take, drop, None, Some, refl, sym, ap, ◌∙◌}
use Rattle.std.specs.List.{find, list_any}
use Rattle.std.specs.Option.{option_or}
use Rattle.std.proofs.lemmas.List.{take_more, drop_more, take-append-drop}
use Rattle.std.proofs.lemmas.List.Folds.{find-append}
use Rattle.rbac_state.specs.declared.relation.Relation.{Relation}
use Rattle.rbac_state.specs.inside.Relations.{relates, is_granting}

pub and_false : (b : Bool) → (b && false) ≡ false
and_false true = refl
and_false false = refl

module _ {X : Type 0} (p : X → Bool) (xs : List X) (i : ℕ) (d : X) (within : i < length xs)
    (none : find p (take i xs) ≡ None) where
  -- one more that does not pass
  pub find_more : p (get_or xs i d) ≡ false → find p (take (i + 1) xs) ≡ None
  find_more fails =
      ap (find p) (take_more xs i d within)
      ∙ find-append p (take i xs) (get_or xs i d ∷ [])
      ∙ (λ k. option_or (none k) (cond (fails k) (Some (get_or xs i d)) None))

  -- one that passes
  pub find_here : p (get_or xs i d) ≡ true → find p xs ≡ Some (get_or xs i d)
  find_here passes =
      ap (find p) (sym (take-append-drop i xs))
      ∙ find-append p (take i xs) (drop i xs)
      ∙ ap (λ o. option_or o (find p (drop i xs))) none
      ∙ ap (find p) (drop_more xs i d within)
      ∙ ap (λ b. cond b (Some (get_or xs i d)) (find p (drop (i + 1) xs))) passes

-- a role that is asked about, where none before it was found
module _ {k n : ℕ} (assigned : Relation k) (granted : Relation n) (user permission : ℕ) (roles : List ℕ) (i : ℕ)
    (within : i < length roles)
    (none : find (is_granting assigned granted user permission) (take i roles) ≡ None) where
  abbrev role : ℕ
  role = get_or roles i 0

  pub granting_here : relates granted permission role ≡ true → relates assigned user role ≡ true →
      Some role ≡ find (is_granting assigned granted user permission) roles
  granting_here may has =
      sym (find_here (is_granting assigned granted user permission) roles i 0 within none (λ j. has j && may j))

  pub lacks_permission : relates granted permission role ≡ false →
      find (is_granting assigned granted user permission) (take (i + 1) roles) ≡ None
  lacks_permission lacks =
      find_more (is_granting assigned granted user permission) roles i 0 within none
      (ap (λ b. relates assigned user role && b) lacks ∙ and_false (relates assigned user role))

  pub lacks_role : relates assigned user role ≡ false →
      find (is_granting assigned granted user permission) (take (i + 1) roles) ≡ None
  lacks_role lacks =
      find_more (is_granting assigned granted user permission) roles i 0 within none
      (ap (λ b. b && relates granted permission role) lacks)

-- none passes
pub find_never : {X : Type 0} (p : X → Bool) (xs : List X) → ((x : X) → p x ≡ false) → find p xs ≡ None
find_never p [] never = refl
find_never p (x ∷ xs) never = rw (never x) (find_never p xs never)

-- of the two parts of a list the front is asked first
pub find_parts : {X : Type 0} (p : X → Bool) (xs front back : List X) (found : Option X) → xs ≡ front ++ back →
    found ≡ find p front → option_or found (find p back) ≡ find p xs
find_parts p xs front back found is first =
    ap (λ o. option_or o (find p back)) first ∙ sym (find-append p front back) ∙ ap (find p) (sym is)

-- not one passes
pub any_never : {X : Type 0} (p : X → Bool) (xs : List X) → ((x : X) → p x ≡ false) → list_any p xs ≡ false
any_never p [] never = refl
any_never p (x ∷ xs) never = rw (never x) (any_never p xs never)
