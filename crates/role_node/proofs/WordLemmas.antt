-- A decision in an owner's roles follows from its stream.
use Rattle.std.proofs.Common.{◌≡◌, ℕ, Bool, true, false, ◌==◌, not, if◌then◌else◌, List, [], ◌∷◌, filter, find, length}
use Rattle.std.proofs.Common.{Option, Some, None, refl, sym, ap, ◌∙◌, eqb-true}
use Rattle.std.specs.Option.{option_map_or}
use Rattle.std.specs.FinMap as map
use Rattle.role_commands.specs.Tables.{Table, owns}
use Rattle.role_commands.specs.declared.command.Command.{Command}
use Rattle.rbac_state.specs.Assignments.{last_said, owner_said}
use Rattle.rbac_state.specs.Says.{says_of_user, says_of_permission}
use Rattle.role_sessions.specs.declared.verdict.Rule.TheVariants.{NotYours, NoActiveRole, NoneAssigned}
use Rattle.role_sessions.specs.declared.verdict.Verdict.TheVariants.{Deny}
use Rattle.role_sessions.specs.Decisions.{allowed}
use Rattle.role_node.specs.Access.{stream_at, relations_at, decided_at}
use Rattle.role_node.specs.declared.event.Event.{Event}
use Rattle.role_node.specs.Words.{OneOwnersWord}

-- what an owner said of a role of its own is in its stream
said_alike : (table : Table) (one other : ℕ → List Command) (owner role : ℕ) (says : Command → Option Bool)
    → one owner ≡ other owner → owns table owner role ≡ true
    → owner_said table one role says ≡ owner_said table other role says
said_alike table one other owner role says same owned = by (map.get table.owners role) owned
  where
    by : (o : Option ℕ) → option_map_or (λ n. n == owner) o false ≡ true
        → option_map_or (λ n. last_said says (one n)) o false ≡ option_map_or (λ n. last_said says (other n)) o false
    by None e = absurd (cc)
    by (Some n) e =
        let is : n ≡ owner = eqb-true n owner e in
        ap (λ m. last_said says (one m)) is ∙ ap (last_said says) same ∙ ap (λ m. last_said says (other m)) (sym is)

-- filters that agree on what is owned keep the same of it
module _ (own p q : ℕ → Bool) (alike : (x : ℕ) → own x ≡ true → p x ≡ q x) where
  kept_alike : (xs : List ℕ) → filter p (filter own xs) ≡ filter q (filter own xs)
  kept_alike [] = refl
  kept_alike (x ∷ xs) = by (own x) refl (kept_alike xs)
    where
      by : (b : Bool) → own x ≡ b → filter p (filter own xs) ≡ filter q (filter own xs) →
          filter p (if b then x ∷ filter own xs else filter own xs)
          ≡ filter q (if b then x ∷ filter own xs else filter own xs)
      by true e rest = λ i. if alike x e i then x ∷ rest i else rest i
      by false e rest = rest

  -- and find the same in it
  one_more : (x : ℕ) → own x ≡ true → (xs : List ℕ) → find p xs ≡ find q xs → (kept : Bool) →
      find p (if kept then x ∷ xs else xs) ≡ find q (if kept then x ∷ xs else xs)
  one_more x e xs rest true = λ i. if alike x e i then Some x else rest i
  one_more x e xs rest false = rest

  found_alike : (a : ℕ → Bool) (xs : List ℕ) → find p (filter a (filter own xs)) ≡ find q (filter a (filter own xs))
  found_alike a [] = refl
  found_alike a (x ∷ xs) = by (own x) refl (found_alike a xs)
    where
      by : (b : Bool) → own x ≡ b → find p (filter a (filter own xs)) ≡ find q (filter a (filter own xs)) →
          find p (filter a (if b then x ∷ filter own xs else filter own xs))
          ≡ find q (filter a (if b then x ∷ filter own xs else filter own xs))
      by true e rest = one_more x e (filter a (filter own xs)) rest (a x)
      by false e rest = rest

-- of whichever roles are taken those of the owner
among : (table : Table) (one other : List Event) (owner user operation object : ℕ)
    → stream_at table.sizes one owner ≡ stream_at table.sizes other owner → (xs : List ℕ) →
    decided_at table one (filter (owns table owner) xs) user operation object
    ≡ decided_at table other (filter (owns table owner) xs) user operation object
among table one other owner user operation object same xs =
    let old = relations_at table one in
    let new = relations_at table other in
    let assigned = λ (role : ℕ). said_alike table (stream_at table.sizes one) (stream_at table.sizes other) owner role
    (says_of_user user role) same in
    let granted = λ (role : ℕ). said_alike table (stream_at table.sizes one) (stream_at table.sizes other) owner role
    (says_of_permission operation object role) same in
    let counted = kept_alike (owns table owner) (old.assigned user) (new.assigned user) assigned xs in
    let found = ap (find (old.granted operation object)) counted
    ∙ found_alike (owns table owner) (old.granted operation object) (new.granted operation object) granted
    (new.assigned user) xs in
    λ i. if not (user == user) then Deny NotYours
    else (if length (filter (owns table owner) xs) == 0 then Deny NoActiveRole
    else (if length (counted i) == 0 then Deny NoneAssigned
    else allowed (found i)))

pub one_owners_word : OneOwnersWord
one_owners_word table one other owner user operation object same =
    among table one other owner user operation object same (map.keys table.owners)
