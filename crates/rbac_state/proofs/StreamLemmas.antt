-- What one more command of a stream changes.
use Rattle.std.proofs.Common.{◌≡◌, ℕ, Bool, true, false, ◌&&◌, ◌==◌, ◌⊎◌, inl, inr, List, [], ◌∷◌}
use Rattle.std.proofs.Common.{◌++◌, Option, None, Some, unwrap_or, refl, sym, ap, ◌∙◌, append-nil}
use Rattle.std.specs.Prelude.{if◌then◌else◌}
use Rattle.std.specs.List.{filter_map, last_or, cons_option}
use Rattle.std.specs.Option.{option_map_or}
use Rattle.std.specs.FinMap as map
use Rattle.std.proofs.lemmas.List.Elements.{filter_map-append}
use Rattle.std.proofs.lemmas.Map.Views.{exact_unsigned_eq}
use Rattle.role_commands.specs.Tables.{Table}
use Rattle.role_commands.specs.Rules.{role_of}
use Rattle.role_commands.specs.declared.command.Command.{Command}
use Rattle.role_commands.specs.declared.command.Command.TheVariants.{Assign, Deassign, Grant, Revoke, Clear}
use Rattle.rbac_state.specs.Says.{says_of_user, says_of_permission}
use Rattle.rbac_state.specs.Assignments.{last_said, owner_said, with_command, owns, said_by}

-- what speaks of one role alone
abbrev pub Concerns : ℕ → (Command → Option Bool) → Type 0
Concerns role says = (c : Command) → (says c ≡ None) ⊎ (role_of c ≡ role)

said_of : (a x : Bool) → (if a && false then Some x else None) ≡ None
said_of true x = refl
said_of false x = refl

of_role_by : (a b x : Bool) (role r : ℕ) → (role == r) ≡ b → ((if a && b then Some x else None) ≡ None) ⊎ (r ≡ role)
of_role_by a true x role r e = inr (sym (exact_unsigned_eq role r e))
of_role_by a false x role r e = inl (said_of a x)

of_role : (a : Bool) (role r : ℕ) (x : Bool) → ((if a && (role == r) then Some x else None) ≡ None) ⊎ (r ≡ role)
of_role a role r x = of_role_by a (role == r) x role r refl

pub says_of_user-concerns : (user role : ℕ) → Concerns role (says_of_user user role)
says_of_user-concerns user role (Assign u r) = of_role (user == u) role r true
says_of_user-concerns user role (Deassign u r) = of_role (user == u) role r false
says_of_user-concerns user role (Grant r p b) = inl refl
says_of_user-concerns user role (Revoke r p b) = inl refl
says_of_user-concerns user role (Clear r) = of_role true role r false

pub says_of_permission-concerns : (operation object role : ℕ) → Concerns role (says_of_permission operation object role)
says_of_permission-concerns operation object role (Assign u r) = inl refl
says_of_permission-concerns operation object role (Deassign u r) = inl refl
says_of_permission-concerns operation object role (Grant r p b) =
    of_role ((operation == p) && (object == b)) role r true
says_of_permission-concerns operation object role (Revoke r p b) =
    of_role ((operation == p) && (object == b)) role r false
says_of_permission-concerns operation object role (Clear r) = of_role true role r false

last_or-push : {A : Type 0} (o : Option A) (xs : List A) (x : A) → last_or o (xs ++ x ∷ []) ≡ Some x
last_or-push o [] x = refl
last_or-push o (y ∷ xs) x = last_or-push (Some y) xs x

said_last : (said : List Bool) (o : Option Bool) →
    unwrap_or (last_or None (said ++ cons_option o [])) false ≡ unwrap_or o (unwrap_or (last_or None said) false)
said_last said None = rw (append-nil said)
said_last said (Some b) = rw (last_or-push None said b)

-- one more command at the end
pub last_said-push : (says : Command → Option Bool) (cs : List Command) (c : Command) →
    last_said says (cs ++ c ∷ []) ≡ unwrap_or (says c) (last_said says cs)
unfolding last_said
last_said-push says cs c =
    ap (λ l. unwrap_or (last_or None l) false) (filter_map-append says cs (c ∷ []))
    ∙ said_last (filter_map says cs) (says c)

pub last_said-none : (says : Command → Option Bool) → last_said says [] ≡ false
unfolding last_said
last_said-none says = refl

one_stream : (streams : ℕ → List Command) (node : ℕ) (command : Command) (says : Command
    → Option Bool) (owner : ℕ) (mine : Bool) →
    last_said says (if mine then streams owner ++ command ∷ [] else streams owner)
    ≡ (if mine then unwrap_or (says command) (last_said says (streams owner)) else last_said says (streams owner))
one_stream streams node command says owner true = last_said-push says (streams owner) command
one_stream streams node command says owner false = refl

unless_said : (mine : Bool) (o : Option Bool) (before : Bool) → o ≡ None
    → (if mine then unwrap_or o before else before) ≡ before
unless_said true o before e = rw e
unless_said false o before e = refl

by_owner : (table : Table) (streams : ℕ → List Command) (node : ℕ) (command : Command) (role : ℕ) (says : Command
    → Option Bool) (owner : Option ℕ) →
    map.get table.owners role ≡ owner → (says command ≡ None) ⊎ (role_of command ≡ role) →
    option_map_or (λ o. last_said says (with_command streams node command o)) owner false
    ≡ said_by table node command says (option_map_or (λ o. last_said says (streams o)) owner false)
by_owner table streams node command role says None e (inl n) =
    sym (unless_said (owns table node (role_of command)) (says command) false n)
by_owner table streams node command role says None e (inr p) = sym (rw (p, e))
by_owner table streams node command role says (Some owner) e (inl n) =
    one_stream streams node command says owner (owner == node)
    ∙ unless_said (owner == node) (says command) _ n
    ∙ sym (unless_said (owns table node (role_of command)) (says command) _ n)
by_owner table streams node command role says (Some owner) e (inr p) =
    one_stream streams node command says owner (owner == node)
    ∙ sym (rw (p, e))

nothing_said : (says : Command → Option Bool) (owner : Option ℕ)
    → option_map_or (λ o. last_said says []) owner false ≡ false
nothing_said says None = refl
nothing_said says (Some owner) = last_said-none says

-- the same of what the owner said
pub owner_said-push : (table : Table) (streams : ℕ
    → List Command) (node : ℕ) (command : Command) (role : ℕ) (says : Command → Option Bool) →
    Concerns role says →
    owner_said table (with_command streams node command) role says
    ≡ said_by table node command says (owner_said table streams role says)
owner_said-push table streams node command role says concerns =
    by_owner table streams node command role says (map.get table.owners role) refl (concerns command)

pub no_owner_said : (table : Table) (role : ℕ) (says : Command → Option Bool)
    → owner_said table (λ node. []) role says ≡ false
no_owner_said table role says = nothing_said says (map.get table.owners role)
