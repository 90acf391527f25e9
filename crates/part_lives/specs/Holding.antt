-- Which pairs hold by an owner's commands, where it may have only so many.
use Rattle.std.specs.Prelude.{ℕ, ◌==◌, Bool, false, not, List, [], ◌∷◌, Option, Some, None}
use Rattle.std.specs.Cmp.Lexicographic.{slice_cmp}
use Rattle.std.specs.Ordering.{nat_cmp, on}
use Rattle.std.specs.declared.cmp.Ordering.{Ordering}
use Rattle.std.specs.Option.{option_map_or}
use Rattle.std.specs.FinSet as sets
use Rattle.role_commands.specs.declared.command.Command.{Command}
use Rattle.role_commands.specs.declared.command.Command.TheVariants.{Assign, Deassign, Grant, Revoke, Clear}

-- a user has a role, or a role may do an operation on an object
pub data Pair : Type 0 where
  Assigned : (user role : ℕ) → Pair
  Granted : (operation object role : ℕ) → Pair

abbrev pub pair_role : Pair → ℕ
pair_role (Assigned user role) = role
pair_role (Granted operation object role) = role

abbrev pub pair_key : Pair → List ℕ
pair_key (Assigned user role) = 0 ∷ user ∷ role ∷ []
pair_key (Granted operation object role) = 1 ∷ operation ∷ object ∷ role ∷ []

abbrev pub pair_cmp : Pair → Pair → Ordering
pair_cmp = on pair_key (slice_cmp nat_cmp)

abbrev pub Pairs : Type 0
Pairs = sets.FinSet pair_cmp

-- the pair that the command makes hold
abbrev pub pair_of : Command → Option Pair
pair_of (Assign user role) = Some (Assigned user role)
pair_of (Grant role operation object) = Some (Granted operation object role)
pair_of command = None

-- the command that makes the pair hold
abbrev pub command_of : Pair → Command
command_of (Assigned user role) = Assign user role
command_of (Granted operation object role) = Grant role operation object

-- what holds after a command that has its effect
abbrev pub after_command : Pairs → Command → Pairs
after_command pairs (Assign user role) = sets.insert pairs (Assigned user role)
after_command pairs (Deassign user role) = sets.remove pairs (Assigned user role)
after_command pairs (Grant role operation object) = sets.insert pairs (Granted operation object role)
after_command pairs (Revoke role operation object) = sets.remove pairs (Granted operation object role)
after_command pairs (Clear role) = sets.retain pairs (λ pair. not (pair_role pair == role))

-- the command makes a pair hold that doesn't yet
abbrev pub adds : Pairs → Command → Bool
adds pairs command = option_map_or (λ pair. not (sets.contains pairs pair)) (pair_of command) false
