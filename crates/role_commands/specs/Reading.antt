-- Which command a text is, if it is one: its first word names the kind, and behind it stand exactly the
-- kind's numbers, each within its field. `one_spelling` says that this is the command with this spelling.
use Rattle.std.specs.Prelude.{ℕ, List, [], ◌∷◌, codes, Option, Some, option_map}
use Rattle.std.specs.Map.{lookup}
use Rattle.std.specs.Str.{bytes_eq}
use Rattle.role_commands.specs.Numbers.{split_word, ◌>>=◌}
use Rattle.role_commands.specs.declared.command.Command.{Command}
use Rattle.role_commands.specs.declared.command.Command.TheVariants.{Assign, Deassign, Grant, Revoke, Clear}
-- users and objects have 32 bits, roles and operations have 16
pub use Rattle.role_commands.specs.Numbers.{wide_number, narrow_number}

-- a user and a role
unfoldable pub user_and_role : List ℕ → Option (ℕ × ℕ)
user_and_role text = do
  words ← split_word text
  user ← wide_number words.0
  role ← narrow_number words.1
  Some (user, role)

-- an operation and an object
unfoldable pub operation_and_object : List ℕ → Option (ℕ × ℕ)
operation_and_object text = do
  words ← split_word text
  operation ← narrow_number words.0
  object ← wide_number words.1
  Some (operation, object)

-- a role, and the permission behind it
unfoldable pub role_and_permission : List ℕ → Option (ℕ × ℕ × ℕ)
role_and_permission text = do
  words ← split_word text
  role ← narrow_number words.0
  permission ← operation_and_object words.1
  Some (role, permission.0, permission.1)

-- the name of each kind of command, and how the numbers behind it are read
abbrev pub kinds : List (List ℕ × (List ℕ → Option Command))
kinds =
    (codes "assign", λ numbers. option_map (λ n. Assign n.0 n.1) (user_and_role numbers))
    ∷ (codes "deassign", λ numbers. option_map (λ n. Deassign n.0 n.1) (user_and_role numbers))
    ∷ (codes "grant", λ numbers. option_map (λ n. Grant n.0 n.1 n.2) (role_and_permission numbers))
    ∷ (codes "revoke", λ numbers. option_map (λ n. Revoke n.0 n.1 n.2) (role_and_permission numbers))
    ∷ (codes "clear", λ numbers. option_map Clear (narrow_number numbers))
    ∷ []

-- the command of a name and the numbers behind it
unfoldable pub named_command : List ℕ → List ℕ → Option Command
named_command name numbers = do
  read ← lookup (bytes_eq name) kinds
  read numbers

-- the command that the text is
unfoldable pub command_of : List ℕ → Option Command
command_of text = do
  words ← split_word text
  named_command words.0 words.1
