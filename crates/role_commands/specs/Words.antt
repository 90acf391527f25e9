-- A command as words: its name and its numbers, with one space between them.
use Rattle.std.specs.Prelude.{ℕ, ◌^◌, ◌<◌, List, ◌++◌, codes}
use Rattle.std.specs.Fmt.{decimal}
use Rattle.role_commands.specs.declared.command.Command.{Command}
use Rattle.role_commands.specs.declared.command.Command.TheVariants.{Assign, Deassign, Grant, Revoke, Clear}

-- users and objects have 32 bits, roles and operations have 16
abbrev pub IsCommand : Command → Type 0
IsCommand (Assign user role) = (user < 2 ^ 32) × (role < 2 ^ 16)
IsCommand (Deassign user role) = (user < 2 ^ 32) × (role < 2 ^ 16)
IsCommand (Grant role operation object) = (role < 2 ^ 16) × (operation < 2 ^ 16) × (object < 2 ^ 32)
IsCommand (Revoke role operation object) = (role < 2 ^ 16) × (operation < 2 ^ 16) × (object < 2 ^ 32)
IsCommand (Clear role) = role < 2 ^ 16

abbrev pub one_word : List ℕ → ℕ → List ℕ
one_word name a = name ++ codes " " ++ decimal a

abbrev pub two_words : List ℕ → ℕ → ℕ → List ℕ
two_words name a b = name ++ codes " " ++ decimal a ++ codes " " ++ decimal b

abbrev pub three_words : List ℕ → ℕ → ℕ → ℕ → List ℕ
three_words name a b c = name ++ codes " " ++ decimal a ++ codes " " ++ decimal b ++ codes " " ++ decimal c

-- the text of a command
abbrev pub spelling : Command → List ℕ
spelling (Assign user role) = two_words (codes "assign") user role
spelling (Deassign user role) = two_words (codes "deassign") user role
spelling (Grant role operation object) = three_words (codes "grant") role operation object
spelling (Revoke role operation object) = three_words (codes "revoke") role operation object
spelling (Clear role) = one_word (codes "clear") role
