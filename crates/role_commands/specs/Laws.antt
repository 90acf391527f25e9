-- What reading and writing a command are to each other.
use Rattle.std.specs.Prelude.{◌≡◌, ℕ, List, length, Some, true}
use Rattle.role_commands.specs.Words.{spelling, IsCommand}
use Rattle.role_commands.specs.Reading.{command_of}
use Rattle.role_commands.specs.Same.{same_command}
use Rattle.role_commands.specs.Bytes.{bytes_of, command_length}
use Rattle.role_commands.specs.declared.command.Command.{Command}

-- a command that is written is read
abbrev pub CommandsAreRead : Type 0
CommandsAreRead = (c : Command) → IsCommand c → command_of (spelling c) ≡ Some c

-- a text that is read as a command is what is written for it
abbrev pub CommandsAreSpelled : Type 0
CommandsAreSpelled = (text : List ℕ) (c : Command) → command_of text ≡ Some c → (text ≡ spelling c) × IsCommand c

-- two commands with one spelling are one
abbrev pub SpellingsDiffer : Type 0
SpellingsDiffer = (c d : Command) → IsCommand c → IsCommand d → spelling c ≡ spelling d → c ≡ d

-- comparing a command with itself finds it the same
abbrev pub CommandsAreThemselves : Type 0
CommandsAreThemselves = (c : Command) → same_command c c ≡ true

-- commands that are found the same are one
abbrev pub SameCommandsAreOne : Type 0
SameCommandsAreOne = (c d : Command) → same_command c d ≡ true → c ≡ d

-- two commands with the same bytes are one
abbrev pub BytesDiffer : Type 0
BytesDiffer = (c d : Command) → IsCommand c → IsCommand d → bytes_of c ≡ bytes_of d → c ≡ d

-- a command has nine bytes
abbrev pub NineBytes : Type 0
NineBytes = (c : Command) → length (bytes_of c) ≡ command_length
