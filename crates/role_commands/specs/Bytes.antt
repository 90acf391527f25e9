-- A command as nine bytes: its tag, its role in two bytes, its user or object in four and its operation in
-- two, zero where it has none, each number with its highest byte first.
use Rattle.std.specs.Prelude.{ℕ, ◌<◌, ◌^◌, ◌==◌, if◌then◌else◌, List, ◌∷◌, ◌++◌, take}
use Rattle.std.specs.Prelude.{drop, slice_index, Option, Some, None, option_and_then}
use Rattle.std.specs.Int.{w16, w32, to_be_bytes, from_be_bytes}
use Rattle.std.specs.Str.{bytes_eq}
use Rattle.role_commands.specs.declared.command.Command.{Command}
use Rattle.role_commands.specs.declared.command.Command.TheVariants.{Assign, Deassign, Grant, Revoke, Clear}

-- how many bytes a command has
abbrev pub command_length : ℕ
command_length = 9

abbrev pub fields_bytes : ℕ → ℕ → ℕ → ℕ → List ℕ
fields_bytes tag role user_or_object operation =
    tag ∷ (to_be_bytes w16 role ++ to_be_bytes w32 user_or_object ++ to_be_bytes w16 operation)

-- the bytes of a command
unfoldable pub bytes_of : Command → List ℕ
bytes_of (Assign user role) = fields_bytes 1 role user 0
bytes_of (Deassign user role) = fields_bytes 2 role user 0
bytes_of (Grant role operation object) = fields_bytes 3 role object operation
bytes_of (Revoke role operation object) = fields_bytes 4 role object operation
bytes_of (Clear role) = fields_bytes 5 role 0 0

-- so many bytes from a place on
abbrev pub part : ℕ → ℕ → List ℕ → List ℕ
part at n bytes = take n (drop at bytes)

-- each number is a byte
abbrev pub IsBytes : List ℕ → Type 0
IsBytes bytes = (i : ℕ) → slice_index bytes i < 2 ^ 8

-- the command of a tag and three numbers
abbrev pub tagged : ℕ → ℕ → ℕ → ℕ → Option Command
tagged tag role user_or_object operation =
    if tag == 1 then Some (Assign user_or_object role)
    else (if tag == 2 then Some (Deassign user_or_object role)
    else (if tag == 3 then Some (Grant role operation user_or_object)
    else (if tag == 4 then Some (Revoke role operation user_or_object)
    else (if tag == 5 then Some (Clear role)
    else None))))

-- the command whose bytes these are, if there is one
unfoldable pub command_in : List ℕ → Option Command
command_in bytes =
    option_and_then (λ c. if bytes_eq bytes (bytes_of c) then Some c else None)
    (tagged (slice_index bytes 0) (from_be_bytes w16 (part 1 2 bytes)) (from_be_bytes w32 (part 3 4 bytes))
    (from_be_bytes w16 (part 7 2 bytes)))
