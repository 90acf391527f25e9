-- How digits are read as an event. Serves the code, and no public contract.
use Rattle.std.specs.Prelude.{ℕ, ◌+◌, ◌-◌, ◌*◌, ◌==◌, nat_lt, nat_le, if◌then◌else◌}
use Rattle.std.specs.Prelude.{List, [], ◌∷◌, length, take, drop, Option, Some, None, option_map}
use Rattle.quorum_sizes.specs.Sizes.{Counts, name_due}
use Rattle.role_commands.specs.Numbers.{◌>>=◌}
use Rattle.role_commands.specs.declared.command.Command.{Command}
use Rattle.role_commands.specs.declared.command.Command.TheVariants.{Assign, Deassign, Grant, Revoke, Clear}
use Rattle.link_frames.specs.frames.Packets.{PacketValue, packet_due}
use Rattle.link_frames.specs.declared.frames.kind.Kind.{Kind}
use Rattle.link_frames.specs.declared.frames.kind.Kind.TheVariants.{Send, Echo, Ready}
use Rattle.batch_journal.specs.Digits.{is_digit}
use Rattle.role_sessions.specs.declared.event.ClientEvent.{ClientEvent}
use Rattle.role_sessions.specs.declared.event.ClientEvent.TheVariants.{Open, Activate, DropRole, Close}
use Rattle.role_node.specs.declared.event.Event.{Event}
use Rattle.role_node.specs.declared.event.Event.TheVariants.{Issue, Take, Client}

-- what is at most a limit
abbrev pub up_to : ℕ → ℕ → Option ℕ
up_to most n = if nat_le n most then Some n else None

-- the number below 2^64 of these digits, the lowest first
unfoldable pub number_of : List ℕ → Option ℕ
number_of [] = Some 0
number_of (digit ∷ digits) = if is_digit digit then (do
  high ← number_of digits
  up_to 18446744073709551615 (high * 120 + (digit - 129))) else None

-- the number of so many digits at the front, if it is at most this, and what is behind
unfoldable pub number_at : ℕ → ℕ → List ℕ → Option (ℕ × List ℕ)
number_at width most digits = if nat_le width (length digits) then (do
  number ← number_of (take width digits)
  n ← up_to most number
  Some (n, drop width digits)) else None

-- the name of a node of these sizes
unfoldable pub name_at : Counts → List ℕ → Option (ℕ × List ℕ)
name_at s digits = do
  index ← number_at 2 127 digits
  name ← name_due s index.0
  Some (name, index.1)

-- a role and a user; a role, an operation and an object; a session, a user and a role
unfoldable pub role_and_user_at : List ℕ → Option ((ℕ × ℕ) × List ℕ)
role_and_user_at digits = do
  role ← number_at 3 65535 digits
  user ← number_at 5 4294967295 role.1
  Some ((role.0, user.0), user.1)

unfoldable pub permission_at : List ℕ → Option ((ℕ × ℕ × ℕ) × List ℕ)
permission_at digits = do
  role ← number_at 3 65535 digits
  operation ← number_at 3 65535 role.1
  object ← number_at 5 4294967295 operation.1
  Some ((role.0, operation.0, object.0), object.1)

unfoldable pub session_and_role_at : List ℕ → Option ((ℕ × ℕ × ℕ) × List ℕ)
session_and_role_at digits = do
  session ← number_at 10 18446744073709551615 digits
  user ← number_at 5 4294967295 session.1
  role ← number_at 3 65535 user.1
  Some ((session.0, user.0, role.0), role.1)

-- the command with this number
unfoldable pub command_at : ℕ → List ℕ → Option (Command × List ℕ)
command_at number digits =
    if number == 0 then option_map (λ r. (Assign r.0.1 r.0.0, r.1)) (role_and_user_at digits)
    else (if number == 1 then option_map (λ r. (Deassign r.0.1 r.0.0, r.1)) (role_and_user_at digits)
    else (if number == 2 then option_map (λ r. (Grant r.0.0 r.0.1 r.0.2, r.1)) (permission_at digits)
    else (if number == 3 then option_map (λ r. (Revoke r.0.0 r.0.1 r.0.2, r.1)) (permission_at digits)
    else (if number == 4 then option_map (λ r. (Clear r.0, r.1)) (number_at 3 65535 digits) else None))))

-- the packet of this kind to a node, whose command has this number
unfoldable pub packet_at : Counts → ℕ → Kind → ℕ → List ℕ → Option (PacketValue × List ℕ)
packet_at s me kind number digits = do
  from ← name_at s digits
  owner ← name_at s from.1
  place ← number_at 3 1048575 owner.1
  command ← command_at number place.1
  packet ← packet_due from.0 me (record { kind = kind; owner = owner.0; place = place.0; command = command.0 })
  Some (packet, command.1)

-- what a client does with this number
unfoldable pub act_at : ℕ → List ℕ → Option (ClientEvent × List ℕ)
act_at number digits =
    if number == 20 then option_map (λ r. (Open r.0, r.1)) (number_at 5 4294967295 digits)
    else (if number == 21 then option_map (λ r. (Activate r.0.0 r.0.1 r.0.2, r.1)) (session_and_role_at digits)
    else (if number == 22 then option_map (λ r. (DropRole r.0.0 r.0.1 r.0.2, r.1)) (session_and_role_at digits)
    else (if number == 23 then (do
      session ← number_at 10 18446744073709551615 digits
      user ← number_at 5 4294967295 session.1
      Some (Close session.0 user.0, user.1)) else None)))

-- the event with this number
unfoldable pub numbered_event : Counts → ℕ → ℕ → List ℕ → Option (Event × List ℕ)
numbered_event s me number digits =
    if nat_lt number 5 then option_map (λ r. (Issue r.0, r.1)) (command_at number digits)
    else (if nat_lt number 10 then option_map (λ r. (Take r.0, r.1)) (packet_at s me Send (number - 5) digits)
    else (if nat_lt number 15 then option_map (λ r. (Take r.0, r.1)) (packet_at s me Echo (number - 10) digits)
    else (if nat_lt number 20 then option_map (λ r. (Take r.0, r.1)) (packet_at s me Ready (number - 15) digits)
    else option_map (λ r. (Client r.0, r.1)) (act_at number digits))))

-- the event at the front of digits
unfoldable pub event_at : Counts → ℕ → List ℕ → Option (Event × List ℕ)
event_at s me digits = do
  number ← number_at 1 119 digits
  numbered_event s me number.0 number.1
