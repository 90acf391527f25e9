-- How a node's events stand in its journal, as digits: 4 to 19 for each.
use Rattle.std.specs.Prelude.{ℕ, ◌+◌, ◌^◌, ◌<◌, IsTrue, List, ◌++◌}
use Rattle.std.specs.List.{flat_map}
use Rattle.quorum_sizes.specs.Sizes.{Counts}
use Rattle.role_commands.specs.Words.{IsCommand}
use Rattle.role_commands.specs.declared.command.Command.{Command}
use Rattle.role_commands.specs.declared.command.Command.TheVariants.{Assign, Deassign, Grant, Revoke, Clear}
use Rattle.link_frames.specs.frames.Packets.{IsPacket}
use Rattle.link_frames.specs.declared.frames.kind.Kind.{Kind}
use Rattle.link_frames.specs.declared.frames.kind.Kind.TheVariants.{Send, Echo, Ready}
use Rattle.batch_journal.specs.Digits.{digits_of}
use Rattle.role_sessions.specs.declared.event.ClientEvent.{ClientEvent}
use Rattle.role_sessions.specs.declared.event.ClientEvent.TheVariants.{Open, Activate, DropRole, Close}
use Rattle.role_node.specs.Answers.{is_routed}
use Rattle.role_node.specs.declared.event.Event.{Event}
use Rattle.role_node.specs.declared.event.Event.TheVariants.{Issue, Take, Client}

-- The first digit says what happens: a command is published (0 to 4), a packet is taken (5 to 19), a client acts (20 to
-- 23).
abbrev pub command_number : Command → ℕ
command_number (Assign user role) = 0
command_number (Deassign user role) = 1
command_number (Grant role operation object) = 2
command_number (Revoke role operation object) = 3
command_number (Clear role) = 4

abbrev pub kind_number : Kind → ℕ
kind_number Send = 5
kind_number Echo = 10
kind_number Ready = 15

abbrev pub act_number : ClientEvent → ℕ
act_number (Open user) = 20
act_number (Activate session user role) = 21
act_number (DropRole session user role) = 22
act_number (Close session user) = 23

abbrev pub event_number : Event → ℕ
event_number (Issue command) = command_number command
event_number (Take p) = kind_number p.kind + command_number p.command
event_number (Client act) = act_number act

-- Behind it stand its numbers: a node's name has 2 digits, a role, an operation and a place 3, a user and an object 5,
-- a session 10.
abbrev pub command_digits : Command → List ℕ
command_digits (Assign user role) = digits_of 3 role ++ digits_of 5 user
command_digits (Deassign user role) = digits_of 3 role ++ digits_of 5 user
command_digits (Grant role operation object) = digits_of 3 role ++ digits_of 3 operation ++ digits_of 5 object
command_digits (Revoke role operation object) = digits_of 3 role ++ digits_of 3 operation ++ digits_of 5 object
command_digits (Clear role) = digits_of 3 role

abbrev pub act_digits : ClientEvent → List ℕ
act_digits (Open user) = digits_of 5 user
act_digits (Activate session user role) = digits_of 10 session ++ digits_of 5 user ++ digits_of 3 role
act_digits (DropRole session user role) = digits_of 10 session ++ digits_of 5 user ++ digits_of 3 role
act_digits (Close session user) = digits_of 10 session ++ digits_of 5 user

-- to whom a packet goes is not said: it is the node itself
abbrev pub behind_number : Event → List ℕ
behind_number (Issue command) = command_digits command
behind_number (Take p) = digits_of 2 p.from ++ digits_of 2 p.owner ++ digits_of 3 p.place ++ command_digits p.command
behind_number (Client act) = act_digits act

unfoldable pub event_digits : Event → List ℕ
event_digits event = digits_of 1 (event_number event) ++ behind_number event

-- one event after another
abbrev pub digits_of_events : List Event → List ℕ
digits_of_events events = flat_map event_digits events

-- the numbers of what a client does are within their widths
abbrev pub IsAct : ClientEvent → Type 0
IsAct (Open user) = user < 2 ^ 32
IsAct (Activate session user role) = (session < 2 ^ 64) × (user < 2 ^ 32) × (role < 2 ^ 16)
IsAct (DropRole session user role) = (session < 2 ^ 64) × (user < 2 ^ 32) × (role < 2 ^ 16)
IsAct (Close session user) = (session < 2 ^ 64) × (user < 2 ^ 32)

-- the numbers of an event are
abbrev pub IsEvent : Event → Type 0
IsEvent (Issue command) = IsCommand command
IsEvent (Take p) = IsPacket p
IsEvent (Client act) = IsAct act

-- of a node of these sizes and this name: a packet is for it, from a node and about a node's stream
abbrev pub IsEventOf : Counts → ℕ → Event → Type 0
IsEventOf s me (Issue command) = IsCommand command
IsEventOf s me (Take p) = IsPacket p × IsTrue (is_routed s me p)
IsEventOf s me (Client act) = IsAct act
