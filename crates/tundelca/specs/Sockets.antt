-- At which doors a node is served, and when a socket is made at a path.
use Rattle.std.specs.Prelude.{ℕ, ◌%◌, ◌/◌, ◌==◌, nat_lt, Bool, true, false, ◌&&◌, ◌||◌, if◌then◌else◌}
use Rattle.std.specs.Prelude.{Option, None, Some, Result, Ok, Err}
use Rattle.std.specs.declared.io.ErrorKind.{ErrorKind}
use Rattle.std.specs.declared.io.ErrorKind.TheVariants as kind
use Rattle.tundelca.specs.declared.entries.EntriesFault.{EntriesFault}
use Rattle.tundelca.specs.declared.entries.EntriesFault.TheVariants.{NoDoor, Path}
use Rattle.tundelca.specs.declared.socket.AtPath.{AtPath}
use Rattle.tundelca.specs.declared.socket.AtPath.TheVariants as at
use Rattle.tundelca.specs.declared.socket.SocketFault.{SocketFault}
use Rattle.tundelca.specs.declared.socket.SocketFault.TheVariants as why

-- the most bytes of a socket's path
abbrev pub most_path : ℕ
most_path = 107

abbrev pub path_fault : ℕ → Option EntriesFault
path_fault size = if (size == 0) || nat_lt most_path size then Some Path else None

-- A door there has to be: the port, or a socket, whose path an address can hold.
abbrev pub entries_fault : Bool → Option ℕ → Option EntriesFault
entries_fault port None = if port then None else Some NoDoor
entries_fault port (Some size) = path_fault size

-- Of a folder's mode: others have nothing in it, and its group may not write.
abbrev pub keeps_out : ℕ → Bool
keeps_out mode = (mode % 8 == 0) && ((mode / 16) % 2 == 0)

-- Whether what stands at a path is removed before the socket is made; where it stays there is no socket.
abbrev pub removes : AtPath → Result Bool SocketFault
removes at.Nothing = Ok false
removes at.DeadSocket = Ok true
removes at.LiveSocket = Err why.IsServed
removes at.Other = Err why.IsNoSocket
removes at.Unknown = Err why.IsUnknown

-- What a socket is to which no connection can be made, as the system answers: dead where it refuses, and not where it
-- has no room for one more.
abbrev pub refused_by : ErrorKind → AtPath
refused_by kind.ConnectionRefused = at.DeadSocket
refused_by kind.WouldBlock = at.LiveSocket
refused_by kind.NotFound = at.Nothing
refused_by _ = at.Unknown
