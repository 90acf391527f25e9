-- What the program takes of a cluster text: what sets up its node, and nothing that is kept for later.
use Rattle.std.specs.Prelude.{◌≡◌, ◌≢◌, ◌⊎◌, ⊤, ℕ, ◌+◌, ◌<◌, ◌≤◌, nat_lt, if◌then◌else◌, List, length, codes}
use Rattle.std.specs.Prelude.{Option, Some, None, is_some, option_and_then, Result, Ok, Err}
use Rattle.std.specs.FinMap as map
use Rattle.std.specs.declared.net.ip_addr.IpAddr.{IpAddr}
use Rattle.serde_json.specs.Data.{Data}
use Rattle.serde_json.specs.Find.{get}
use Rattle.role_commands.specs.Tables.{Table}
use Rattle.client_lines.specs.Json.{json_of}
use Rattle.link_frames.specs.lines.LinePrograms.{HasBytes}
use Rattle.cluster_text.specs.Setups.{setup_due, most_text_bytes}
use Rattle.cluster_text.specs.declared.cluster.Mode.TheVariants.{Serve}
use Rattle.cluster_text.specs.declared.cluster.Setup.{Setup}
use Rattle.cluster_hosts.specs.Hosts.{AreHostsIn}
use Rattle.cluster_hosts.specs.declared.hosts.Given.{Given}
use Rattle.cluster_hosts.specs.declared.fault.GivenFault.{GivenFault}
use Rattle.cluster_hosts.specs.declared.fault.GivenFault.TheVariants as fault
use Rattle.cluster_hosts.specs.declared.reserved.Reserved.{Reserved}
use Rattle.cluster_hosts.specs.declared.reserved.Reserved.TheVariants.{Epoch, Since, Slots, Length, MostPairs, Roles}

abbrev pub reserved_name : Reserved → List ℕ
reserved_name Epoch = codes "epoch"
reserved_name Since = codes "since"
reserved_name Slots = codes "slots"
reserved_name Length = codes "length"
reserved_name MostPairs = codes "most_pairs"
reserved_name Roles = codes "roles"

-- this member, where the text has it, and else that one
abbrev pub or_else : Data → Reserved → Option Reserved → Option Reserved
or_else text member other = if is_some (get (reserved_name member) text) then Some member else other

-- the first member that is kept for later, in this order
unfoldable pub reserved_member : Data → Option Reserved
reserved_member text =
    or_else text Epoch (or_else text Since (or_else text Slots (or_else text Length (or_else text MostPairs None))))

-- the same of the bytes of a text; one that is too long is not looked at
unfoldable pub reserved_in : List ℕ → Option Reserved
reserved_in bytes =
    if nat_lt most_text_bytes (length bytes) then None else option_and_then reserved_member (json_of bytes)

-- a role from 65,408 on is in the table
abbrev pub HasReservedRole : Table → Type 0
HasReservedRole t = (number : ℕ) × (number < 128) × (map.get t.owners (65408 + number) ≢ None)

-- The node that the text sets up and the hosts that it says; or the first member that is kept for later, and then the
-- fault that is due to the text, and then that a role is kept for later, and then that there are no such hosts. Memory
-- may be wanting for a text that is not too long.
abbrev pub IsGiven : List ℕ → Result Given GivenFault → Type 0
IsGiven text (Ok given) =
    (reserved_in text ≡ None) × (setup_due Serve text ≡ Ok given.setup)
    × (HasReservedRole given.setup.config.roles → ⊥)
    × AreHostsIn text given.setup.config.roles.sizes.nodes given.hosts
IsGiven text (Err (fault.Reserved member)) =
    (reserved_in text ≡ Some member) ⊎ ((member ≡ Roles) × (reserved_in text ≡ None)
    × ((setup : Setup) × (setup_due Serve text ≡ Ok setup) × HasReservedRole setup.config.roles))
IsGiven text (Err (fault.Cluster f)) = (reserved_in text ≡ None) × (setup_due Serve text ≡ Err f)
IsGiven text (Err fault.Hosts) =
    (reserved_in text ≡ None)
    × ((setup : Setup) × (setup_due Serve text ≡ Ok setup) × (HasReservedRole setup.config.roles → ⊥)
    × ((hosts : List IpAddr) → AreHostsIn text setup.config.roles.sizes.nodes hosts → ⊥))
IsGiven text (Err fault.Unread) = ⊥
IsGiven text (Err fault.Memory) = length text ≤ most_text_bytes

-- the same of all that a reader had
abbrev pub GivenRead : Option (List ℕ) → Result Given GivenFault → Type 0
GivenRead reader (Err fault.Unread) = ⊤
GivenRead reader (Err fault.Memory) = ⊤
GivenRead reader result = (text : List ℕ) × HasBytes reader text × IsGiven text result
