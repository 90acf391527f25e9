-- Where the nodes of a cluster are, by its text.
use Rattle.std.specs.Prelude.{◌≡◌, ℕ, List, [], ◌∷◌, map, length, codes, slice_get, Option, Some, None, option_and_then}
use Rattle.std.specs.List.{All, AllZip}
use Rattle.std.specs.Net.Addr.{IsV4And, ipv4_octets}
use Rattle.std.specs.Net.Grammar.{IsIpText}
use Rattle.std.specs.Net.Socket.{socket_ip, socket_port}
use Rattle.std.specs.declared.net.ip_addr.IpAddr.{IpAddr}
use Rattle.std.specs.declared.net.socket_addr.SocketAddr.{SocketAddr}
use Rattle.serde_json.specs.Data.{Data}
use Rattle.serde_json.specs.Find.{get, as_str}
use Rattle.client_lines.specs.Json.{json_of}
use Rattle.cluster_text.specs.Shapes.{list_of}
use Rattle.cluster_hosts.specs.declared.hosts.Given.{Given}

-- the value is the text of this address
abbrev pub IsHost : Data → IpAddr → Type 0
IsHost value host = (text : List ℕ) × (as_str value ≡ Some text) × IsIpText text host

-- 127.0.0.1, by which a machine speaks to itself
abbrev pub IsThisMachine : IpAddr → Type 0
IsThisMachine host = IsV4And host (λ ip. ipv4_octets ip ≡ 127 ∷ 0 ∷ 0 ∷ 1 ∷ [])

-- the hosts of so many nodes: those of the member's list, and where there is no member all this machine
abbrev pub AreHosts : Option Data → ℕ → List IpAddr → Type 0
AreHosts None nodes hosts = (length hosts ≡ nodes) × All IsThisMachine hosts
AreHosts (Some member) nodes hosts =
    (items : List Data) × (list_of member ≡ Some items) × (length items ≡ nodes) × AllZip IsHost items hosts

unfoldable pub hosts_member : List ℕ → Option Data
hosts_member bytes = option_and_then (get (codes "hosts")) (json_of bytes)

-- the same of the bytes of a text
abbrev pub AreHostsIn : List ℕ → ℕ → List IpAddr → Type 0
AreHostsIn bytes nodes hosts = AreHosts (hosts_member bytes) nodes hosts

-- there is a host of each node
abbrev pub HasHosts : Given → Type 0
HasHosts given = length given.hosts ≡ given.setup.config.roles.sizes.nodes

-- the node takes frames at its own host and port
abbrev pub TakesFramesAt : Given → ℕ → SocketAddr → Type 0
TakesFramesAt given node address =
    (slice_get given.hosts node ≡ Some (socket_ip address))
    × (slice_get given.setup.nodes node ≡ Some (socket_port address))

-- the hosts of all nodes with their ports, by their index
abbrev pub AreAddresses : Given → List SocketAddr → Type 0
AreAddresses given addresses =
    (map socket_ip addresses ≡ given.hosts) × (map socket_port addresses ≡ given.setup.nodes)
