-- The node that a cluster text sets up.
use Rattle.std.specs.Prelude.{◌≡◌, ◌<◌, ⊤, ℕ, nat_lt, nat_le, ◌==◌, not, if◌then◌else◌, List}
use Rattle.std.specs.Prelude.{[], ◌∷◌, length, Option, Some, None, is_some, Result, Ok, Err}
use Rattle.std.specs.List.{list_any}
use Rattle.serde_json.specs.Data.{Data}
use Rattle.serde_json.specs.Find.{as_object}
use Rattle.quorum_sizes.specs.Sizes.{Counts}
use Rattle.quorum_sizes.specs.Refusals.{sizes_due}
use Rattle.quorum_sizes.specs.declared.sizes.SizeFault.{SizeFault}
use Rattle.role_commands.specs.Tables.{Table, no_roles, with_role, most_roles}
use Rattle.role_commands.specs.TableFaults.{add_due}
use Rattle.role_commands.specs.declared.table.TableFault.{TableFault}
use Rattle.role_commands.specs.declared.table.TableFault.TheVariants as table
use Rattle.role_node.specs.Configs.{most_events}
use Rattle.client_lines.specs.Json.{json_of}
use Rattle.client_lines.specs.Results.{◌>>=◌}
use Rattle.client_lines.specs.declared.member.Member.TheVariants.{N, Me, Keys, Nodes}
use Rattle.cluster_text.specs.Shapes.{Shape, shape_of}
use Rattle.cluster_text.specs.declared.cluster.Mode.{Mode}
use Rattle.cluster_text.specs.declared.cluster.Mode.TheVariants.{Pipe, Serve}
use Rattle.cluster_text.specs.declared.cluster.Setup.{Setup}
use Rattle.cluster_text.specs.declared.fault.ClusterFault.{ClusterFault}
use Rattle.cluster_text.specs.declared.fault.ClusterFault.TheVariants as fault

-- the most bytes of a cluster text
abbrev pub most_text_bytes : ℕ
most_text_bytes = 65536

abbrev pub or_sizes_fault : Result Counts SizeFault → Result Counts ClusterFault
or_sizes_fault (Ok s) = Ok s
or_sizes_fault (Err f) = Err (fault.Sizes f)

-- there are a key and a port of each node
abbrev pub IsServerSetup : Setup → Type 0
IsServerSetup setup = (length setup.keys ≡ setup.config.roles.sizes.nodes)
    × (length setup.nodes ≡ setup.config.roles.sizes.nodes)

-- a setup to serve has them
abbrev pub IsSetupIn : Mode → Setup → Type 0
IsSetupIn Pipe setup = ⊤
IsSetupIn Serve setup = IsServerSetup setup

-- so many keys and ports are there
abbrev pub AreCounted : Mode → Counts → ℕ → ℕ → Type 0
AreCounted Pipe s keys nodes = ⊤
AreCounted Serve s keys nodes = (keys ≡ s.nodes) × (nodes ≡ s.nodes)

-- the node's own name is a node's, and a pipe has one node
unfoldable pub name_of : Mode → Counts → ℕ → Result ℕ ClusterFault
name_of Pipe s me =
    if not (s.nodes == 1) then Err (fault.OutOfRange N)
    else (if nat_lt me s.nodes then Ok me else Err (fault.OutOfRange Me))
name_of Serve s me = if nat_lt me s.nodes then Ok me else Err (fault.OutOfRange Me)

abbrev pub or_table_fault : Table → Option TableFault → Result Table ClusterFault
or_table_fault t None = Ok t
or_table_fault t (Some f) = Err (fault.Table f)

-- the table with these roles and their owners, added in their order
unfoldable pub table_of : Table → List (ℕ × ℕ) → Result Table ClusterFault
table_of t [] = Ok t
table_of t (pair ∷ pairs) = do
  more ← or_table_fault (with_role t pair.0 pair.1) (add_due t pair.0 pair.1)
  table_of more pairs

-- a server has a key and a port of each node
unfoldable pub counted : Mode → Counts → ℕ → ℕ → Result (Unit {0}) ClusterFault
counted Pipe s keys nodes = Ok tt
counted Serve s keys nodes =
    if not (keys == s.nodes) then Err (fault.OutOfRange Keys)
    else (if not (nodes == s.nodes) then Err (fault.OutOfRange Nodes) else Ok tt)

-- the setup of these members, or the first fault that holds
unfoldable pub setup_of : Mode → Shape → Result Setup ClusterFault
setup_of mode shape = do
  s ← or_sizes_fault (sizes_due shape.n shape.f)
  me ← name_of mode s shape.me
  roles ← table_of (no_roles s) shape.roles
  all ← counted mode s (length shape.keys) (length shape.nodes)
  Ok (record {
    config = record { cluster = shape.cluster; roles = roles; limit = most_events };
    me = me;
    keys = shape.keys;
    nodes = shape.nodes;
    client = shape.client;
  })

unfoldable pub setup_of_value : Mode → Data → Result Setup ClusterFault
setup_of_value mode text =
    if is_some (as_object text) then shape_of mode text >>= setup_of mode else Err fault.NotObject

abbrev pub setup_if_json : Mode → Option Data → Result Setup ClusterFault
setup_if_json mode None = Err fault.NotJson
setup_if_json mode (Some text) = setup_of_value mode text

-- the setup that a text of these bytes says, or the first fault that holds
unfoldable pub setup_due : Mode → List ℕ → Result Setup ClusterFault
setup_due mode bytes =
    if nat_lt most_text_bytes (length bytes) then Err fault.NotJson else setup_if_json mode (json_of bytes)

-- ---- steps of the code

-- the fault alone, where there is one
abbrev pub checked : {A : Type 0} → Result A ClusterFault → Result (Unit {0}) ClusterFault
checked (Ok x) = Ok tt
checked (Err f) = Err f

-- the first fault of a role with its owner behind these others, each of another role
abbrev pub fault_behind : Counts → List (ℕ × ℕ) → (ℕ × ℕ) → Option TableFault
fault_behind s before pair =
    if nat_le s.nodes pair.1 then Some table.NoSuchNode
    else (if list_any (λ other. pair.0 == other.0) before then Some table.Repeated
    else (if nat_le most_roles (length before) then Some table.TooManyRoles
    else None))

-- the node's own name is a node's
abbrev pub IsNodeSetup : Setup → Type 0
IsNodeSetup setup = setup.me < setup.config.roles.sizes.nodes
