-- How the lines of a script of a cluster are written, and what reading and writing them are to each other.
use Rattle.std.specs.Prelude.{◌≡◌, ℕ, ◌<◌, ◌^◌, ⊤, List, [], ◌∷◌, ◌++◌, codes, Some}
use Rattle.std.specs.Fmt.{decimal}
use Rattle.std.specs.Str.{str_to_ascii_lowercase}
use Rattle.hex.specs.Hex.{encode_lower}
use Rattle.quorum_sizes.specs.Sizes.{Counts, AreSizes}
use Rattle.role_commands.specs.Bytes.{IsBytes}
use Rattle.role_commands.specs.Words.{spelling, IsCommand}
use Rattle.link_frames.specs.frames.Packets.{PacketValue, IsPacket}
use Rattle.role_sessions.specs.declared.event.ClientEvent.{ClientEvent}
use Rattle.role_sessions.specs.declared.event.ClientEvent.TheVariants.{Open, Activate, DropRole, Close}
use Rattle.role_node.specs.declared.question.Question.{Question}
use Rattle.role_node.specs.declared.question.Question.TheVariants.{Check, AssignedUsers, AssignedRoles}
use Rattle.role_node.specs.declared.question.Question.TheVariants.{RolePermissions, UserPermissions, RoleOperations}
use Rattle.role_node.specs.declared.question.Question.TheVariants.{UserOperations, SessionRoles, SessionPermissions}
use Rattle.byz_world.specs.declared.step.Step.{Step}
use Rattle.byz_world.specs.declared.step.Step.TheVariants.{Issue, Give, Lie, Bytes, Client}
use Rattle.lab_scripts.specs.Texts.{kind_word}
use Rattle.lab_scripts.specs.Orders.{cluster_of_line, setup_of_line, order_of_line}
use Rattle.lab_scripts.specs.declared.orders.SetupLine.{SetupLine}
use Rattle.lab_scripts.specs.declared.orders.SetupLine.TheVariants.{Owned, Liar}
use Rattle.lab_scripts.specs.declared.orders.ScriptLine.{ScriptLine}
use Rattle.lab_scripts.specs.declared.orders.ScriptLine.TheVariants.{Do, Flush, Settle, Rest, Ask, Reach, Agree}

-- `cluster N F`
abbrev pub cluster_spelling : Counts → List ℕ
cluster_spelling s = codes "cluster " ++ decimal s.nodes ++ codes " " ++ decimal s.liars

-- `role R OWNER` or `liar I`
abbrev pub setup_spelling : SetupLine → List ℕ
setup_spelling (Owned role owner) = codes "role " ++ decimal role ++ codes " " ++ decimal owner
setup_spelling (Liar node) = codes "liar " ++ decimal node

-- the name of a line, the node, and what stands behind it
abbrev pub at_node : List ℕ → ℕ → List ℕ → List ℕ
at_node name node text = name ++ codes " " ++ decimal node ++ codes " " ++ text

abbrev pub two_numbers : ℕ → ℕ → List ℕ
two_numbers a b = decimal a ++ codes " " ++ decimal b

abbrev pub three_numbers : ℕ → ℕ → ℕ → List ℕ
three_numbers a b c = decimal a ++ codes " " ++ two_numbers b c

-- `KIND FROM TO OWNER PLACE C`
abbrev pub packet_spelling : PacketValue → List ℕ
packet_spelling p =
    kind_word p.kind ++ codes " " ++ three_numbers p.from p.to p.owner ++ codes " " ++ decimal p.place ++ codes " "
    ++ spelling p.command

-- what a client does at the node
abbrev pub act_spelling : ℕ → ClientEvent → List ℕ
act_spelling node (Open user) = at_node (codes "open") node (decimal user)
act_spelling node (Activate session user role) = at_node (codes "activate") node (three_numbers session user role)
act_spelling node (DropRole session user role) = at_node (codes "drop") node (three_numbers session user role)
act_spelling node (Close session user) = at_node (codes "close") node (two_numbers session user)

-- what is asked of the node
abbrev pub question_spelling : ℕ → Question → List ℕ
question_spelling node (Check session user operation object) =
    at_node (codes "check") node (decimal session ++ codes " " ++ three_numbers user operation object)
question_spelling node (AssignedUsers role) = at_node (codes "list") node (codes "users " ++ decimal role)
question_spelling node (AssignedRoles user) = at_node (codes "list") node (codes "roles " ++ decimal user)
question_spelling node (RolePermissions role) = at_node (codes "list") node (codes "permissions " ++ decimal role)
question_spelling node (UserPermissions user) = at_node (codes "list") node (codes "user-permissions " ++ decimal user)
question_spelling node (RoleOperations role object) =
    at_node (codes "list") node (codes "operations " ++ two_numbers role object)
question_spelling node (UserOperations user object) =
    at_node (codes "list") node (codes "user-operations " ++ two_numbers user object)
question_spelling node (SessionRoles session) = at_node (codes "list") node (codes "session-roles " ++ decimal session)
question_spelling node (SessionPermissions session) =
    at_node (codes "list") node (codes "session-permissions " ++ decimal session)

-- `-` for no bytes, else two digits for each, the letters among them in lower case
abbrev pub bytes_spelling : List ℕ → List ℕ
bytes_spelling [] = codes "-"
bytes_spelling (b ∷ rest) = encode_lower (b ∷ rest)

-- what happens to the cluster
abbrev pub step_spelling : Step → List ℕ
step_spelling (Issue node command) = at_node (codes "issue") node (spelling command)
step_spelling (Give number) = codes "give " ++ decimal number
step_spelling (Lie p) = codes "lie " ++ packet_spelling p
step_spelling (Bytes to bytes) = at_node (codes "bytes") to (bytes_spelling bytes)
step_spelling (Client node act) = act_spelling node act

-- a later line of a cluster
abbrev pub order_spelling : ScriptLine → List ℕ
order_spelling (Do step) = step_spelling step
order_spelling Flush = codes "flush"
order_spelling Settle = codes "settle"
order_spelling Rest = codes "rest"
order_spelling (Ask node question) = question_spelling node question
order_spelling (Reach node owner) = at_node (codes "reach") node (decimal owner)
order_spelling (Agree one other owner) = at_node (codes "agree") one (two_numbers other owner)

-- the word spells these bytes: its letters may be of either case
abbrev pub SpellsBytes : List ℕ → List ℕ → Type 0
SpellsBytes bytes word = str_to_ascii_lowercase word ≡ bytes_spelling bytes

-- the line spells this order: each order has one line, but for the case of the letters among hexadecimal digits
abbrev pub SpellsStep : Step → List ℕ → Type 0
SpellsStep (Bytes to bytes) line = (word : List ℕ) × (line ≡ at_node (codes "bytes") to word) × SpellsBytes bytes word
SpellsStep step line = line ≡ step_spelling step

abbrev pub SpellsOrder : ScriptLine → List ℕ → Type 0
SpellsOrder (Do step) line = SpellsStep step line
SpellsOrder order line = line ≡ order_spelling order

-- roles have 16 bits, and the owner that is named with one has 8
abbrev pub IsSetup : Counts → SetupLine → Type 0
IsSetup s (Owned role owner) = (role < 2 ^ 16) × (owner < 2 ^ 8)
IsSetup s (Liar node) = node < s.nodes

-- sessions have 64 bits, users and objects 32, roles and operations 16
abbrev pub IsAct : ClientEvent → Type 0
IsAct (Open user) = user < 2 ^ 32
IsAct (Activate session user role) = (session < 2 ^ 64) × (user < 2 ^ 32) × (role < 2 ^ 16)
IsAct (DropRole session user role) = (session < 2 ^ 64) × (user < 2 ^ 32) × (role < 2 ^ 16)
IsAct (Close session user) = (session < 2 ^ 64) × (user < 2 ^ 32)

abbrev pub IsQuestion : Question → Type 0
IsQuestion (Check session user operation object) =
    (session < 2 ^ 64) × (user < 2 ^ 32) × (operation < 2 ^ 16) × (object < 2 ^ 32)
IsQuestion (AssignedUsers role) = role < 2 ^ 16
IsQuestion (AssignedRoles user) = user < 2 ^ 32
IsQuestion (RolePermissions role) = role < 2 ^ 16
IsQuestion (UserPermissions user) = user < 2 ^ 32
IsQuestion (RoleOperations role object) = (role < 2 ^ 16) × (object < 2 ^ 32)
IsQuestion (UserOperations user object) = (user < 2 ^ 32) × (object < 2 ^ 32)
IsQuestion (SessionRoles session) = session < 2 ^ 64
IsQuestion (SessionPermissions session) = session < 2 ^ 64

-- a packet between nodes of these sizes
pub record IsLie (s : Counts) (p : PacketValue) : Type 0 where
  pub from : p.from < s.nodes
  pub to : p.to < s.nodes
  pub owner : p.owner < s.nodes
  pub packet : IsPacket p

abbrev pub IsStep : Counts → Step → Type 0
IsStep s (Issue node command) = (node < s.nodes) × IsCommand command
IsStep s (Give number) = number < 2 ^ 32
IsStep s (Lie p) = IsLie s p
IsStep s (Bytes to bytes) = (to < s.nodes) × IsBytes bytes
IsStep s (Client node act) = (node < s.nodes) × IsAct act

-- what has a line in a script of these sizes
abbrev pub IsOrder : Counts → ScriptLine → Type 0
IsOrder s (Do step) = IsStep s step
IsOrder s Flush = ⊤
IsOrder s Settle = ⊤
IsOrder s Rest = ⊤
IsOrder s (Ask node question) = (node < s.nodes) × IsQuestion question
IsOrder s (Reach node owner) = (node < s.nodes) × (owner < s.nodes)
IsOrder s (Agree one other owner) = (one < s.nodes) × (other < s.nodes) × (owner < s.nodes)

-- the sizes of a cluster that are written are read, and what is read as them is written so
abbrev pub ClustersAreRead : Type 0
ClustersAreRead = (s : Counts) → AreSizes s → cluster_of_line (cluster_spelling s) ≡ Some s

abbrev pub ClustersAreSpelled : Type 0
ClustersAreSpelled =
    (line : List ℕ) (s : Counts) → cluster_of_line line ≡ Some s → (line ≡ cluster_spelling s) × AreSizes s

-- the same of the roles and the liars
abbrev pub SetupsAreRead : Type 0
SetupsAreRead =
    (s : Counts) (setup : SetupLine) → AreSizes s → IsSetup s setup
    → setup_of_line s (setup_spelling setup) ≡ Some setup

abbrev pub SetupsAreSpelled : Type 0
SetupsAreSpelled =
    (s : Counts) (line : List ℕ) (setup : SetupLine) → setup_of_line s line ≡ Some setup →
    (line ≡ setup_spelling setup) × IsSetup s setup

-- the same of what a later line asks: each line that spells an order is read as it, and no other line
abbrev pub OrdersAreRead : Type 0
OrdersAreRead =
    (s : Counts) (line : List ℕ) (order : ScriptLine) → AreSizes s → IsOrder s order → SpellsOrder order line →
    order_of_line s line ≡ Some order

abbrev pub OrdersAreSpelled : Type 0
OrdersAreSpelled =
    (s : Counts) (line : List ℕ) (order : ScriptLine) → order_of_line s line ≡ Some order →
    SpellsOrder order line × IsOrder s order
