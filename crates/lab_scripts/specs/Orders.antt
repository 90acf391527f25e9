-- The lines of a script of a cluster: `cluster N F` first, then `role R OWNER` and `liar I`, and then what is done to
-- the cluster and what is asked of it. The laws of `one_spelling_of_orders` say that a line has one spelling, but for
-- the case of the letters among hexadecimal digits.
use Rattle.std.specs.Prelude.{ℕ, ◌==◌, if◌then◌else◌, List, [], ◌∷◌, length, codes}
use Rattle.std.specs.Prelude.{Option, Some, None, option_and_then, option_map}
use Rattle.std.specs.Result.{result_ok}
use Rattle.std.specs.Str.{bytes_eq}
use Rattle.hex.specs.Hex.{decode_of}
use Rattle.quorum_sizes.specs.Sizes.{Counts, name_due}
use Rattle.role_commands.specs.Numbers.{split_word, byte_number, narrow_number, wide_number, long_number, ◌>>=◌}
use Rattle.role_commands.specs.Reading.{command_of}
use Rattle.link_frames.specs.frames.Packets.{PacketValue, packet_due}
use Rattle.link_frames.specs.declared.frames.kind.Kind.{Kind}
use Rattle.link_frames.specs.declared.frames.kind.Kind.TheVariants.{Send, Echo, Ready}
use Rattle.role_sessions.specs.declared.event.ClientEvent.TheVariants.{Open, Activate, DropRole, Close}
use Rattle.role_node.specs.declared.question.Question.{Question}
use Rattle.role_node.specs.declared.question.Question.TheVariants.{Check, AssignedUsers, AssignedRoles}
use Rattle.role_node.specs.declared.question.Question.TheVariants.{RolePermissions, UserPermissions, RoleOperations}
use Rattle.role_node.specs.declared.question.Question.TheVariants.{UserOperations, SessionRoles, SessionPermissions}
use Rattle.byz_world.specs.declared.step.Step.TheVariants.{Issue, Give, Lie, Bytes, Client}
use Rattle.lab_scripts.specs.Reads.{by_its_name}
use Rattle.lab_scripts.specs.Grammar.{sizes_of_numbers}
use Rattle.lab_scripts.specs.declared.orders.SetupLine.{SetupLine}
use Rattle.lab_scripts.specs.declared.orders.SetupLine.TheVariants.{Owned, Liar}
use Rattle.lab_scripts.specs.declared.orders.ScriptLine.{ScriptLine}
use Rattle.lab_scripts.specs.declared.orders.ScriptLine.TheVariants.{Do, Flush, Settle, Rest, Ask, Reach, Agree}

-- the name of a node of these sizes
abbrev pub node_number : Counts → List ℕ → Option ℕ
node_number s word = option_and_then (name_due s) (byte_number word)

abbrev pub kind_of : List ℕ → Option Kind
kind_of word =
    if bytes_eq word (codes "send") then Some Send
    else (if bytes_eq word (codes "echo") then Some Echo
    else (if bytes_eq word (codes "ready") then Some Ready
    else None))

-- what a word says, and what stands behind its space
unfoldable pub then_rest : {A : Type 0} → (List ℕ → Option A) → List ℕ → Option (A × List ℕ)
then_rest read text = do
  words ← split_word text
  option_map (λ a. (a, words.1)) (read words.0)

-- the sizes that the first line names
unfoldable pub cluster_of_line : List ℕ → Option Counts
cluster_of_line line = do
  words ← split_word line
  if bytes_eq words.0 (codes "cluster") then sizes_of_numbers words.1 else None

-- `R OWNER`
unfoldable pub role_and_owner : List ℕ → Option SetupLine
role_and_owner text = do
  role ← then_rest narrow_number text
  option_map (λ owner. Owned role.0 owner) (byte_number role.1)

unfoldable pub named_setup : Counts → List ℕ → List ℕ → Option SetupLine
named_setup s name text =
    if bytes_eq name (codes "role") then role_and_owner text
    else (if bytes_eq name (codes "liar") then option_map Liar (node_number s text)
    else None)

-- what a line says of the cluster before anything happens in it
unfoldable pub setup_of_line : Counts → List ℕ → Option SetupLine
setup_of_line s line = do
  words ← split_word line
  named_setup s words.0 words.1

-- Sessions have 64 bits, users, objects, places and packets' numbers 32, roles and operations 16.

-- `S USER`
unfoldable pub session_and_user : List ℕ → Option (ℕ × ℕ)
session_and_user text = do
  session ← then_rest long_number text
  option_map (λ user. (session.0, user)) (wide_number session.1)

-- `S USER R`
unfoldable pub session_user_and_role : List ℕ → Option (ℕ × ℕ × ℕ)
session_user_and_role text = do
  session ← then_rest long_number text
  user ← then_rest wide_number session.1
  option_map (λ role. (session.0, user.0, role)) (narrow_number user.1)

-- `S USER OPERATION OBJECT`
unfoldable pub access_of : List ℕ → Option Question
access_of text = do
  session ← then_rest long_number text
  user ← then_rest wide_number session.1
  operation ← then_rest narrow_number user.1
  option_map (λ object. Check session.0 user.0 operation.0 object) (wide_number operation.1)

-- `R OBJECT`
unfoldable pub role_operations_of : List ℕ → Option Question
role_operations_of text = do
  role ← then_rest narrow_number text
  option_map (λ object. RoleOperations role.0 object) (wide_number role.1)

-- `USER OBJECT`
unfoldable pub user_operations_of : List ℕ → Option Question
user_operations_of text = do
  user ← then_rest wide_number text
  option_map (λ object. UserOperations user.0 object) (wide_number user.1)

-- the listings: the name of each, and how the numbers behind it are read
abbrev pub listings : List (List ℕ × (List ℕ → Option Question))
listings =
    (codes "users", λ text. option_map AssignedUsers (narrow_number text))
    ∷ (codes "roles", λ text. option_map AssignedRoles (wide_number text))
    ∷ (codes "permissions", λ text. option_map RolePermissions (narrow_number text))
    ∷ (codes "user-permissions", λ text. option_map UserPermissions (wide_number text))
    ∷ (codes "operations", role_operations_of)
    ∷ (codes "user-operations", user_operations_of)
    ∷ (codes "session-roles", λ text. option_map SessionRoles (long_number text))
    ∷ (codes "session-permissions", λ text. option_map SessionPermissions (long_number text))
    ∷ []

unfoldable pub named_listing : List ℕ → List ℕ → Option Question
named_listing name text = by_its_name listings name text

unfoldable pub listing_of : List ℕ → Option Question
listing_of text = do
  words ← split_word text
  named_listing words.0 words.1

-- `KIND FROM TO OWNER PLACE C`; a SEND is its owner's, and the place one of a stream
unfoldable pub lie_of : Counts → List ℕ → Option PacketValue
lie_of s text = do
  kind ← then_rest kind_of text
  from ← then_rest (node_number s) kind.1
  to ← then_rest (node_number s) from.1
  owner ← then_rest (node_number s) to.1
  place ← then_rest wide_number owner.1
  command ← command_of place.1
  packet_due from.0 to.0 (record { kind = kind.0; owner = owner.0; place = place.0; command = command })

-- `J OWNER`
unfoldable pub agreement_of : Counts → ℕ → List ℕ → Option ScriptLine
agreement_of s one text = do
  other ← then_rest (node_number s) text
  option_map (λ owner. Agree one other.0 owner) (node_number s other.1)

-- what is asked at a node: the name of the line, and how what stands behind the node is read
abbrev pub questions_at : Counts → ℕ → List (List ℕ × (List ℕ → Option ScriptLine))
questions_at s node =
    (codes "check", λ text. option_map (Ask node) (access_of text))
    ∷ (codes "list", λ text. option_map (Ask node) (listing_of text))
    ∷ (codes "reach", λ text. option_map (Reach node) (node_number s text))
    ∷ (codes "agree", agreement_of s node)
    ∷ []

-- the same of what is done or asked there
abbrev pub orders_at : Counts → ℕ → List (List ℕ × (List ℕ → Option ScriptLine))
orders_at s node =
    (codes "issue", λ text. option_map (λ c. Do (Issue node c)) (command_of text))
    ∷ (codes "open", λ text. option_map (λ user. Do (Client node (Open user))) (wide_number text))
    ∷ (codes "activate", λ text. option_map (λ n. Do (Client node (Activate n.0 n.1 n.2))) (session_user_and_role text))
    ∷ (codes "drop", λ text. option_map (λ n. Do (Client node (DropRole n.0 n.1 n.2))) (session_user_and_role text))
    ∷ (codes "close", λ text. option_map (λ n. Do (Client node (Close n.0 n.1))) (session_and_user text))
    ∷ questions_at s node

unfoldable pub order_at_node : Counts → List ℕ → ℕ → List ℕ → Option ScriptLine
order_at_node s name node text = by_its_name (orders_at s node) name text

-- `I ..`, where I is one of the nodes
unfoldable pub order_of_node : Counts → List ℕ → List ℕ → Option ScriptLine
order_of_node s name text = do
  node ← then_rest (node_number s) text
  order_at_node s name node.0 node.1

-- `HEX`: two hexadecimal digits for each byte, their letters of either case, or `-` for no bytes
unfoldable pub bytes_of : List ℕ → Option (List ℕ)
bytes_of word =
    if bytes_eq word (codes "-") then Some []
    else (if length word == 0 then None else result_ok (decode_of word))

-- `TO HEX`, where TO is one of the nodes
unfoldable pub bytes_order : Counts → List ℕ → Option ScriptLine
bytes_order s text = do
  to ← then_rest (node_number s) text
  option_map (λ bytes. Do (Bytes to.0 bytes)) (bytes_of to.1)

-- the order of a name and the words behind it, where they are no bytes
unfoldable pub named_order : Counts → List ℕ → List ℕ → Option ScriptLine
named_order s name text =
    if bytes_eq name (codes "give") then option_map (λ number. Do (Give number)) (wide_number text)
    else (if bytes_eq name (codes "lie") then option_map (λ p. Do (Lie p)) (lie_of s text)
    else order_of_node s name text)

-- what a line of more than one word asks
abbrev pub order_of_words : Counts → List ℕ → Option ScriptLine
order_of_words s line = do
  words ← split_word line
  if bytes_eq words.0 (codes "bytes") then bytes_order s words.1 else named_order s words.0 words.1

-- what a later line asks
unfoldable pub order_of_line : Counts → List ℕ → Option ScriptLine
order_of_line s line =
    if bytes_eq line (codes "flush") then Some Flush
    else (if bytes_eq line (codes "settle") then Some Settle
    else (if bytes_eq line (codes "rest") then Some Rest
    else order_of_words s line))
