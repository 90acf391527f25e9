-- The promises of the cluster, about every run of it.
use Rattle.std.specs.Prelude.{◌≡◌, ℕ, ◌<◌, ◌≤◌, min, IsTrue, take, slice_get, Contains, ◌↔◌, Option, Some}
use Rattle.std.specs.FinSet as sets
use Rattle.quorum_sizes.specs.Sizes.{amplify_of}
use Rattle.quorum_sizes.specs.NodeSets.{Nodes}
use Rattle.role_commands.specs.Tables.{roles_of_owner}
use Rattle.role_commands.specs.declared.command.Command.{Command}
use Rattle.bracha_instance.specs.Broadcast.{echoed, readied}
use Rattle.owner_streams.specs.Laws.{IsPrefixOf}
use Rattle.owner_streams.specs.Places.{takes_at, delivered_at}
use Rattle.link_frames.specs.frames.Packets.{PacketValue, IsSound}
use Rattle.role_sessions.specs.declared.verdict.Verdict.{Verdict}
use Rattle.role_node.specs.Configs.{ConfigValue}
use Rattle.role_node.specs.Histories.{issued, packets}
use Rattle.role_node.specs.Access.{relations_at, decided_at}
use Rattle.byz_world.specs.Runs.{Run, history_of, stream_of, reach_of, IsCorrect, IsClusterRun}
use Rattle.byz_world.specs.Pools.{pool, WasSent}
use Rattle.byz_world.specs.Resting.{IsAtRest}
use Rattle.byz_world.specs.Agreement.{common_length}

-- what a node has echoed, what it is ready for, and what it has delivered, at a place of an owner's stream
abbrev pub echoed_by : ConfigValue → Run → ℕ → ℕ → ℕ → Option Command
echoed_by config run node owner place = echoed (takes_at owner place (packets (history_of node run)))

abbrev pub readied_by : ConfigValue → Run → ℕ → ℕ → ℕ → Option Command
readied_by config run node owner place =
    readied config.roles.sizes (takes_at owner place (packets (history_of node run)))

abbrev pub delivered_by : ConfigValue → Run → ℕ → ℕ → ℕ → Option Command
delivered_by config run node owner place = delivered_at config.roles.sizes owner place (packets (history_of node run))

-- The first events of a cluster run, however many, are a cluster run.
abbrev pub FrontsAreRuns : Type 0
FrontsAreRuns =
    (config : ConfigValue) (liars : Nodes) (run : Run) (count : ℕ) → IsClusterRun config liars run →
    IsClusterRun config liars (take count run)

-- A packet stands in the pool of a cluster run exactly where its sender is a correct node that has sent its message,
-- and its receiver is a node.
abbrev pub PoolIsWhatWasSent : Type 0
PoolIsWhatWasSent =
    (config : ConfigValue) (liars : Nodes) (run : Run) (p : PacketValue) → IsClusterRun config liars run →
    Contains (pool config run) p ↔ WasSent config liars run p

-- Each packet of the pool of a cluster run is sound: what correct nodes send is about places of a stream.
abbrev pub PoolIsSound : Type 0
PoolIsSound =
    (config : ConfigValue) (liars : Nodes) (run : Run) (p : PacketValue) → IsClusterRun config liars run →
    Contains (pool config run) p → IsSound p

-- Two correct nodes are ready for one command at a place; what they deliver there is one command; and their streams of
-- an owner agree as far as both reach.
pub record IsConsistent (config : ConfigValue) (liars : Nodes) (run : Run) : Type 0 where
  pub ready_for_one : (i j owner place : ℕ) (c d : Command) →
      IsCorrect config liars i → IsCorrect config liars j →
      readied_by config run i owner place ≡ Some c → readied_by config run j owner place ≡ Some d → c ≡ d
  pub deliver_one : (i j owner place : ℕ) (c d : Command) →
      IsCorrect config liars i → IsCorrect config liars j →
      delivered_by config run i owner place ≡ Some c → delivered_by config run j owner place ≡ Some d → c ≡ d
  pub streams_agree : (i j owner : ℕ) →
      IsCorrect config liars i → IsCorrect config liars j →
      common_length (stream_of config run i owner) (stream_of config run j owner)
      ≡ min (reach_of config run i owner) (reach_of config run j owner)

abbrev pub Consistency : Type 0
Consistency =
    (config : ConfigValue) (liars : Nodes) (run : Run) → IsClusterRun config liars run →
    IsConsistent config liars run

-- a correct owner's stream is, at each correct node, a prefix of what the owner issued
abbrev pub Integrity : Type 0
Integrity =
    (config : ConfigValue) (liars : Nodes) (run : Run) (i owner : ℕ) → IsClusterRun config liars run →
    IsCorrect config liars i → IsCorrect config liars owner →
    IsPrefixOf (stream_of config run i owner) (issued (history_of owner run))

-- correct nodes whose streams reach equally far have the same relations
pub record HaveSameRelations (config : ConfigValue) (run : Run) (i j : ℕ) : Type 0 where
  pub assigned : (user role : ℕ) →
      (relations_at config.roles (history_of i run)).assigned user role
      ≡ (relations_at config.roles (history_of j run)).assigned user role
  pub granted : (operation object role : ℕ) →
      (relations_at config.roles (history_of i run)).granted operation object role
      ≡ (relations_at config.roles (history_of j run)).granted operation object role

abbrev pub SamePolicy : Type 0
SamePolicy =
    (config : ConfigValue) (liars : Nodes) (run : Run) (i j : ℕ) → IsClusterRun config liars run →
    IsCorrect config liars i → IsCorrect config liars j →
    ((owner : ℕ) → owner < config.roles.sizes.nodes → reach_of config run i owner ≡ reach_of config run j owner) →
    HaveSameRelations config run i j

-- the decision on an access by one owner's word, as the node makes it after the run: in all roles of that owner
abbrev pub decided_by : ConfigValue → Run → ℕ → ℕ → ℕ → ℕ → ℕ → Verdict
decided_by config run node owner user operation object =
    decided_at config.roles (history_of node run) (roles_of_owner config.roles owner) user operation object

-- Correct nodes at which the owner's stream reaches equally far decide alike by its word, however far the streams of
-- other owners reach.
abbrev pub SameReachDecidesAlike : Type 0
SameReachDecidesAlike =
    (config : ConfigValue) (liars : Nodes) (run : Run) (i j owner user operation object : ℕ) →
    IsClusterRun config liars run → IsCorrect config liars i → IsCorrect config liars j →
    reach_of config run i owner ≡ reach_of config run j owner →
    decided_by config run i owner user operation object ≡ decided_by config run j owner user operation object

-- So they do at two moments of the run: the reach tells all.
abbrev pub SameReachWheneverAsked : Type 0
SameReachWheneverAsked =
    (config : ConfigValue) (liars : Nodes) (run : Run) (i j one other owner user operation object : ℕ) →
    IsClusterRun config liars run → IsCorrect config liars i → IsCorrect config liars j →
    reach_of config (take one run) i owner ≡ reach_of config (take other run) j owner →
    decided_by config (take one run) i owner user operation object
    ≡ decided_by config (take other run) j owner user operation object

-- Of a cluster at rest, whoever the owner is: a command for which so many correct nodes are ready as amplify asks, each
-- correct node is ready for.
abbrev pub ReadyByAll : Type 0
ReadyByAll =
    (config : ConfigValue) (liars : Nodes) (run : Run) (owner place : ℕ) (c : Command) (ready : Nodes) →
    IsClusterRun config liars run → IsAtRest config liars run →
    ((node : ℕ) → IsTrue (sets.contains ready node) →
    IsCorrect config liars node × (readied_by config run node owner place ≡ Some c)) →
    amplify_of config.roles.sizes ≤ sets.len ready →
    (j : ℕ) → IsCorrect config liars j → readied_by config run j owner place ≡ Some c

-- What one correct node delivered, each did.
abbrev pub DeliveredByAll : Type 0
DeliveredByAll =
    (config : ConfigValue) (liars : Nodes) (run : Run) (i j owner place : ℕ) (c : Command) →
    IsClusterRun config liars run → IsAtRest config liars run →
    IsCorrect config liars i → IsCorrect config liars j →
    delivered_by config run i owner place ≡ Some c → delivered_by config run j owner place ≡ Some c

-- the node has echoed the command, is ready for it, and has delivered it
pub record HasReached (config : ConfigValue) (run : Run) (node owner place : ℕ) (c : Command) : Type 0 where
  pub was_echoed : echoed_by config run node owner place ≡ Some c
  pub was_readied : readied_by config run node owner place ≡ Some c
  pub was_delivered : delivered_by config run node owner place ≡ Some c

-- A correct owner's command has reached each correct node.
abbrev pub IssuedReachesAll : Type 0
IssuedReachesAll =
    (config : ConfigValue) (liars : Nodes) (run : Run) (i owner place : ℕ) (c : Command) →
    IsClusterRun config liars run → IsAtRest config liars run →
    IsCorrect config liars i → IsCorrect config liars owner →
    slice_get (issued (history_of owner run)) place ≡ Some c → HasReached config run i owner place c

-- Of a cluster at rest: a correct owner's stream is, at each correct node, what the owner issued; and what one correct
-- node delivered, each did, whoever the owner is.
pub record HasSettled (config : ConfigValue) (liars : Nodes) (run : Run) : Type 0 where
  pub issued_is_delivered : (i owner : ℕ) →
      IsCorrect config liars i → IsCorrect config liars owner →
      stream_of config run i owner ≡ issued (history_of owner run)
  pub delivered_by_all : (i j owner place : ℕ) →
      IsCorrect config liars i → IsCorrect config liars j →
      delivered_by config run i owner place ≡ delivered_by config run j owner place

abbrev pub AtRest : Type 0
AtRest =
    (config : ConfigValue) (liars : Nodes) (run : Run) → IsClusterRun config liars run → IsAtRest config liars run →
    HasSettled config liars run
