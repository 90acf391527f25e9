-- A node with its journal, what a file stands for, and what a crash leaves.
use Rattle.std.specs.Prelude.{◌≡◌, ◌⊎◌, ℕ, ◌+◌, ◌-◌, ◌<◌, ◌≤◌, ◌==◌, nat_le, if◌then◌else◌, Bool, IsTrue}
use Rattle.std.specs.Prelude.{List, length, take, All, Option, Some, None, Ok}
use Rattle.std.specs.List.{concat}
use Rattle.batch_journal.specs.Readings.{reading, room_behind}
use Rattle.batch_journal.specs.declared.head.Head.{Head}
use Rattle.role_node.specs.Configs.{ConfigValue}
use Rattle.role_node.specs.Nodes.{NodeValue}
use Rattle.role_node.specs.declared.event.Event.{Event}
use Rattle.node_lock.specs.Holds.{Held, end_of}
use Rattle.kept_node.specs.Events.{IsEventOf, digits_of_events}
use Rattle.kept_node.specs.NodeHeads.{IsHeadOf}

-- A node that is kept: what is behind the lock, the file and the key of its journal, how many events since the journal
-- began are synced, and whether a call of the disk has failed, after which nothing more is written.
pub record KeptValue (D : Type 0) : Type 0 where
  pub held : Held
  pub disk : D
  pub key : List ℕ
  pub synced : ℕ
  pub broken : Bool

-- So many events at most are recorded and not yet synced.
abbrev pub most_waiting : ℕ
most_waiting = 1024

abbrev pub is_full : {D : Type 0} → KeptValue D → Bool
is_full k = nat_le most_waiting (end_of k.held - k.synced)

-- the node, if all that it recorded is synced
abbrev pub node_if_synced : {D : Type 0} → KeptValue D → Option NodeValue
node_if_synced k = if k.synced == end_of k.held then Some k.held.node else None

-- Nothing more can be kept: a call of the disk has failed, or the file is as long as a journal may be, unless it has
-- lied.
abbrev pub HasFailed : {D : Type 0} → (D → List ℕ) → (D → Bool) → D → Bool → Type 0
HasFailed seen is_clean disk broken =
    IsTrue broken ⊎ (IsTrue (is_clean disk) → 536870912 < length (seen disk) + room_behind)

-- Bytes stand for these events of the node of this configuration and name: under its head they are read as batches, and
-- the digits of these, one after another, are the events'.
pub record StandsFor (key : List ℕ) (config : ConfigValue) (me : ℕ) (bytes : List ℕ) (events : List Event)
    : Type 0 where
  pub head : Head
  pub batches : List (List ℕ)
  pub is_head : IsHeadOf config me head
  pub reads : reading key head bytes ≡ Ok batches
  pub digits : concat batches ≡ digits_of_events events
  pub each : All (IsEventOf config.roles.sizes me) events

-- bytes stand for a prefix of the node's history that has so many events at least
pub record IsFront (least : ℕ) (key : List ℕ) (node : NodeValue) (bytes : List ℕ) : Type 0 where
  pub count : ℕ
  pub enough : least ≤ count
  pub within : count ≤ length node.history
  pub stands : StandsFor key node.config node.me bytes (take count node.history)

-- What a crash at this moment leaves stands for a prefix of the history that has all that is synced, unless the disk
-- has lied.
abbrev pub Survives : {D : Type 0} → (D → List ℕ → Type 0) → (D → Bool) → KeptValue D → Type 0
Survives may_leave is_clean k =
    IsTrue (is_clean k.disk) → (c : List ℕ) → may_leave k.disk c → IsFront k.synced k.key k.held.node c
