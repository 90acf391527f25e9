-- What is seen of a journal that is looked at.
use Rattle.std.specs.Prelude.{◌≡◌, ◌↔◌, ◌≢◌, ℕ, ◌+◌, ◌<◌, ◌≤◌, IsTrue, List, length, slice_index, All, Ok, Option, MatchOption}
use Rattle.std.specs.List.{concat}
use Rattle.batch_journal.specs.Batches.{batches_of}
use Rattle.batch_journal.specs.Heads.{head_of}
use Rattle.batch_journal.specs.Readings.{batch_key, reading}
use Rattle.batch_journal.specs.declared.head.Head.{Head}
use Rattle.owner_shares.specs.Shares.{share}
use Rattle.role_node.specs.Access.{reach_at}
use Rattle.role_node.specs.Configs.{ConfigValue}
use Rattle.role_node.specs.Nodes.{NodeValue}
use Rattle.role_node.specs.declared.event.Event.{Event}
use Rattle.kept_node.specs.Events.{IsEvent, digits_of_events}
use Rattle.kept_node.specs.NodeHeads.{IsHeadOf}
use Rattle.node_journal.specs.declared.beyond.Beyond.{Beyond}
use Rattle.node_journal.specs.declared.keeping.Sight.{Sight}

-- from one place on up to another a byte is not 0
abbrev pub HasByte : List ℕ → ℕ → ℕ → Type 0
HasByte bytes from to = (at : ℕ) × (from ≤ at) × (at < to) × (slice_index bytes at ≢ 0)

-- how far the owner's stream reaches at the node
abbrev pub reach_of : NodeValue → ℕ → ℕ
reach_of node owner = reach_at node.config.roles.sizes node.history owner

-- so far an owner's stream reaches beyond its share
pub record IsBeyond (node : NodeValue) (b : Beyond) : Type 0 where
  pub owner : b.owner < node.config.roles.sizes.nodes
  pub reach : b.reach ≡ reach_of node b.owner
  pub share : b.share ≡ share node.config.roles b.owner
  pub beyond : b.share < b.reach

-- no owner's stream reaches beyond its share
abbrev pub IsNoneBeyond : NodeValue → Type 0
IsNoneBeyond node =
    (owner : ℕ) → owner < node.config.roles.sizes.nodes → reach_of node owner ≤ share node.config.roles owner

-- an owner's stream reaches so far beyond its share, or none does
abbrev pub IsBeyondIfAny : NodeValue → Option Beyond → Type 0
IsBeyondIfAny node b = MatchOption b (IsNoneBeyond node) (IsBeyond node)

-- Under the head of this node the bytes are read as batches, and the digits of these are events': so many events and
-- batches it is, so many bytes the head and the batches take, and so many there are; it is torn if a byte behind these
-- is not 0. Told beside it is an owner of whose stream a node with these events has more than its share.
pub record IsSeen (key : List ℕ) (config : ConfigValue) (me : ℕ) (bytes : List ℕ) (sight : Sight) : Type 0 where
  pub head : Head
  pub batches : List (List ℕ)
  pub events : List Event
  pub is_head : IsHeadOf config me head
  pub reads : reading key head bytes ≡ Ok batches
  pub digits : concat batches ≡ digits_of_events events
  pub each : All IsEvent events
  pub event_count : sight.events ≡ length events
  pub batch_count : sight.batches ≡ length batches
  pub used : sight.used ≡ length (head_of key head) + length (batches_of (batch_key key head) 0 batches)
  pub size : sight.size ≡ length bytes
  pub beyond : IsBeyondIfAny (record { config = config; me = me; history = events }) sight.beyond
  pub torn : IsTrue sight.is_torn ↔ HasByte bytes sight.used sight.size
