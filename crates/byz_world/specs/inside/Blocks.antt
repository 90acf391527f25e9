-- A block of messages that is given node by node. Serves the code, and no public contract.
use Rattle.std.specs.Prelude.{◌≡◌, ◌≢◌, ℕ, zero, suc, ◌+◌, ◌-◌, ◌*◌, ◌<◌, ◌≤◌, Bool, if◌then◌else◌, List, [], ◌∷◌, ◌++◌}
use Rattle.std.specs.Prelude.{◌/◌, length, take, slice_get, Option, Some, None, option_map, false, IsTrue}
use Rattle.std.specs.Option.{option_map_or}
use Rattle.link_frames.specs.frames.Packets.{PacketValue, packet_due}
use Rattle.link_frames.specs.declared.frames.kind.Kind.{Kind}
use Rattle.link_frames.specs.declared.frames.packet.Message.{Message}
use Rattle.role_node.specs.Answers.{answer_due, is_recorded, sent_by_answer}
use Rattle.role_node.specs.Nodes.{NodeValue, with_event}
use Rattle.role_node.specs.declared.event.Event.TheVariants.{Take}
use Rattle.byz_world.specs.Pools.{Sent, listed, messages}
use Rattle.byz_world.specs.Worlds.{WorldValue}
use Rattle.byz_world.specs.inside.Kept.{Members, member_in}
use Rattle.byz_world.specs.declared.block.Mark.{Mark}
use Rattle.byz_world.specs.declared.block.Mark.TheVariants.{Passed, Counted}

-- whether a node would record a packet, and what it would send then
abbrev pub counts_at : NodeValue → PacketValue → Bool
counts_at node p = is_recorded (answer_due node.config node.me node.history (Take p))

abbrev pub kind_of : Option Message → Option Kind
kind_of message = option_map (λ (m : Message). m.kind) message

abbrev pub sends_at : NodeValue → PacketValue → Option Message
sends_at node p = sent_by_answer (answer_due node.config node.me node.history (Take p))

-- what comes of a packet, if it is one, and the node after it
abbrev pub mark_of : NodeValue → Option PacketValue → Mark
mark_of node None = Passed
mark_of node (Some p) = if counts_at node p then Counted (kind_of (sends_at node p)) else Passed

abbrev pub taken : NodeValue → Option PacketValue → NodeValue
taken node None = node
taken node (Some p) = if counts_at node p then with_event node (Take p) else node

abbrev pub packet_to : NodeValue → Sent → Option PacketValue
packet_to node sent = packet_due sent.0 node.me sent.1

abbrev pub mark_due : NodeValue → Sent → Mark
mark_due node sent = mark_of node (packet_to node sent)

abbrev pub after_take : NodeValue → Sent → NodeValue
after_take node sent = taken node (packet_to node sent)

-- the node would record the message
abbrev pub wants : NodeValue → Sent → Bool
wants node sent = option_map_or (counts_at node) (packet_to node sent) false

-- .. one of these, at a member
abbrev pub MayWant : Option NodeValue → List Sent → Type 0
MayWant None sent = ⊥
MayWant (Some node) sent = (j : ℕ) × (s : Sent) × (slice_get sent j ≡ Some s) × IsTrue (wants node s)

-- .. at some member
abbrev pub SomeMayWant : Members → List Sent → Type 0
SomeMayWant members sent = (name : ℕ) × MayWant (member_in members name) sent

-- the node after these messages, one after another, and what came of each
unfoldable pub after_takes : NodeValue → List Sent → NodeValue
after_takes node [] = node
after_takes node (sent ∷ more) = after_takes (after_take node sent) more

unfoldable pub marks_due : NodeValue → List Sent → List Mark
marks_due node [] = []
marks_due node (sent ∷ more) = mark_due node sent ∷ marks_due (after_take node sent) more

-- .. of a member: a liar takes none
abbrev pub member_after : Option NodeValue → List Sent → Option NodeValue
member_after None sent = None
member_after (Some node) sent = Some (after_takes node sent)

unfoldable pub all_passed : List Sent → List Mark
all_passed [] = []
all_passed (sent ∷ more) = Passed ∷ all_passed more

abbrev pub member_marks : Option NodeValue → List Sent → List Mark
member_marks None sent = all_passed sent
member_marks (Some node) sent = marks_due node sent

-- the first so many messages were taken
pub record TookFirst (count : ℕ) (old new : Option NodeValue) (sent : List Sent) (before after : List Mark)
    : Type 0 where
  pub within : count ≤ length sent
  pub member : new ≡ member_after old (take count sent)
  pub marks : after ≡ before ++ member_marks old (take count sent)

abbrev pub TookSome : Option NodeValue → Option NodeValue → List Sent → List Mark → List Mark → Type 0
TookSome old new sent before after = (count : ℕ) × TookFirst count old new sent before after

-- .. by the member of this name, and by no other
pub record GaveSome (old new : Members) (name : ℕ) (sent : List Sent) (before after : List Mark) : Type 0 where
  pub same : length new ≡ length old
  pub others : (k : ℕ) → k ≢ name → member_in new k ≡ member_in old k
  pub own : TookSome (member_in old name) (member_in new name) sent before after

-- what comes of a message at a member that has taken these before
abbrev pub mark_in : Option NodeValue → List Sent → Sent → Mark
mark_in None past sent = Passed
mark_in (Some node) past sent = mark_due (after_takes node past) sent

-- Each member in the order of the names has taken all messages, until one has taken so many, and those behind it none:
-- their marks stand one behind the other.
pub record AreGiven (old new : Members) (sent : List Sent) (marks : List Mark) : Type 0 where
  pub same : length new ≡ length old
  pub within : length marks ≤ length old * length sent
  pub each : (name : ℕ) →
      member_in new name ≡ member_after (member_in old name) (take (length marks - name * length sent) sent)
  pub mark : (name j : ℕ) (s : Sent) → slice_get sent j ≡ Some s → name * length sent + j < length marks →
      slice_get marks (name * length sent + j) ≡ Some (mark_in (member_in old name) (take j sent) s)

-- what a mark adds to the order, and to the messages that were sent
abbrev pub noted_names : ℕ → Option Mark → List ℕ
noted_names name None = []
noted_names name (Some Passed) = []
noted_names name (Some (Counted kind)) = name ∷ []

abbrev pub message_for : Message → Kind → Message
message_for m kind = record { kind = kind; owner = m.owner; place = m.place; command = m.command }

abbrev pub noted_messages : ℕ → Message → Option Mark → List Sent
noted_messages name m None = []
noted_messages name m (Some Passed) = []
noted_messages name m (Some (Counted kind)) = listed (option_map (λ k. (name, message_for m k)) kind)

-- what message `number` of a block of so many came to at each node: their marks stand node by node
abbrev pub mark_of_row : List Mark → ℕ → ℕ → (ℕ → Option Mark)
mark_of_row marks count number = λ name. slice_get marks (name * count + number)

-- what the marks of a message add, of the first so many nodes
unfoldable pub row_names : (ℕ → Option Mark) → ℕ → List ℕ
row_names marks zero = []
row_names marks (suc name) = row_names marks name ++ noted_names name (marks name)

unfoldable pub row_messages : (ℕ → Option Mark) → Message → ℕ → List Sent
row_messages marks m zero = []
row_messages marks m (suc name) = row_messages marks m name ++ noted_messages name m (marks name)

abbrev pub row_of : (ℕ → Option Mark) → ℕ → Option Sent → List Sent
row_of marks nodes None = []
row_of marks nodes (Some sent) = row_messages marks sent.1 nodes

-- .. of the first so many messages
unfoldable pub block_names : List Mark → ℕ → ℕ → ℕ → List ℕ
block_names marks count nodes zero = []
block_names marks count nodes (suc number) =
    block_names marks count nodes number ++ row_names (mark_of_row marks count number) nodes

unfoldable pub block_messages : List Mark → List Sent → ℕ → ℕ → ℕ → List Sent
block_messages marks sent count nodes zero = []
block_messages marks sent count nodes (suc number) =
    block_messages marks sent count nodes number
    ++ row_of (mark_of_row marks count number) nodes (slice_get sent number)

-- so many messages are given at once at most
abbrev pub block_most : ℕ
block_most = 64

-- so many messages may be given at once from this one on: the pool has them, and room for all that they may cause
pub record IsBlock (w : WorldValue) (first count : ℕ) : Type 0 where
  pub few : count ≤ block_most
  pub within : first + count ≤ length (messages w.config w.run)
  pub room : (length (messages w.config w.run) + count * w.config.roles.sizes.nodes + 1) * w.config.roles.sizes.nodes
      ≤ w.config.limit

-- .. and they begin with this packet, and are so many packets at most
pub record StartsBlock (w : WorldValue) (packet most count : ℕ) : Type 0 where
  pub start : packet ≡ packet / w.config.roles.sizes.nodes * w.config.roles.sizes.nodes
  pub most_is : count * w.config.roles.sizes.nodes ≤ most
  pub block : IsBlock w (packet / w.config.roles.sizes.nodes) count
