-- What a hold of a kept node said, and who may read it.
use Rattle.std.specs.Prelude.{ℕ, Option, None, option_and_then}
use Rattle.link_frames.specs.frames.Packets.{PacketValue, packet_due}
use Rattle.link_frames.specs.declared.frames.packet.Message.{Message}
use Rattle.role_node.specs.Answers.{sent_by}
use Rattle.node_lock.specs.declared.receipt.Outcome.{Outcome}
use Rattle.node_lock.specs.declared.receipt.Outcome.TheVariants as outcome
use Rattle.node_lock.specs.declared.receipt.Receipt.{Receipt}
use Rattle.node_lock.specs.declared.view.View.{View}

-- The receipt of its call, where there was one, the view after it, and how many events since the journal began these
-- may speak of.
pub record UntoldValue : Type 0 where
  pub receipt : Option Receipt
  pub view : View
  pub at : ℕ

-- it may be told: the same, all of which is synced
pub record ToldValue : Type 0 where
  pub receipt : Option Receipt
  pub view : View
  pub at : ℕ

-- the message that an outcome has the node send to all
abbrev pub sent_outcome : Outcome → Option Message
sent_outcome (outcome.Reply r) = sent_by r
sent_outcome (outcome.Answer answer) = None
sent_outcome (outcome.Refused f) = None

abbrev pub sent_receipt : Receipt → Option Message
sent_receipt receipt = sent_outcome receipt.outcome

-- the packet of that message from the node of this name to itself
abbrev pub own_packet_of : ℕ → Option Receipt → Option PacketValue
own_packet_of me receipt = option_and_then (packet_due me me) (option_and_then sent_receipt receipt)
