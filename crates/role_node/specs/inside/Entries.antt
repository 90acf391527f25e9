-- What is kept of an entry of a node's history. Serves the code, and no public contract.
use Rattle.std.specs.Prelude.{ℕ, ◌≡◌, ◌+◌, ◌-◌, ◌^◌, ◌<◌, Bool, true, false, if◌then◌else◌}
use Rattle.std.specs.Prelude.{Option, Some, None, option_map, is_some, IfSome, refl}
use Rattle.std.specs.Option.{option_map_or}
use Rattle.std.specs.Coded.{Coded, code_by, coded×}
use Rattle.std.proofs.Math.Nat.{add-sub_cancel_left}
use Rattle.role_commands.specs.declared.command.Command.{Command}
use Rattle.role_commands.specs.declared.command.Command.TheVariants.{Assign, Deassign, Grant, Revoke, Clear}
use Rattle.link_frames.specs.frames.Packets.{PacketValue, IsSound}
use Rattle.link_frames.specs.declared.frames.kind.Kind.{Kind}
use Rattle.link_frames.specs.declared.frames.kind.Kind.TheVariants.{Send, Echo, Ready}
use Rattle.link_frames.specs.declared.frames.packet.Message.{Message}
use Rattle.owner_streams.specs.declared.steps.StreamStep.{StreamStep}
use Rattle.role_sessions.specs.declared.event.ClientEvent.TheVariants.{Open, Activate, DropRole, Close}
use Rattle.role_node.specs.Answers.{EntryValue}
use Rattle.role_node.specs.contracts.event.Event as event_contract
use Rattle.role_node.specs.contracts.event.Reply as reply_contract
use Rattle.role_node.specs.declared.event.Event.{Event}
use Rattle.role_node.specs.declared.event.Event.TheVariants.{Issue, Take, Client}
use Rattle.role_node.specs.declared.event.Reply.{Reply}
use Rattle.role_node.specs.declared.event.Reply.TheVariants as reply
use Rattle.role_node.specs.declared.entry.Head.{Head}
use Rattle.role_node.specs.declared.entry.SentKind.{SentKind}
use Rattle.role_node.specs.declared.entry.SentKind.TheVariants as sent
use Rattle.role_node.specs.declared.entry.PackedEntry.{PackedEntry}
use Rattle.role_node.specs.declared.entry.PackedEntry.TheVariants as packed

-- an entry is stored as its parts
abbrev pub entry_code : Coded EntryValue
entry_code =
    code_by (Event × Reply) (coded× event_contract.the_row.coded reply_contract.the_row.coded)
    (λ e. (e.event, e.reply)) (λ p. record { event = p.0; reply = p.1 }) (λ _. refl)

-- what a packet caused is for this command: what is sent, if anything, and what is delivered, if anything
pub record IsOwn (c : Command) (step : StreamStep) : Type 0 where
  pub broadcast : IfSome step.broadcast (λ said. said.1 ≡ c)
  pub delivered : IfSome step.delivered (λ d. d ≡ c)

-- what is kept of a packet at this place, of this command, with the first place that was new
abbrev pub packed_with : Head → ℕ → ℕ → Command → PackedEntry
packed_with h place reach (Assign user role) = packed.Assign h place reach role user
packed_with h place reach (Deassign user role) = packed.Deassign h place reach role user
packed_with h place reach (Grant role operation object) = packed.Grant h place reach role operation object
packed_with h place reach (Revoke role operation object) = packed.Revoke h place reach role operation object
packed_with h place reach (Clear role) = packed.Clear h place reach role

-- the packet at this place, of this command
abbrev pub packet_with : Head → ℕ → Command → PacketValue
packet_with h place command = record {
  from = h.from;
  to = h.to;
  kind = h.kind;
  owner = h.owner;
  place = place;
  command = command;
}

-- the kind of what was sent
abbrev pub sent_kind : SentKind → Option Kind
sent_kind sent.Nothing = None
sent_kind sent.Send = Some Send
sent_kind sent.Echo = Some Echo
sent_kind sent.Ready = Some Ready

abbrev pub kind_of : Option Kind → SentKind
kind_of None = sent.Nothing
kind_of (Some Send) = sent.Send
kind_of (Some Echo) = sent.Echo
kind_of (Some Ready) = sent.Ready

abbrev pub sent_in : Option (Kind × Command) → SentKind
sent_in broadcast = kind_of (option_map (λ (b : Kind × Command). b.0) broadcast)

-- the message of this kind
abbrev pub sent_message : ℕ → ℕ → Command → Kind → Message
sent_message owner place command kind = record { kind = kind; owner = owner; place = place; command = command }

-- the reply to the packet
abbrev pub reply_with : Head → ℕ → ℕ → Command → Reply
reply_with h place reach command =
    reply.Counted (option_map (sent_message h.owner place command) (sent_kind h.send))
    (if h.delivered then Some command else None) reach (reach + h.grown)

-- a packet that is kept: its head, its place, the first place that was new, and its command
abbrev pub packet_in : PackedEntry → Option (Head × ℕ × ℕ × Command)
packet_in (packed.Assign h place reach role user) = Some (h, place, reach, Assign user role)
packet_in (packed.Deassign h place reach role user) = Some (h, place, reach, Deassign user role)
packet_in (packed.Grant h place reach role operation object) = Some (h, place, reach, Grant role operation object)
packet_in (packed.Revoke h place reach role operation object) = Some (h, place, reach, Revoke role operation object)
packet_in (packed.Clear h place reach role) = Some (h, place, reach, Clear role)
packet_in k = None

-- the event of what is kept that is no packet
abbrev pub own_event : PackedEntry → Event
own_event (packed.Issued send) = Issue send.command
own_event (packed.Opened user session) = Client (Open user)
own_event (packed.Activated role user session) = Client (Activate session user role)
own_event (packed.Dropped role user session) = Client (DropRole session user role)
own_event (packed.Closed user session) = Client (Close session user)
own_event k = Client (Close 0 0)

-- its reply
abbrev pub own_reply : PackedEntry → Reply
own_reply (packed.Issued send) = reply.Issued send
own_reply (packed.Opened user session) = reply.Session session
own_reply k = reply.Done

-- the event of what is kept
abbrev pub packed_event : PackedEntry → Event
packed_event k =
    option_map_or (λ (p : Head × ℕ × ℕ × Command). Take (packet_with p.0 p.1 p.3)) (packet_in k) (own_event k)

-- its reply
abbrev pub packed_reply : PackedEntry → Reply
packed_reply k =
    option_map_or (λ (p : Head × ℕ × ℕ × Command). reply_with p.0 p.1 p.2 p.3) (packet_in k) (own_reply k)

abbrev pub packed_value : PackedEntry → EntryValue
packed_value k = record { event = packed_event k; reply = packed_reply k }

-- the packet is sound, and the end of the new places is a number of 32 bits
abbrev pub IsPackedWith : Head → ℕ → ℕ → Command → Type 0
IsPackedWith h place reach command = IsSound (packet_with h place command) × (reach + h.grown < 2 ^ 32)

abbrev pub IsPacked : PackedEntry → Type 0
IsPacked k = IfSome (packet_in k) (λ p. IsPackedWith p.0 p.1 p.2 p.3)

-- what is kept beside a packet's places and command
abbrev pub head_of : PacketValue → Option Message → Option Command → ℕ → ℕ → Head
head_of p send delivered from to = record {
  from = p.from;
  to = p.to;
  owner = p.owner;
  kind = p.kind;
  grown = to - from;
  send = kind_of (option_map (λ (m : Message). m.kind) send);
  delivered = is_some delivered;
}

-- what is kept of an event and a reply that go together
abbrev pub packed_of : Event → Reply → PackedEntry
packed_of (Take p) (reply.Counted send delivered from to) =
    packed_with (head_of p send delivered from to) p.place from p.command
packed_of (Client (Open user)) (reply.Session id) = packed.Opened user id
packed_of (Client (Activate session user role)) r = packed.Activated role user session
packed_of (Client (DropRole session user role)) r = packed.Dropped role user session
packed_of (Client (Close session user)) r = packed.Closed user session
packed_of event (reply.Issued send) = packed.Issued send
packed_of event r = packed.Closed 0 0

kind_sent : (owner place : ℕ) (c : Command) (s : SentKind)
    → kind_of (option_map (λ (m : Message). m.kind) (option_map (sent_message owner place c) (sent_kind s))) ≡ s
kind_sent owner place c sent.Nothing = refl
kind_sent owner place c sent.Send = refl
kind_sent owner place c sent.Echo = refl
kind_sent owner place c sent.Ready = refl

was_delivered : (c : Command) (delivered : Bool) → is_some (if delivered then Some c else None) ≡ delivered
was_delivered c true = refl
was_delivered c false = refl

head_is : (h : Head) (place reach : ℕ) (c : Command)
    → head_of (packet_with h place c) (option_map (sent_message h.owner place c) (sent_kind h.send))
    (if h.delivered then Some c else None) reach (reach + h.grown) ≡ h
head_is h place reach c = λ i. record {
  from = h.from;
  to = h.to;
  owner = h.owner;
  kind = h.kind;
  grown = add-sub_cancel_left reach h.grown i;
  send = kind_sent h.owner place c h.send i;
  delivered = was_delivered c h.delivered i;
}

-- the event and the reply give back what is kept
pub packed_of-value : (k : PackedEntry) → packed_of (packed_event k) (packed_reply k) ≡ k
packed_of-value (packed.Assign h place reach role user) = λ i.
    packed.Assign (head_is h place reach (Assign user role) i) place reach role user
packed_of-value (packed.Deassign h place reach role user) = λ i.
    packed.Deassign (head_is h place reach (Deassign user role) i) place reach role user
packed_of-value (packed.Grant h place reach role operation object) = λ i.
    packed.Grant (head_is h place reach (Grant role operation object) i) place reach role operation object
packed_of-value (packed.Revoke h place reach role operation object) = λ i.
    packed.Revoke (head_is h place reach (Revoke role operation object) i) place reach role operation object
packed_of-value (packed.Clear h place reach role) = λ i.
    packed.Clear (head_is h place reach (Clear role) i) place reach role
packed_of-value (packed.Issued send) = refl
packed_of-value (packed.Opened user session) = refl
packed_of-value (packed.Activated role user session) = refl
packed_of-value (packed.Dropped role user session) = refl
packed_of-value (packed.Closed user session) = refl
