-- What is kept of a packet that counts, and of its reply, says both.
use Rattle.std.proofs.Common.{◌≡◌, ℕ, ◌<◌, ◌+◌, ◌^◌, Bool, Option, Some, None, refl, sym, ap, ◌∙◌, subst}
use Rattle.std.specs.Prelude.{IfSome, is_some, option_map, if◌then◌else◌}
use Rattle.role_commands.specs.declared.command.Command.{Command}
use Rattle.role_commands.specs.declared.command.Command.TheVariants.{Assign, Deassign, Grant, Revoke, Clear}
use Rattle.link_frames.specs.frames.Packets.{PacketValue, IsSound}
use Rattle.link_frames.specs.declared.frames.kind.Kind.{Kind}
use Rattle.link_frames.specs.declared.frames.kind.Kind.TheVariants.{Send, Echo, Ready}
use Rattle.owner_streams.specs.declared.steps.StreamStep.{StreamStep}
use Rattle.role_node.specs.Answers.{said_at, counted_reply}
use Rattle.role_node.specs.declared.event.Event.TheVariants.{Take}
use Rattle.role_node.specs.declared.event.Reply.TheVariants as reply
use Rattle.role_node.specs.declared.entry.Head.{Head}
use Rattle.role_node.specs.inside.Entries.{IsOwn, packed_with, packet_with, reply_with, sent_message, sent_kind, sent_in}
use Rattle.role_node.specs.inside.Entries.{packed_value, IsPacked, IsPackedWith}

pub packed_with-value : (h : Head) (place reach : ℕ) (c : Command)
    → packed_value (packed_with h place reach c)
    ≡ record { event = Take (packet_with h place c); reply = reply_with h place reach c }
packed_with-value h place reach (Assign user role) = refl
packed_with-value h place reach (Deassign user role) = refl
packed_with-value h place reach (Grant role operation object) = refl
packed_with-value h place reach (Revoke role operation object) = refl
packed_with-value h place reach (Clear role) = refl

pub packed_with-is : (h : Head) (place reach : ℕ) (c : Command) → IsPackedWith h place reach c
    → IsPacked (packed_with h place reach c)
packed_with-is h place reach (Assign user role) is = is
packed_with-is h place reach (Deassign user role) is = is
packed_with-is h place reach (Grant role operation object) is = is
packed_with-is h place reach (Revoke role operation object) is = is
packed_with-is h place reach (Clear role) is = is

-- what is sent is for the packet's command, so its kind says all
pub sent_is : (p : PacketValue) (sent : Option (Kind × Command)) → IfSome sent (λ said. said.1 ≡ p.command)
    → option_map (sent_message p.owner p.place p.command) (sent_kind (sent_in sent)) ≡ option_map (said_at p) sent
sent_is p None own = refl
sent_is p (Some (Send, c)) own = ap (λ x. Some (sent_message p.owner p.place x Send)) (sym own)
sent_is p (Some (Echo, c)) own = ap (λ x. Some (sent_message p.owner p.place x Echo)) (sym own)
sent_is p (Some (Ready, c)) own = ap (λ x. Some (sent_message p.owner p.place x Ready)) (sym own)

-- as is what is delivered
pub delivered_is : (c : Command) (delivered : Option Command) → IfSome delivered (λ d. d ≡ c)
    → (if is_some delivered then Some c else None) ≡ delivered
delivered_is c None own = refl
delivered_is c (Some d) own = ap Some (sym own)

-- what is kept of a packet and of what it caused is its event and its reply
pub packed_is : (p : PacketValue) (step : StreamStep) (h : Head) → IsOwn p.command step
    → packet_with h p.place p.command ≡ p → h.owner ≡ p.owner → h.send ≡ sent_in step.broadcast
    → h.delivered ≡ is_some step.delivered → step.from + h.grown ≡ step.to
    → packed_value (packed_with h p.place step.from p.command) ≡ record { event = Take p; reply = counted_reply p step }
packed_is p step h own packet owner send delivered grown =
    let said = ap (λ o. option_map (sent_message o p.place p.command) (sent_kind h.send)) owner
    ∙ ap (λ s. option_map (sent_message p.owner p.place p.command) (sent_kind s)) send
    ∙ sent_is p step.broadcast own.broadcast in
    let given = ap (λ (b : Bool). if b then Some p.command else None) delivered
    ∙ delivered_is p.command step.delivered own.delivered in
    packed_with-value h p.place step.from p.command ∙ (λ i. record {
      event = Take (packet i);
      reply = reply.Counted (said i) (given i) step.from (grown i);
    })

-- what is kept of a packet that is sound, where the new places have an end
pub is_packed : (p : PacketValue) (step : StreamStep) (h : Head) → IsSound p
    → packet_with h p.place p.command ≡ p → step.from + h.grown < 2 ^ 32
    → IsPacked (packed_with h p.place step.from p.command)
is_packed p step h sound packet few =
    packed_with-is h p.place step.from p.command (subst IsSound (sym packet) sound, few)
