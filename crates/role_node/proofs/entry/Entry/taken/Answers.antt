use Rattle.std.proofs.Common.{◌≡◌, ◌-◌, refl, sym, ap, ◌∙◌, subst, arith}
use Rattle.link_frames.specs.frames.Packets.{PacketValue, IsSound, message_of}
use Rattle.link_frames.specs.declared.frames.packet.Message.{Message}
use Rattle.role_node.specs.declared.entry.Head.{Head}
use Rattle.role_node.specs.declared.entry.PackedEntry.{PackedEntry}
use Rattle.role_node.specs.inside.Entries.{IsPacked, packed_value, packed_with, packet_with}
use Rattle.role_node.proofs.PackedLemmas.{packed_is, is_packed}
use Rattle.role_node.proofs.entry.Entry.taken.Goals as goal

-- what is kept beside the message
abbrev head : goal.After-with → Message → Head
head c m = record {
  from = c.from.result;
  to = c.to.result;
  owner = m.owner;
  kind = m.kind;
  grown = c.args.step.now.to - c.args.step.now.from;
  send = c.new.result;
  delivered = c.is_some.result;
}

-- what is kept, of the packet's own message
abbrev kept : goal.After-with → PackedEntry
kept c =
    let m = message_of c.args.packet.now in
    packed_with (head c m) m.place c.args.step.now.from m.command

is : (c : goal.After-with) → c.with.result ≡ kept c
is c =
    c.with.ensures
    ∙ ap (λ (m : Message). packed_with (head c m) m.place c.args.step.now.from m.command)
    c.message-message.ensures.value

packet : (c : goal.After-with) → let p = c.args.packet.now in
    packet_with (head c (message_of p)) p.place p.command ≡ p
packet c =
    let p : PacketValue = c.args.packet.now in
    λ i. record {
      from = c.from.ensures i;
      to = c.to.ensures i;
      kind = p.kind;
      owner = p.owner;
      place = p.place;
      command = p.command;
    }

pub invariant_of-result : goal.invariant_of-result
invariant_of-result c =
    let p = c.args.packet.now in
    let sound : IsSound p = (c.message-message.ensures.kept.0, c.message-message.ensures.kept.1) in
    subst IsPacked (sym (is c))
    (is_packed p c.args.step.now (head c (message_of p)) sound (packet c) (omega (arith, c.requires.onward)))

pub returns : goal.returns
returns c =
    let p = c.args.packet.now in
    ap packed_value (is c)
    ∙ packed_is p c.args.step.now (head c (message_of p)) c.requires.own (packet c) refl c.new.ensures
    c.is_some.ensures (omega (arith, c.requires.onward))
