-- What is opened is the packet's frame, and a packet's frame is opened as the packet.
use Rattle.std.proofs.Common.{append_assoc, Some, ◌≡◌, ℕ, ◌+◌, ◌<◌, ◌≤◌, ◌^◌, List, [], ◌∷◌, ◌++◌}
use Rattle.std.proofs.Common.{length, get_or, take, drop, Ok, refl, sym, ap, subst, ◌∙◌, arith}
use Rattle.std.proofs.Common.{length-append, length-take, length-drop, take_at, drop_at, take_all}
use Rattle.std.proofs.Math.Seq.{take-add, drop-cons}
use Rattle.std.proofs.lemmas.List.{drop-drop}
use Rattle.std.proofs.lemmas.Bool.{ltb-true, lt-ltb, eqb-true, eq-eqb}
use Rattle.std.proofs.lemmas.Nat.{be_bytes_4, from_be_bytes-to_be_bytes_4}
use Rattle.std.proofs.lemmas.Slice.Eq.{bytes_eq-Decides}
use Rattle.std.specs.Int.{w32, to_be_bytes, from_be_bytes}
use Rattle.sha2.proofs.Facts256.{length-sha256}
use Rattle.role_commands.specs.Bytes.{bytes_of, part, IsBytes, command_in, command_length}
use Rattle.link_frames.specs.frames.Frames.{kind_byte, header, fields_of, frame, IsFrameFor}
use Rattle.link_frames.specs.frames.Hmac.{hmac}
use Rattle.link_frames.specs.frames.KeyRings.{KeyRing, key_with}
use Rattle.link_frames.specs.frames.Layout.{frame_len, tag_at, tag_len}
use Rattle.link_frames.specs.frames.Opening.{open_due}
use Rattle.link_frames.specs.frames.Packets.{PacketValue, IsSound}
use Rattle.role_commands.proofs.Exported.{length-bytes_of, IsBytes-part, command_again, command_takes}
use Rattle.link_frames.proofs.frame_lemmas.PacketReading.{demand_ok, demand_again, HasFields, packet_takes}
use Rattle.link_frames.proofs.frame_lemmas.PacketReading.{packet_again}

pub length-hmac : (key text : List ℕ) → length (hmac key text) ≡ tag_len
unfolding hmac
length-hmac key text = length-sha256 _

-- ---- parts of bytes

part-add : (at n m : ℕ) (bytes : List ℕ) → part at (n + m) bytes ≡ part at n bytes ++ part (at + n) m bytes
part-add at n m bytes = take-add n m (drop at bytes)
    ∙ ap (λ l. take n (drop at bytes) ++ take m l) (drop-drop n at bytes)

part-one : (at : ℕ) (bytes : List ℕ) → at < length bytes → part at 1 bytes ≡ get_or bytes at 0 ∷ []
part-one at bytes h = rw (drop-cons bytes at 0 h) refl

length-part : (at n : ℕ) (bytes : List ℕ) → at + n ≤ length bytes → length (part at n bytes) ≡ n
length-part at n bytes h = simp (length-take, length-drop) (omega arith)

both : {a b c d : List ℕ} → a ≡ b → c ≡ d → a ++ c ≡ b ++ d
both p q = cc

-- ---- the fields

-- bytes with a packet's fields begin with them
fields_are : (cluster nodes sender receiver : ℕ) (bytes : List ℕ) (p : PacketValue) → IsBytes bytes
    → length bytes ≡ frame_len
    → get_or bytes 0 0 ≡ 2 → from_be_bytes w32 (part 1 4 bytes) ≡ cluster
    → get_or bytes 5 0 ≡ sender → get_or bytes 6 0 ≡ receiver → HasFields nodes sender receiver bytes p
    → part 0 tag_at bytes ≡ fields_of cluster p
unfolding fields_of
fields_are cluster nodes sender receiver bytes p fits len version cluster_is from to h =
    let four : to_be_bytes w32 cluster ≡ part 1 4 bytes =
    be_bytes_4 (part 1 4 bytes) cluster (length-part 1 4 bytes (omega arith)) (IsBytes-part 1 4 bytes fits)
    (sym cluster_is) in
    let place : to_be_bytes w32 p.place ≡ part 9 4 bytes =
    be_bytes_4 (part 9 4 bytes) p.place (length-part 9 4 bytes (omega arith)) (IsBytes-part 9 4 bytes fits)
    (sym h.place) in
    let command = (command_takes (part 13 9 bytes) p.command (IsBytes-part 13 9 bytes fits) h.command).0 in
    let one : (at n : ℕ) → at < frame_len → get_or bytes at 0 ≡ n → part at 1 bytes ≡ n ∷ [] =
    λ at n lt e. part-one at bytes (omega arith) ∙ ap (λ b. b ∷ []) e in
    part-add 0 1 21 bytes ∙ both (one 0 2 (omega arith) version)
    (part-add 1 4 17 bytes ∙ both (sym four)
    (part-add 5 1 16 bytes ∙ both (one 5 p.from (omega arith) (from ∙ sym h.from))
    (part-add 6 1 15 bytes ∙ both (one 6 p.to (omega arith) (to ∙ sym h.to))
    (part-add 7 1 14 bytes ∙ both (one 7 (kind_byte p.kind) (omega arith) h.kind)
    (part-add 8 1 13 bytes ∙ both (one 8 p.owner (omega arith) h.owner)
    (part-add 9 4 9 bytes ∙ both (sym place) command))))))

-- what bytes open to is sound, whatever the bytes
pub opened_is_sound : (ring : KeyRing) (cluster : ℕ) (bytes : List ℕ) (p : PacketValue)
    → open_due ring cluster bytes ≡ Ok p → IsSound p
unfolding open_due
opened_is_sound ring cluster bytes p e =
    let a = demand_ok _ _ _ _ e in
    let b = demand_ok _ _ _ _ a.1 in
    let c = demand_ok _ _ _ _ b.1 in
    let d = demand_ok _ _ _ _ c.1 in
    let f = demand_ok _ _ _ _ d.1 in
    let g = demand_ok _ _ _ _ f.1 in
    (packet_takes _ _ _ _ p g.1).sound

-- ---- both directions

pub open_takes : (ring : KeyRing) (cluster : ℕ) (bytes : List ℕ) (p : PacketValue) → IsBytes bytes
    → open_due ring cluster bytes ≡ Ok p → IsFrameFor ring cluster bytes p
unfolding open_due frame
open_takes ring cluster bytes p fits e =
    let a = demand_ok _ _ _ _ e in
    let b = demand_ok _ _ _ _ a.1 in
    let c = demand_ok _ _ _ _ b.1 in
    let d = demand_ok _ _ _ _ c.1 in
    let f = demand_ok _ _ _ _ d.1 in
    let g = demand_ok _ _ _ _ f.1 in
    let sender = get_or bytes 5 0 in
    let len : length bytes ≡ frame_len = eqb-true _ _ a.0 in
    let read = packet_takes ring.sizes.nodes sender ring.me bytes p g.1 in
    let fields = fields_are cluster ring.sizes.nodes sender ring.me bytes p fits len (eqb-true _ _ b.0)
    (eqb-true _ _ c.0) refl (eqb-true _ _ d.0) read in
    let tag : part tag_at tag_len bytes ≡ hmac (key_with ring sender) (part 0 tag_at bytes) =
    (bytes_eq-Decides _ _).0 g.0 in
    let tag_is : part tag_at tag_len bytes ≡ hmac (key_with ring p.from) (fields_of cluster p) =
    tag ∙ ap (λ n. hmac (key_with ring n) (part 0 tag_at bytes)) (sym read.from)
    ∙ ap (hmac (key_with ring p.from)) fields in
    let whole : bytes ≡ part 0 tag_at bytes ++ part tag_at tag_len bytes =
    sym (take_all frame_len bytes (omega arith)) ∙ part-add 0 tag_at tag_len bytes in
    let command = command_takes (part 13 9 bytes) p.command (IsBytes-part 13 9 bytes fits) read.command in
    record {
      packet = (read.sound.0, read.sound.1, command.1);
      frame = whole ∙ both fields tag_is;
      to = read.to;
      from = subst (λ n. n < ring.sizes.nodes) (sym read.from) (ltb-true _ _ f.0);
      owner = read.is_node;
    }

-- the fields of a packet to the ring's node and their tag
opens : (ring : KeyRing) (cluster : ℕ) (p : PacketValue) (command tag : List ℕ) → length command ≡ command_length
    → length tag ≡ tag_len
    → command_in command ≡ Some p.command
    → tag ≡ hmac (key_with ring p.from) (header cluster p ++ command) → cluster < 2 ^ 32 → IsSound p
    → p.to ≡ ring.me → p.from < ring.sizes.nodes → p.owner < ring.sizes.nodes
    → open_due ring cluster (header cluster p ++ (command ++ tag)) ≡ Ok p
unfolding open_due
opens ring cluster p command tag nine long is_command is_tag in_cluster sound to from owner =
    let bytes = header cluster p ++ (command ++ tag) in
    let len : length bytes ≡ frame_len = omega (arith, length-append command tag) in
    let command_part : part 13 9 bytes ≡ command = take_at command tag 9 nine in
    let tag_part : part tag_at tag_len bytes ≡ tag =
    ap (take tag_len) (drop_at command tag 9 nine) ∙ take_all tag_len tag (omega arith) in
    let fields_part : part 0 tag_at bytes ≡ header cluster p ++ command =
    ap (λ l. header cluster p ++ l) (take_at command tag 9 nine) in
    let right_tag : part tag_at tag_len bytes ≡ hmac (key_with ring p.from) (part 0 tag_at bytes) =
    tag_part ∙ is_tag ∙ ap (hmac (key_with ring p.from)) (sym fields_part) in
    let fields : HasFields ring.sizes.nodes p.from ring.me bytes p = record {
      from = refl;
      to = to;
      kind = refl;
      owner = refl;
      is_node = owner;
      place = from_be_bytes-to_be_bytes_4 p.place (omega (arith, sound.1));
      command = ap command_in command_part ∙ is_command;
      sound = sound;
    } in
    demand_again _ _ _ _ (eq-eqb _ _ len)
    (demand_again _ _ _ _ refl
    (demand_again _ _ _ _ (eq-eqb _ _ (from_be_bytes-to_be_bytes_4 cluster in_cluster))
    (demand_again _ _ _ _ (eq-eqb _ _ to)
    (demand_again _ _ _ _ (lt-ltb _ _ from)
    (demand_again _ _ _ _ ((bytes_eq-Decides _ _).1 right_tag)
    (packet_again ring.sizes.nodes p.from ring.me bytes p fields))))))

pub open_again : (ring : KeyRing) (cluster : ℕ) (bytes : List ℕ) (p : PacketValue) → cluster < 2 ^ 32
    → IsFrameFor ring cluster bytes p → open_due ring cluster bytes ≡ Ok p
unfolding frame fields_of
open_again ring cluster bytes p in_cluster h =
    let command = bytes_of p.command in
    let tag = hmac (key_with ring p.from) (header cluster p ++ command) in
    ap (open_due ring cluster) (h.frame ∙ append_assoc (header cluster p) command tag)
    ∙ opens ring cluster p command tag (length-bytes_of p.command) (length-hmac _ _)
    (command_again p.command h.packet.2) refl in_cluster (h.packet.0, h.packet.1) h.to h.from h.owner
