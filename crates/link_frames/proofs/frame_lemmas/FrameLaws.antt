-- A packet has one frame, and a frame one packet.
use Rattle.std.proofs.Common.{◌≡◌, ℕ, List, ◌<◌, get_or, Some, sym, ap, subst, ◌∙◌, arith, length-append, take_at}
use Rattle.std.proofs.lemmas.Nat.{from_be_bytes-to_be_bytes_4}
use Rattle.std.specs.Int.{w32, from_be_bytes}
use Rattle.role_commands.specs.Bytes.{bytes_of, part}
use Rattle.role_commands.specs.declared.command.Command.{Command}
use Rattle.role_commands.proofs.Exported.{bytes_of_injective, length-bytes_of}
use Rattle.link_frames.specs.frames.Frames.{header, fields_of, frame}
use Rattle.link_frames.specs.frames.Hmac.{hmac}
use Rattle.link_frames.specs.frames.KeyRings.{key_with}
use Rattle.link_frames.specs.Laws.{SealedIsOpened, OneFrame, FramesDiffer, FrameLength}
use Rattle.link_frames.specs.frames.Opening.{kind_in}
use Rattle.link_frames.specs.frames.Packets.{PacketValue}
use Rattle.link_frames.specs.declared.frames.kind.Kind.{Kind}
use Rattle.link_frames.proofs.frame_lemmas.OpeningLemmas.{length-hmac, open_takes, open_again}
use Rattle.link_frames.proofs.frame_lemmas.PacketReading.{kind_again}

pub sealed_is_opened : SealedIsOpened
sealed_is_opened a b cluster p linked in_cluster packet from to owner =
    let key : key_with a p.to ≡ key_with b p.from = ap (key_with a) to ∙ linked.key ∙ ap (key_with b) (sym from) in
    open_again b cluster _ p in_cluster (record {
      packet = packet;
      frame = ap (λ k. frame k cluster p) key;
      to = to;
      from = subst (λ s. p.from < s.nodes) linked.sizes (subst (λ n. n < a.sizes.nodes) (sym from) linked.here.1);
      owner = owner;
    })

pub one_frame : OneFrame
one_frame ring cluster xs ys p fits also e d =
    (open_takes ring cluster xs p fits e).frame ∙ sym (open_takes ring cluster ys p also d).frame

pub length-frame : FrameLength
unfolding frame fields_of
length-frame key cluster p =
    omega (
      arith,
      length-append (fields_of cluster p) (hmac key (fields_of cluster p)),
      length-append (header cluster p) (bytes_of p.command),
      length-bytes_of p.command,
      length-hmac key (fields_of cluster p),
    )

made : ℕ → ℕ → Kind → ℕ → ℕ → Command → PacketValue
made from to kind owner place command =
    record { from = from; to = to; kind = kind; owner = owner; place = place; command = command }

same_made : {a b : ℕ} {c d : ℕ} {k l : Kind} {o u : ℕ} {s t : ℕ} {x y : Command} → a ≡ b → c ≡ d → k ≡ l → o ≡ u
    → s ≡ t → x ≡ y
    → made a c k o s x ≡ made b d l u t y
same_made e1 e2 e3 e4 e5 e6 = cc

pub frames_differ : FramesDiffer
unfolding frame fields_of made
frames_differ k l c d p q in_c in_d packet other e =
    let same_kind : Some p.kind ≡ Some q.kind =
    sym (kind_again p.kind) ∙ ap (λ bs. kind_in (get_or bs 7 0)) e ∙ kind_again q.kind in
    let kind : p.kind ≡ q.kind = cc in
    let command_part : (key : List ℕ) (cluster : ℕ) (r : PacketValue)
    → part 13 9 (frame key cluster r) ≡ bytes_of r.command =
    λ key cluster r. take_at (bytes_of r.command) _ 9 (length-bytes_of r.command) in
    let command = bytes_of_injective p.command q.command packet.2 other.2
    (sym (command_part k c p) ∙ ap (part 13 9) e ∙ command_part l d q) in
    let place = sym (from_be_bytes-to_be_bytes_4 p.place (omega (arith, packet.1)))
    ∙ ap (λ bs. from_be_bytes w32 (part 9 4 bs)) e
    ∙ from_be_bytes-to_be_bytes_4 q.place (omega (arith, other.1)) in
    let cluster = sym (from_be_bytes-to_be_bytes_4 c in_c) ∙ ap (λ bs. from_be_bytes w32 (part 1 4 bs)) e
    ∙ from_be_bytes-to_be_bytes_4 d in_d in (
      cluster,
      same_made (ap (λ bs. get_or bs 5 0) e) (ap (λ bs. get_or bs 6 0) e) kind
          (ap (λ bs. get_or bs 8 0) e) place command,
    )
