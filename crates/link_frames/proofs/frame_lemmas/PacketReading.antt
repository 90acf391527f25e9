-- What is read of a packet's fields is the packet that has them.
use Rattle.role_commands.specs.Bytes.{part, command_in}
use Rattle.std.proofs.Common.{◌≡◌, ℕ, ◌<◌, ◌⊎◌, Bool, true, false, cond, not, eqb, List, get_or}
use Rattle.std.proofs.Common.{Option, Some, None, Result, Ok, refl, sym, ap, subst, ◌∙◌, inl, inr, arith}
use Rattle.std.specs.Prelude.{nat_le, ◌&&◌, ◌||◌}
use Rattle.std.specs.Int.{w32, from_be_bytes}
use Rattle.std.proofs.lemmas.Bool.{ltb-true, lt-ltb, leb-false, lt-leb, eqb-true, eq-eqb, or_parts, or_from}
use Rattle.link_frames.specs.frames.Frames.{kind_byte}
use Rattle.link_frames.specs.frames.Kinds.{same_kind}
use Rattle.link_frames.specs.frames.Opening.{need, given, kind_in, packet_in}
use Rattle.link_frames.specs.frames.Packets.{PacketValue, SentByOwner, IsSound, place_count}
use Rattle.link_frames.specs.frames.Packets.{packet_of, message_of, is_relayed, packet_due}
use Rattle.link_frames.specs.declared.frames.kind.Kind.{Kind}
use Rattle.link_frames.specs.declared.frames.kind.Kind.TheVariants.{Send, Echo, Ready}
use Rattle.link_frames.specs.declared.frames.opening.LinkFault.{LinkFault}
use Rattle.link_frames.specs.declared.frames.packet.Message.{Message}

-- ---- steps

pub demand_ok : {X : Type 0} (test : Bool) (fault : LinkFault) (rest : Result X LinkFault) (x : X)
    → need test fault rest ≡ Ok x → (test ≡ true) × (rest ≡ Ok x)
unfolding need
demand_ok true fault rest x e = (refl, e)
demand_ok false fault rest x e = absurd cc

pub demand_again : {X : Type 0} (test : Bool) (fault : LinkFault) (rest y : Result X LinkFault) → test ≡ true → rest ≡ y
    → need test fault rest ≡ y
unfolding need
demand_again true fault rest y holds e = e
demand_again false fault rest y holds e = absurd cc

pub some_ok : {X Y : Type 0} (o : Option X) (fault : LinkFault) (rest : X → Result Y LinkFault) (y : Y)
    → given o fault rest ≡ Ok y → (x : X) × (o ≡ Some x) × (rest x ≡ Ok y)
unfolding given
some_ok None fault rest y e = absurd cc
some_ok (Some x) fault rest y e = (x, refl, e)

pub some_again : {X Y : Type 0} (o : Option X) (fault : LinkFault) (rest : X → Result Y LinkFault) (x : X)
    (y : Result Y LinkFault) → o ≡ Some x → rest x ≡ y → given o fault rest ≡ y
unfolding given
some_again o fault rest x y is e = rw is e

chosen : {X : Type 0} (b : Bool) (x y z : X) → cond b x y ≡ z → ((b ≡ true) × (x ≡ z)) ⊎ ((b ≡ false) × (y ≡ z))
chosen true x y z e = inl (refl, e)
chosen false x y z e = inr (refl, e)

-- ---- kinds

pub kind_again : (k : Kind) → kind_in (kind_byte k) ≡ Some k
kind_again Send = refl
kind_again Echo = refl
kind_again Ready = refl

kind_is : (j k : Kind) → Some j ≡ Some k → j ≡ k
kind_is j k e = cc

pub kind_takes : (b : ℕ) (k : Kind) → kind_in b ≡ Some k → b ≡ kind_byte k
kind_takes b k e =
    elim (chosen (eqb b 1) (Some Send) _ (Some k) e) [
      | inl h ↦ eqb-true b 1 h.0 ∙ ap kind_byte (kind_is Send k h.1)
      | inr h ↦ elim (chosen (eqb b 2) (Some Echo) _ (Some k) h.1) [
        | inl i ↦ eqb-true b 2 i.0 ∙ ap kind_byte (kind_is Echo k i.1)
        | inr i ↦ elim (chosen (eqb b 3) (Some Ready) None (Some k) i.1) [
          | inl j ↦ eqb-true b 3 j.0 ∙ ap kind_byte (kind_is Ready k j.1)
          | inr j ↦ let no : ◌≡◌ {A = Option Kind} None (Some k) = j.1 in absurd cc
        ]
      ]
    ]

-- ---- packets

relayed : Kind → Bool → Bool
relayed k by_owner = same_kind k Send && not by_owner

sent : (k : Kind) (b : Bool) → relayed k b ≡ false → k ≡ Send → b ≡ true
unfolding relayed
sent k true e s = refl
sent Send false e s = absurd cc
sent Echo false e s = absurd cc
sent Ready false e s = absurd cc

own : (k : Kind) (b : Bool) → (k ≡ Send → b ≡ true) → relayed k b ≡ false
unfolding relayed
own Send b h = ap not (h refl)
own Echo b h = refl
own Ready b h = refl

pub due_takes : (from to : ℕ) (m : Message) (p : PacketValue) → packet_due from to m ≡ Some p
    → (packet_of from to m ≡ p) × IsSound p
unfolding relayed
due_takes from to m p e = go (relayed m.kind (eqb from m.owner) || nat_le place_count m.place) refl e
  where
    go : (b : Bool) → (relayed m.kind (eqb from m.owner) || nat_le place_count m.place) ≡ b
        → cond b None (Some (packet_of from to m)) ≡ Some p → (packet_of from to m ≡ p) × IsSound p
    go true t e = absurd cc
    go false t e =
        let is : packet_of from to m ≡ p = cc in
        let free = or_parts (relayed m.kind (eqb from m.owner)) (nat_le place_count m.place) t in
        let by_owner : SentByOwner (packet_of from to m) =
        λ s. eqb-true _ _ (sent m.kind (eqb from m.owner) free.0 s) in
        (is, subst IsSound is (by_owner, leb-false place_count m.place free.1))

eqb_same : (n : ℕ) → eqb n n ≡ true
eqb_same n = eq-eqb n n refl

-- a sound packet's message is no other's SEND
free_again : (p : PacketValue) → SentByOwner p → is_relayed p.from (message_of p) ≡ false
unfolding relayed
free_again p h = own p.kind (eqb p.from p.owner) (λ s. ap (λ n. eqb p.from n) (sym (h s)) ∙ eqb_same p.from)

pub due_again : (p : PacketValue) → IsSound p → packet_due p.from p.to (message_of p) ≡ Some p
due_again p h =
    let due = or_from (is_relayed p.from (message_of p)) (nat_le place_count p.place)
    (free_again p h.0) (lt-leb place_count p.place h.1) in
    rw due refl

-- what the fields of a packet are read from
pub record HasFields (nodes sender receiver : ℕ) (bytes : List ℕ) (p : PacketValue) : Type 0 where
  pub from : p.from ≡ sender
  pub to : p.to ≡ receiver
  pub kind : get_or bytes 7 0 ≡ kind_byte p.kind
  pub owner : get_or bytes 8 0 ≡ p.owner
  pub is_node : p.owner < nodes
  pub place : from_be_bytes w32 (part 9 4 bytes) ≡ p.place
  pub command : command_in (part 13 9 bytes) ≡ Some p.command
  pub sound : IsSound p

pub packet_takes : (nodes from to : ℕ) (bytes : List ℕ) (p : PacketValue) → packet_in nodes from to bytes ≡ Ok p
    → HasFields nodes from to bytes p
unfolding packet_in
packet_takes nodes from to bytes p e =
    let kind = some_ok _ _ _ _ e in
    let owner = demand_ok _ _ _ _ kind.2 in
    let command = some_ok _ _ _ _ owner.1 in
    let by_owner = demand_ok _ _ _ _ command.2 in
    let packet = some_ok _ _ _ _ by_owner.1 in
    let same : packet.0 ≡ p = cc in
    let is = due_takes _ _ _ _ (packet.1 ∙ ap Some same) in
    record {
      from = sym (ap (λ (q : PacketValue). q.from) is.0);
      to = sym (ap (λ (q : PacketValue). q.to) is.0);
      kind = kind_takes _ _ kind.1 ∙ ap (λ (q : PacketValue). kind_byte q.kind) is.0;
      owner = ap (λ (q : PacketValue). q.owner) is.0;
      is_node = subst (λ n. n < nodes) (ap (λ (q : PacketValue). q.owner) is.0) (ltb-true _ _ owner.0);
      place = ap (λ (q : PacketValue). q.place) is.0;
      command = command.1 ∙ ap (λ (q : PacketValue). Some q.command) is.0;
      sound = is.1;
    }

pub packet_again : (nodes from to : ℕ) (bytes : List ℕ) (p : PacketValue) → HasFields nodes from to bytes p
    → packet_in nodes from to bytes ≡ Ok p
unfolding packet_in
packet_again nodes from to bytes p h =
    let message : Message = record
    { kind = p.kind; owner = get_or bytes 8 0; place = from_be_bytes w32 (part 9 4 bytes); command = p.command } in
    let due : packet_due from to message ≡ Some p = rw (h.owner, h.place, ← h.from, ← h.to) (due_again p h.sound) in
    let free : is_relayed from message ≡ false = rw (h.owner, ← h.from) (free_again p h.sound.0) in
    some_again _ _ _ p.kind _ (ap kind_in h.kind ∙ kind_again p.kind)
    (demand_again _ _ _ _ (lt-ltb _ _ (omega (arith, h.owner, h.is_node)))
    (some_again _ _ _ p.command _ h.command
    (demand_again _ _ _ _ (ap not free)
    (some_again _ _ _ p _ due refl))))
