-- What the marks of a block add, node by node and message by message.
use Rattle.std.proofs.Common.{◌≡◌, ℕ, zero, suc, ◌+◌, ◌*◌, ◌≤◌, List, [], ◌∷◌, ◌++◌, length, Option, Some, None}
use Rattle.std.proofs.Common.{drop, refl, sym, ap, ◌∙◌, append-nil, append_assoc, length-append, arith}
use Rattle.std.specs.Prelude.{slice_get}
use Rattle.link_frames.specs.declared.frames.packet.Message.{Message}
use Rattle.byz_world.specs.Pools.{Sent}
use Rattle.byz_world.specs.inside.Blocks.{noted_names, noted_messages, row_names, row_messages, row_of}
use Rattle.byz_world.specs.inside.Blocks.{mark_of_row, block_names, block_messages}
use Rattle.byz_world.specs.declared.block.Mark.{Mark}
use Rattle.byz_world.specs.declared.block.Mark.TheVariants.{Passed, Counted}

pub row_names-none : (marks : ℕ → Option Mark) → row_names marks 0 ≡ []
unfolding row_names
row_names-none marks = refl

pub row_names-next : (marks : ℕ → Option Mark) (name : ℕ) →
    row_names marks (name + 1) ≡ row_names marks name ++ noted_names name (marks name)
unfolding row_names
row_names-next marks name = ap (row_names marks) next
  where
    next : name + 1 ≡ suc name
    next = omega arith

pub row_messages-none : (marks : ℕ → Option Mark) (m : Message) → row_messages marks m 0 ≡ []
unfolding row_messages
row_messages-none marks m = refl

pub row_messages-next : (marks : ℕ → Option Mark) (m : Message) (name : ℕ) →
    row_messages marks m (name + 1) ≡ row_messages marks m name ++ noted_messages name m (marks name)
unfolding row_messages
row_messages-next marks m name = ap (row_messages marks m) next
  where
    next : name + 1 ≡ suc name
    next = omega arith

few_names : (name : ℕ) (mark : Option Mark) → length (noted_names name mark) ≤ 1
few_names name None = omega arith
few_names name (Some Passed) = omega arith
few_names name (Some (Counted kind)) = omega arith

pub few_messages : (name : ℕ) (m : Message) (mark : Option Mark) → length (noted_messages name m mark) ≤ 1
few_messages name m None = omega arith
few_messages name m (Some Passed) = omega arith
few_messages name m (Some (Counted None)) = omega arith
few_messages name m (Some (Counted (Some kind))) = omega arith

pub row_names-few : (marks : ℕ → Option Mark) (name : ℕ) → length (row_names marks name) ≤ name
row_names-few marks zero = omega (arith, ap length (row_names-none marks))
row_names-few marks (suc name) =
    let next : suc name ≡ name + 1 = omega arith in
    let long : length (row_names marks (suc name)) ≡ length (row_names marks name) + length
    (noted_names name (marks name))
    = ap (λ n. length (row_names marks n)) next ∙ ap length (row_names-next marks name)
    ∙ length-append (row_names marks name) (noted_names name (marks name)) in
    omega (arith, long, row_names-few marks name, few_names name (marks name))

pub row_messages-few : (marks : ℕ → Option Mark) (m : Message) (name : ℕ) → length (row_messages marks m name) ≤ name
row_messages-few marks m zero = omega (arith, ap length (row_messages-none marks m))
row_messages-few marks m (suc name) =
    let next : suc name ≡ name + 1 = omega arith in
    let long : length (row_messages marks m (suc name))
    ≡ length (row_messages marks m name) + length (noted_messages name m (marks name))
    = ap (λ n. length (row_messages marks m n)) next ∙ ap length (row_messages-next marks m name)
    ∙ length-append (row_messages marks m name) (noted_messages name m (marks name)) in
    omega (arith, long, row_messages-few marks m name, few_messages name m (marks name))

pub block_names-none : (marks : List Mark) (count nodes : ℕ) → block_names marks count nodes 0 ≡ []
unfolding block_names
block_names-none marks count nodes = refl

pub block_names-next : (marks : List Mark) (count nodes number : ℕ) →
    block_names marks count nodes (number + 1)
    ≡ block_names marks count nodes number ++ row_names (mark_of_row marks count number) nodes
unfolding block_names
block_names-next marks count nodes number = ap (block_names marks count nodes) next
  where
    next : number + 1 ≡ suc number
    next = omega arith

pub block_messages-none : (marks : List Mark) (sent : List Sent) (count nodes : ℕ) →
    block_messages marks sent count nodes 0 ≡ []
unfolding block_messages
block_messages-none marks sent count nodes = refl

pub block_messages-next : (marks : List Mark) (sent : List Sent) (count nodes number : ℕ) (s : Sent) →
    slice_get sent number ≡ Some s →
    block_messages marks sent count nodes (number + 1)
    ≡ block_messages marks sent count nodes number ++ row_messages (mark_of_row marks count number) s.1 nodes
unfolding block_messages
block_messages-next marks sent count nodes number s at =
    ap (block_messages marks sent count nodes) next
    ∙ ap (λ o. block_messages marks sent count nodes number ++ row_of (mark_of_row marks count number) nodes o) at
  where
    next : number + 1 ≡ suc number
    next = omega arith

-- As the code has it.

-- so much was noted behind what stood before, and nothing else was done to a list with room
pub record IsNoted {A : Type 0} (before now : List A) (room capacity : ℕ) (noted : List A) (most : ℕ) : Type 0 where
  pub items : now ≡ before ++ noted
  pub room_is : capacity ≡ room
  pub few : length noted ≤ most

-- .. behind the order, and behind the messages
pub record AreNoted (order order' : List ℕ) (order_room order_capacity : ℕ) (names : List ℕ) (sent sent' : List Sent)
    (sent_room sent_capacity : ℕ) (said : List Sent) (most : ℕ) : Type 0 where
  pub order_is : IsNoted order order' order_room order_capacity names most
  pub sent_is : IsNoted sent sent' sent_room sent_capacity said most

pub noted_none : {A : Type 0} (before : List A) (room : ℕ) (noted : List A) (most : ℕ) → noted ≡ [] →
    IsNoted before before room room noted most
noted_none before room noted most none = record {
  items = sym (ap (λ xs. before ++ xs) none ∙ append-nil before);
  room_is = refl;
  few = omega (arith, ap length none);
}

pub noted_more : {A : Type 0} {before now : List A} {room capacity : ℕ} {noted : List A} {most : ℕ} →
    (now' : List A) (capacity' : ℕ) (more noted' : List A) (most' : ℕ) → IsNoted before now room capacity noted most →
    now' ≡ now ++ more → capacity' ≡ capacity → noted' ≡ noted ++ more → length noted' ≤ most' →
    IsNoted before now' room capacity' noted' most'
noted_more {A} {before} {now} {room} {capacity} {noted} {most} now' capacity' more noted' most' was items same longer
    few
    = record {
      items = items ∙ ap (λ xs. xs ++ more) was.items ∙ append_assoc before noted more
          ∙ ap (λ xs. before ++ xs) (sym longer);
      room_is = same ∙ was.room_is;
      few = few;
    }

pub block_names-few : (marks : List Mark) (count nodes number : ℕ) →
    length (block_names marks count nodes number) ≤ number * nodes
block_names-few marks count nodes zero = omega (arith, ap length (block_names-none marks count nodes))
block_names-few marks count nodes (suc number) =
    let next : suc number ≡ number + 1 = omega arith in
    let row : List ℕ = row_names (mark_of_row marks count number) nodes in
    let long : length (block_names marks count nodes (suc number))
    ≡ length (block_names marks count nodes number) + length row =
    ap (λ n. length (block_names marks count nodes n)) next ∙ ap length (block_names-next marks count nodes number)
    ∙ length-append (block_names marks count nodes number) row in
    let product : suc number * nodes ≡ number * nodes + nodes = grind arith in
    omega (
      arith,
      long,
      block_names-few marks count nodes number,
      row_names-few (mark_of_row marks count number) nodes,
      product,
    )

row_of-few : (marks : ℕ → Option Mark) (nodes : ℕ) (sent : Option Sent) → length (row_of marks nodes sent) ≤ nodes
row_of-few marks nodes None = omega arith
row_of-few marks nodes (Some sent) = row_messages-few marks sent.1 nodes

pub block_messages-few : (marks : List Mark) (sent : List Sent) (count nodes number : ℕ) →
    length (block_messages marks sent count nodes number) ≤ number * nodes
unfolding block_messages
block_messages-few marks sent count nodes zero = omega arith
block_messages-few marks sent count nodes (suc number) =
    let row : List Sent = row_of (mark_of_row marks count number) nodes (slice_get sent number) in
    let long : length (block_messages marks sent count nodes number ++ row)
    ≡ length (block_messages marks sent count nodes number) + length row =
    length-append (block_messages marks sent count nodes number) row in
    let product : suc number * nodes ≡ number * nodes + nodes = grind arith in
    omega (
      arith,
      long,
      block_messages-few marks sent count nodes number,
      row_of-few (mark_of_row marks count number) nodes (slice_get sent number),
      product,
    )

pub dropped-at : {A : Type 0} (first : ℕ) (xs : List A) (k : ℕ) →
    slice_get (drop first xs) k ≡ slice_get xs (first + k)
dropped-at zero xs k = ap (slice_get xs) zero_more
  where
    zero_more : k ≡ 0 + k
    zero_more = omega arith
dropped-at (suc first) [] k = refl
dropped-at (suc first) (x ∷ xs) k = dropped-at first xs k ∙ ap (slice_get (x ∷ xs)) next
  where
    next : suc (first + k) ≡ suc first + k
    next = omega arith
