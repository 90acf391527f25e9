use Rattle.std.proofs.Common.{◌≡◌, ℕ, ◌+◌, ◌-◌, ◌*◌, ◌++◌, List, length, take, drop, Result, Ok, Err, ap, sym}
use Rattle.std.proofs.Common.{◌∙◌, subst, length-drop, arith}
use Rattle.std.specs.Prelude.{OnErr}
use Rattle.byz_world.specs.inside.Blocks.{AreGiven, SomeMayWant, block_names, block_messages}
use Rattle.byz_world.specs.Pools.{Sent, messages}
use Rattle.std.proofs.lemmas.List.{length-take-le}
use Rattle.byz_world.specs.Worlds.{WorldValue}
use Rattle.byz_world.proofs.BlockWorld.{HasMerged, block_given, block_may_add}
use Rattle.byz_world.proofs.world.World.give_block.Goals as goal
use Rattle.byz_world.proofs.world.World.give_block.Goals.{After-drop-marks-2, After-drop-marks-in_err-given}

merged : (c : After-drop-marks-2) →
    HasMerged c.self.inside.config c.self.inside.liars c.args.self.now c.args.first c.args.count
    (length c.give_to_each-given.new.marks.items)
    c.give_to_each-given.new.members.items c.note_block.new.order.items c.note_block.new.sent.items
merged c =
    let a = c.self.inside in
    let first = c.args.first in
    let count = c.args.count in
    let marks = c.give_to_each-given.new.marks.items in
    let long : (first + count) - first ≡ count = omega arith in
    let P : ℕ → List Sent → Type 0 = λ k sent.
    AreGiven a.members.items c.give_to_each-given.new.members.items (take k (drop first sent)) marks in
    let given : P count a.sent.items =
    subst (P count) (c.deref.ensures.value ∙ c.make_room-room.ensures.sent)
    (subst (λ k. P k c.deref.result.now) long c.give_to_each-given.ensures.given) in
    let nodes : c.sizes-sizes.result.nodes ≡ a.config.roles.sizes.nodes =
    ap (λ s. s.nodes) c.sizes-sizes.ensures.value ∙ ap (λ (w : WorldValue). w.config.roles.sizes.nodes)
    (sym c.self.view_is) in
    block_given a.config a.liars a.members.items a.order.items a.sent.items c.args.self.now first count marks
    c.give_to_each-given.new.members.items c.note_block.new.order.items c.note_block.new.sent.items
    c.self.invariant.world c.self.view_is c.requires given
    (c.note_block.ensures.order
    ∙ (λ i. c.make_room-room.ensures.order i ++ block_names (c.deref-2.ensures.value i) count (nodes i) count))
    (c.note_block.ensures.sent
    ∙ (λ i. c.make_room-room.ensures.sent i
    ++ block_messages (c.deref-2.ensures.value i) (drop first (c.make_room-room.ensures.sent i)) count (nodes i) count))

-- .. where memory was wanting on the way
merged_in_part : (c : After-drop-marks-in_err-given) →
    HasMerged c.self.inside.config c.self.inside.liars c.args.self.now c.args.first c.args.count
    (length c.give_to_each-given.new.marks.items)
    c.give_to_each-given.new.members.items c.note_block.new.order.items c.note_block.new.sent.items
merged_in_part c =
    let a = c.self.inside in
    let first = c.args.first in
    let count = c.args.count in
    let marks = c.give_to_each-given.new.marks.items in
    let long : (first + count) - first ≡ count = omega arith in
    let P : ℕ → List Sent → Type 0 = λ k sent.
    AreGiven a.members.items c.give_to_each-given.new.members.items (take k (drop first sent)) marks in
    let given : P count a.sent.items =
    subst (P count) (c.deref.ensures.value ∙ c.make_room-room.ensures.sent)
    (subst (λ k. P k c.deref.result.now) long c.give_to_each-given.ensures.given) in
    let nodes : c.sizes-sizes.result.nodes ≡ a.config.roles.sizes.nodes =
    ap (λ s. s.nodes) c.sizes-sizes.ensures.value ∙ ap (λ (w : WorldValue). w.config.roles.sizes.nodes)
    (sym c.self.view_is) in
    block_given a.config a.liars a.members.items a.order.items a.sent.items c.args.self.now first count marks
    c.give_to_each-given.new.members.items c.note_block.new.order.items c.note_block.new.sent.items
    c.self.invariant.world c.self.view_is c.requires given
    (c.note_block.ensures.order
    ∙ (λ i. c.make_room-room.ensures.order i ++ block_names (c.deref-2.ensures.value i) count (nodes i) count))
    (c.note_block.ensures.sent
    ∙ (λ i. c.make_room-room.ensures.sent i
    ++ block_messages (c.deref-2.ensures.value i) (drop first (c.make_room-room.ensures.sent i)) count (nodes i) count))

pub invariant_of-self-in_err-given : goal.invariant_of-self-in_err-given
invariant_of-self-in_err-given c = record {
  world = (merged_in_part c).is;
  keys = c.self.invariant.keys;
  cursor = c.self.invariant.cursor;
}

pub returns-in_err-given-clause-prolonged : goal.returns-in_err-given-clause-prolonged
returns-in_err-given-clause-prolonged c = (merged_in_part c).prolonged

pub returns-in_err-given-clause-memory : goal.returns-in_err-given-clause-memory
returns-in_err-given-clause-memory c =
    let a = c.self.inside in
    let first = c.args.first in
    let count = c.args.count in
    let members' = c.give_to_each-given.new.members.items in
    let long : (first + count) - first ≡ count = omega arith in
    let W : ℕ → List Sent → Type 0 = λ k sent. SomeMayWant members' (take k (drop first sent)) in
    let want : W count a.sent.items =
    subst (W count) (c.deref.ensures.value ∙ c.make_room-room.ensures.sent)
    (subst (λ k. W k c.deref.result.now) long c.in_err-given.ensures.memory) in
    let more : List Sent =
    block_messages c.deref-2.result.now (drop first c.make_room-room.new.sent.items) count c.sizes-sizes.result.nodes
    count in
    on_err c.from_residual.result
    (block_may_add a.config a.liars c.args.self.now first count (length c.give_to_each-given.new.marks.items) members'
    c.note_block.new.order.items a.sent.items c.note_block.new.sent.items more (merged_in_part c)
    (c.note_block.ensures.sent ∙ ap (λ xs. xs ++ more) c.make_room-room.ensures.sent) want)
  where
    on_err : {A E : Type 0} (r : Result A E) → {P : Type 0} → P → OnErr r P
    on_err (Ok x) p = tt
    on_err (Err x) p = p

pub returns-in_err-given-clause-run : goal.returns-in_err-given-clause-run
returns-in_err-given-clause-run c = (merged_in_part c).is.cluster

pub invariant_of-self-2 : goal.invariant_of-self-2
invariant_of-self-2 c = record {
  world = (merged c).is;
  keys = c.self.invariant.keys;
  cursor = c.self.invariant.cursor;
}

pub returns-clause-after : goal.returns-clause-after
returns-clause-after c =
    let a = c.self.inside in
    let first = c.args.first in
    let count = c.args.count in
    let w = c.args.self.now in
    let block : List Sent = take ((first + count) - first) (drop first c.deref.result.now) in
    let Said : WorldValue → Type 0 = λ v. length a.sent.items ≡ length (messages v.config v.run) in
    let said : Said w = subst Said c.self.view_is (ap length c.self.invariant.world.messages) in
    let same : length c.deref.result.now ≡ length a.sent.items =
    ap length (c.deref.ensures.value ∙ c.make_room-room.ensures.sent) in
    let Each : WorldValue → Type 0 = λ v. length a.members.items ≡ v.config.roles.sizes.nodes in
    let each : Each w = subst Each c.self.view_is c.self.invariant.world.one_each in
    let long : length block ≡ count =
    length-take-le ((first + count) - first) (drop first c.deref.result.now)
    (omega (arith, length-drop first c.deref.result.now, said, same, c.requires.within)) ∙ omega arith in
    (merged c).due (c.in_ok-given.ensures.all ∙ (λ i. each i * long i))

pub returns-clause-prolonged : goal.returns-clause-prolonged
returns-clause-prolonged c = (merged c).prolonged

pub returns-clause-run : goal.returns-clause-run
returns-clause-run c = (merged c).is.cluster
