use Rattle.std.proofs.Common.{◌≡◌, ℕ, ◌%◌, ◌<◌, length, List, Option, Result, Ok, Err, refl, sym, ap, ◌∙◌, arith}
use Rattle.std.specs.Prelude.{OnErr, slice_get}
use Rattle.std.proofs.lemmas.Result.{on_ok_weaker, on_err_weaker, IfOk-weaker}
use Rattle.quorum_sizes.specs.Sizes.{Counts}
use Rattle.bracha_instance.specs.Broadcast.{Take}
use Rattle.bracha_instance.specs.States.{State}
use Rattle.bracha_instance.specs.declared.instance.Caused.{Caused}
use Rattle.owner_streams.specs.Places.{window}
use Rattle.owner_streams.specs.inside.Slots.{slot_at, state_in, voted_in, GoesOn, IsAnswerAt}
use Rattle.owner_streams.specs.inside.Kept.{held_in, held}
use Rattle.owner_streams.proofs.Rings.{held-below, held-window, held-other_record, held-other_slot}
use Rattle.owner_streams.proofs.owner_stream.OwnerStream.take_at.Goals as goal
use Rattle.owner_streams.proofs.owner_stream.OwnerStream.take_at.Goals.{After-take_record, After-take_slot}

at_err : {A B P : Type 0} (r : Result A B) → P → OnErr r P
at_err (Ok x) p = tt
at_err (Err e) p = p

-- what goes on at a slot or a record goes on at its place
goes_on : (s : Counts) (t : Take) (before after was now : Option State) → before ≡ was → after ≡ now
    → GoesOn s was now t → GoesOn s before after t
goes_on s t before after was now e f goes takes is = ap (state_in s) f ∙ goes takes (ap (state_in s) (sym e) ∙ is)

answers : (s : Counts) (t : Take) (caused : Caused) (before was : Option State) → before ≡ was
    → IsAnswerAt s was t caused → IsAnswerAt s before t caused
answers s t caused before was e answer takes is = answer takes (ap (state_in s) (sym e) ∙ is)

-- a place that the stream reaches beyond is at its record
at_record : (below records : List State) (ring : List (Option State)) (here place : ℕ) → records ≡ below
    → here ≡ place → here < length records → held_in below ring place ≡ slice_get records here
at_record below records ring here place same at h =
    sym (λ i. held_in (same i) ring (at i)) ∙ held-below records ring here h

pub returns-in_err-reserve-clause-others : goal.returns-in_err-reserve-clause-others
unfolding held
returns-in_err-reserve-clause-others c place apart =
    ap (λ below. held_in below c.args.self.now.ring.items place) c.reserve.ensures.items

pub returns-in_err-reserve-clause-err : goal.returns-in_err-reserve-clause-err
unfolding held
returns-in_err-reserve-clause-err c =
    at_err c.from_residual.result
    (ap (λ below. held_in below c.args.self.now.ring.items c.args.packet.now.place) c.reserve.ensures.items)

-- The record of the place.

pub returns-then-place-len-clause-others : goal.returns-then-place-len-clause-others
unfolding held
returns-then-place-len-clause-others c place apart =
    let at : c.place-place.result ≡ c.args.packet.now.place = omega arith in
    let ring = c.args.self.now.ring.items in
    held-other_record c.reserve.new.self.items c.take_record.new.records.items ring c.place-place.result (omega arith)
    c.take_record.ensures.len c.take_record.ensures.others place (λ e. apart (e ∙ at))
    ∙ ap (λ below. held_in below ring place) c.reserve.ensures.items

recorded : (c : After-take_record)
    → held c.args.self.now c.args.packet.now.place ≡ slice_get c.reserve.new.self.items c.place-place.result
unfolding held
recorded c =
    at_record c.args.self.now.below.items c.reserve.new.self.items c.args.self.now.ring.items c.place-place.result _
    c.reserve.ensures.items (omega arith) (omega arith)

pub returns-then-place-len-clause-state : goal.returns-then-place-len-clause-state
unfolding held
returns-then-place-len-clause-state c =
    goes_on c.args.sizes.now _ _ _ _ _ (recorded c)
    (at_record c.take_record.new.records.items _ c.args.self.now.ring.items c.place-place.result _ refl (omega arith)
    (omega arith))
    (c.take_record.ensures.state c.args.sizes.now)

pub returns-then-place-len-clause-caused : goal.returns-then-place-len-clause-caused
unfolding held
returns-then-place-len-clause-caused c =
    answers c.args.sizes.now _ _ _ _ (recorded c) (c.take_record.ensures.caused c.args.sizes.now)

pub take_record-requires-clause-new : goal.take_record-requires-clause-new
unfolding held
take_record-requires-clause-new c =
    sym (ap (λ slot. voted_in slot c.args.packet.now.kind c.args.packet.now.from)
    (at_record c.args.self.now.below.items c.reserve.new.self.items c.args.self.now.ring.items c.place-place.result _
    c.reserve.ensures.items (omega arith) (omega arith)))
    ∙ c.requires.new

-- The slot of the place.

pub take_slot-requires-clause-new : goal.take_slot-requires-clause-new
unfolding held
take_slot-requires-clause-new c =
    let at : c.place-place.result ≡ c.args.packet.now.place = omega arith in
    let records = c.reserve.new.self.items in
    let len : length records ≡ length c.args.self.now.below.items = ap length c.reserve.ensures.items in
    sym (ap (λ slot. voted_in slot c.args.packet.now.kind c.args.packet.now.from)
    (ap (held c.args.self.now) (sym at) ∙ held-window _ c.args.self.now.ring.items _ (omega arith) (omega arith)))
    ∙ c.requires.new

pub returns-clause-others : goal.returns-clause-others
unfolding held
returns-clause-others c place apart =
    let at : c.place-place.result ≡ c.args.packet.now.place = omega arith in
    let ring = c.args.self.now.ring.items in
    let records = c.reserve.new.self.items in
    let len : length records ≡ length c.args.self.now.below.items = ap length c.reserve.ensures.items in
    held-other_slot records ring c.take_slot.new.ring.items c.place-place.result (omega arith) (omega arith)
    c.take_slot.ensures.others place (λ e. apart (e ∙ at))
    ∙ ap (λ below. held_in below ring place) c.reserve.ensures.items

slotted : (c : After-take_slot) →
    (held c.args.self.now c.args.packet.now.place ≡ slot_at c.args.self.now.ring.items (c.place-place.result % window))
    × (held_in c.reserve.new.self.items c.take_slot.new.ring.items c.args.packet.now.place
    ≡ slot_at c.take_slot.new.ring.items (c.place-place.result % window))
unfolding held
slotted c =
    let at : c.place-place.result ≡ c.args.packet.now.place = omega arith in
    let records = c.reserve.new.self.items in
    let len : length records ≡ length c.args.self.now.below.items = ap length c.reserve.ensures.items in (
      ap (held c.args.self.now) (sym at) ∙ held-window _ c.args.self.now.ring.items _ (omega arith) (omega arith),
      ap (held_in records c.take_slot.new.ring.items) (sym at)
          ∙ held-window _ c.take_slot.new.ring.items _ (omega arith) (omega arith),
    )

pub returns-clause-state : goal.returns-clause-state
unfolding held
returns-clause-state c =
    on_ok_weaker c.take_slot.result (goes_on c.args.sizes.now _ _ _ _ _ (slotted c).0 (slotted c).1)
    c.take_slot.ensures.state

pub returns-clause-caused : goal.returns-clause-caused
unfolding held
returns-clause-caused c =
    IfOk-weaker c.take_slot.result _ _ (λ caused. answers c.args.sizes.now _ caused _ _ (slotted c).0)
    c.take_slot.ensures.caused

pub returns-clause-err : goal.returns-clause-err
unfolding held
returns-clause-err c =
    on_err_weaker c.take_slot.result (λ same. (slotted c).1 ∙ same ∙ sym (slotted c).0) c.take_slot.ensures.err
