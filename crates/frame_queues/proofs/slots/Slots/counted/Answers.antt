use Rattle.std.proofs.Common.{◌≡◌, length, drop, arith, refl, sym, ap}
use Rattle.std.proofs.lemmas.List.{take_at}
use Rattle.frame_queues.specs.Slots.{SlotsValue}
use Rattle.frame_queues.proofs.TableLemmas.{table_counted}
use Rattle.frame_queues.proofs.slots.Slots.counted.Goals as goal

pub invariant_of-self : goal.invariant_of-self
invariant_of-self c =
    let len : length c.settle.new.places ≡ c.self.inside.places.len =
    omega (arith, c.settle.auto.places, c.deref_mut.ensures.len) in
    rw (take_at c.settle.new.places (drop (length c.settle.new.places) c.self.inside.places.items)
    c.self.inside.places.len len)
    (table_counted _ c.args.self.now.places c.args.self.now.nodes c.args.self.now.me c.args.self.now.each
    c.args.place c.args.number c.args.now c.place_of-at.result c.held_by.result c.in_ok-old.old
    c.counted_now-connected.result c.way-way.result c.deref.result.now c.deref_mut.result.now c.settle.new.places
    c.self.invariant c.place_of-at.ensures c.held_by.ensures c.in_ok-old.was c.counted_now-connected.ensures
    c.way-way.ensures
    c.settle.ensures.new c.deref.ensures.value c.deref_mut.ensures.value
    (ap (λ (v : SlotsValue). v.places) (sym c.self.view_is)) (ap (λ (v : SlotsValue). v.nodes) (sym c.self.view_is))
    (ap (λ (v : SlotsValue). v.me) (sym c.self.view_is)) (ap (λ (v : SlotsValue). v.each) (sym c.self.view_is)))
