use Rattle.std.proofs.Common.{◌≡◌, length, drop, arith}
use Rattle.std.proofs.lemmas.List.{take_at}
use Rattle.frame_queues.proofs.TableLemmas.{table_over}
use Rattle.frame_queues.proofs.slots.Slots.passes.Goals as goal

pub invariant_of-self : goal.invariant_of-self
invariant_of-self c =
    let len : length c.end_over.new.places ≡ c.self.inside.places.len =
    omega (arith, c.end_over.auto.places, c.deref_mut.ensures.len) in
    rw (take_at c.end_over.new.places (drop (length c.end_over.new.places) c.self.inside.places.items)
    c.self.inside.places.len len)
    (table_over _ c.args.now c.end_over.new.places c.self.invariant (cc))
