use Rattle.std.proofs.Common.{subst}
use Rattle.std.specs.Prelude.{slice_set}
use Rattle.frame_queues.specs.Parking.{IsFullest}
use Rattle.frame_queues.proofs.Counts.{relieved_by, one_fewer}
use Rattle.frame_queues.proofs.parked_packets.relieve.Goals as goal

pub returns-clause-relieved : goal.returns-clause-relieved
returns-clause-relieved c =
    relieved_by c.args.streams.now.items c.fullest-owner.result c.index_mut.result.now c.drop_last.new.self
    (subst (λ all. IsFullest all c.fullest-owner.result) c.deref.ensures.value c.fullest-owner.ensures)
    c.index_mut.ensures.value c.drop_last.ensures

pub returns-clause-fewer : goal.returns-clause-fewer
returns-clause-fewer c some =
    one_fewer c.args.streams.now.items
    (slice_set c.args.streams.now.items c.fullest-owner.result c.drop_last.new.self)
    (returns-clause-relieved c) some
