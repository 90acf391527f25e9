use Rattle.std.proofs.Common.{subst, arith}
use Rattle.std.specs.Prelude.{slice_set}
use Rattle.frame_queues.specs.Firsts.{FirstValue, IsFirstParked}
use Rattle.frame_queues.proofs.Counts.{first_parked, first_nowhere}
use Rattle.frame_queues.proofs.first_packets.FirstPackets.park.Goals as goal

pub returns-in_ok-park-clause-ok : goal.returns-in_ok-park-clause-ok
returns-in_ok-park-clause-ok c =
    let old : FirstValue =
    record { own = c.self.inside.own; due = c.self.inside.due; parked = c.self.inside.parked.items } in
    subst
    (λ old. IsFirstParked c.args.packet old
    (record {
      own = c.self.inside.own;
      due = c.self.inside.due;
      parked = slice_set c.self.inside.parked.items c.from-peer.result c.park.new.self;
    }))
    c.self.view_is
    (first_parked c.args.packet old c.from-peer.result c.index_mut.result.now c.park.new.self
    (omega arith) (omega arith) c.index_mut.ensures.value c.in_ok-park.ensures.ok)

pub returns-else-peer-len-clause-ok : goal.returns-else-peer-len-clause-ok
returns-else-peer-len-clause-ok c =
    let old : FirstValue =
    record { own = c.self.inside.own; due = c.self.inside.due; parked = c.self.inside.parked.items } in
    subst (λ old. IsFirstParked c.args.packet old old) c.self.view_is
    (first_nowhere c.args.packet old (omega arith))
