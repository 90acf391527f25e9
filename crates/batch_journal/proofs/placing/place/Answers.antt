use Rattle.std.proofs.Common.{◌≡◌, inr, ◌+◌, ◌-◌, ◌≤◌, ◌++◌, length, replicate, subst, ap}
use Rattle.std.proofs.Common.{◌∙◌, arith}
use Rattle.batch_journal.specs.inside.Fading.{IsFaded}
use Rattle.batch_journal.proofs.Overwriting.{placed_is, placed_left}
use Rattle.batch_journal.proofs.placing.place.Goals as goal

pub returns-in-Err-clause-crash : goal.returns-in-Err-clause-crash
returns-in-Err-clause-crash g c front size zeroed left may =
    let n = c.in_ok-size.size in
    let old = c.in_ok-size.ensures.zeroed front size zeroed in
    let few : length c.args.batch.now ≤ n - c.args.end = omega (arith, c.in_ok-size.ensures.room.0) in
    inr (record {
      count = n - c.args.end - length c.args.batch.now;
      room = omega (arith, c.in_ok-size.ensures.room.0);
      faded = placed_left front c.args.batch.now c.args.end (n - c.args.end)
          (g.D.Disk.may_leave c.make_room.new.disk) (g.D.Disk.may_leave c.overwrite.new.disk)
          size old.only c.overwrite.ensures.crash few left may;
    })

pub returns-in-Ok-clause-seen : goal.returns-in-Ok-clause-seen
returns-in-Ok-clause-seen g c front size zeroed =
    let n = c.in_ok-size.size in
    let batch = c.args.batch.now in
    let old = c.in_ok-size.ensures.zeroed front size zeroed in
    let few : length batch ≤ n - c.args.end = omega (arith, c.in_ok-size.ensures.room.0) in
    let same : n - c.args.end - length batch ≡ n - (c.args.end + length batch) = omega arith in
    placed_is front batch _ (g.D.Disk.seen c.overwrite.new.disk) c.args.end (n - c.args.end) size old.seen few
    c.in-Ok.ensures.written
    ∙ ap (λ k. front ++ (batch ++ replicate k 0)) same

pub returns-in-Ok-clause-placed : goal.returns-in-Ok-clause-placed
returns-in-Ok-clause-placed g c front size zeroed left may =
    let n = c.in_ok-size.size in
    let batch = c.args.batch.now in
    let old = c.in_ok-size.ensures.zeroed front size zeroed in
    let few : length batch ≤ n - c.args.end = omega (arith, c.in_ok-size.ensures.room.0) in
    let same : n - c.args.end - length batch ≡ n - (c.args.end + length batch) = omega arith in
    subst (λ k. IsFaded front (batch ++ replicate k 0) left) same
    (placed_left front batch c.args.end (n - c.args.end) (g.D.Disk.may_leave c.make_room.new.disk)
    (g.D.Disk.may_leave c.overwrite.new.disk)
    size old.only c.overwrite.ensures.crash few left may)
