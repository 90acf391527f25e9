use Rattle.std.proofs.Common.{sym, ◌∙◌, arith}
use Rattle.owner_streams.proofs.Rings.{front_within, run_more}
use Rattle.owner_streams.proofs.owner_stream.OwnerStream.advance.Goals as goal

pub retire_front-requires-clause-room : goal.retire_front-requires-clause-room
retire_front-requires-clause-room c =
    let within =
    front_within c.args.self.now c.loop-settled.self c.loop-settled.invariant.same c.loop-settled.invariant.few
    (sym c.in-Some.ensures.delivered) in
    omega (arith, c.loop-settled.invariant.room)

pub loop-settled-smaller : goal.loop-settled-smaller
loop-settled-smaller c =
    let within =
    front_within c.args.self.now c.loop-settled.self c.loop-settled.invariant.same c.loop-settled.invariant.few
    (sym c.in-Some.ensures.delivered) in
    omega (arith, c.retire_front.ensures.reach)

pub loop-settled-preserved : goal.loop-settled-preserved
loop-settled-preserved c =
    let within =
    front_within c.args.self.now c.loop-settled.self c.loop-settled.invariant.same c.loop-settled.invariant.few
    (sym c.in-Some.ensures.delivered) in
    record {
      same = λ place. c.retire_front.ensures.same.at_each_place place ∙ c.loop-settled.invariant.same place;
      run = run_more c.loop-settled.self c.retire_front.new.self c.retire_front.ensures.same.at_each_place
          c.retire_front.ensures.reach c.loop-settled.invariant.run (sym c.in-Some.ensures.delivered);
      room = omega (arith, c.retire_front.ensures.capacity, c.loop-settled.invariant.room);
      onward = omega (arith, c.retire_front.ensures.reach, c.loop-settled.invariant.onward);
      few = omega (arith, c.retire_front.ensures.reach);
    }
