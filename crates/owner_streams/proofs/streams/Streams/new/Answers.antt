use Rattle.std.proofs.Common.{[], arith}
use Rattle.std.proofs.lemmas.List.Elements.{All-weaker}
use Rattle.owner_streams.specs.inside.Kept.{IsOwnerStream}
use Rattle.owner_streams.proofs.Owners.{IsFresh, fresh_is_kept, fresh_state}
use Rattle.owner_streams.proofs.streams.Streams.new.Goals as goal

pub invariant_of-result : goal.invariant_of-result
invariant_of-result c = record {
  one_each = omega arith;
  each = All-weaker IsFresh (IsOwnerStream c.args.sizes) (fresh_is_kept c.args.sizes) c.loop-name.owners.items
      c.loop-name.invariant.fresh;
  ends = ([], fresh_state c.args.sizes c.loop-name.owners.items c.loop-name.invariant.fresh, c.in_ok-ends.ensures);
}

pub returns-clause-state : goal.returns-clause-state
returns-clause-state c = fresh_state c.args.sizes c.loop-name.owners.items c.loop-name.invariant.fresh
