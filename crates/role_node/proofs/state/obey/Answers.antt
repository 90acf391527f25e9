use Rattle.std.proofs.Common.{ap, ◌∙◌, arith}
use Rattle.role_node.proofs.StreamLemmas.{policy_more, policy_past}
use Rattle.role_node.proofs.state.obey.Goals as goal
use Rattle.role_node.proofs.state.obey.Goals.{in-Some, in_default}

pub loop-place-preserved : goal.loop-place-preserved
loop-place-preserved c =
    elim c.match-command.branch [
      | in-Some w ↦
          let room = ap (λ p. p.room) w.policy-is in
          record {
            room = omega (arith, w.apply.ensures.room);
            table = ap (λ p. p.table) w.policy-is ∙ w.apply.ensures.applied.table ∙ c.loop-place.invariant.table;
            policy = λ taken is was.
                rw w.policy-is
                (policy_more c.args.streams.now.sizes taken c.args.owner c.loop-place.place
                (w.in-Some.ensures taken is)
                w.apply.ensures.applied (c.loop-place.invariant.policy taken is was));
          }
      | in_default w ↦
          let room = ap (λ p. p.room) w.policy-is in
          record {
            room = omega arith;
            table = ap (λ p. p.table) w.policy-is ∙ c.loop-place.invariant.table;
            policy = λ taken is was.
                rw w.policy-is
                (policy_past c.args.streams.now.sizes taken c.args.owner c.loop-place.place
                (w.in_default.ensures taken is)
                (c.loop-place.invariant.policy taken is was));
          }
    ]
