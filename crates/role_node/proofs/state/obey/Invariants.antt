use Rattle.std.proofs.Common.{◌≡◌, ◌+◌, ◌≤◌, List}
use Rattle.link_frames.specs.frames.Packets.{PacketValue}
use Rattle.owner_streams.specs.Values.{IsStateOf}
use Rattle.rbac_state.specs.Policies.{IsPolicyOf}
use Rattle.role_node.specs.inside.Kept.{obeyed}
use Rattle.role_node.proofs.state.obey.Given as goal

abbrev pub invariant-loop-place : goal.invariant-loop-place
invariant-loop-place l =
    record {
      room : l.to ≤ l.place + l.policy.room;
      table : l.policy.table ≡ l.initial.policy.table;
      policy : (taken : List PacketValue) → IsStateOf l.streams taken →
          IsPolicyOf (obeyed l.streams.sizes taken l.owner l.from) l.initial.policy →
          IsPolicyOf (obeyed l.streams.sizes taken l.owner l.place) l.policy;
    }
