use Rattle.std.proofs.Common.{◌≡◌, ◌≤◌, ◌-◌, ◌++◌, drop, length}
use Rattle.std.specs.Prelude.{All}
use Rattle.role_node.specs.Nodes.{IsLegalNode}
use Rattle.node_lock.specs.Holds.{Fits, end_of}
use Rattle.kept_node.specs.Events.{IsEventOf, digits_of_events}
use Rattle.kept_node.proofs.replaying.replay_events.Given as goal

abbrev pub invariant-loop-at : goal.invariant-loop-at
invariant-loop-at g l = record {
  read : l.digits ≡ digits_of_events l.locked.node.history ++ drop l.at l.digits;
  within : l.at ≤ length l.digits;
  few : l.place ≤ l.at;
  count : l.place ≡ end_of l.locked;
  each : All (IsEventOf l.sizes l.me) l.locked.node.history;
  config : l.locked.node.config ≡ l.fn.locked.node.config;
  name : l.locked.node.me ≡ l.fn.locked.node.me;
  sizes_are : l.sizes ≡ l.fn.locked.node.config.roles.sizes;
  me_is : l.me ≡ l.fn.locked.node.me;
  legal : IsLegalNode l.locked.node;
  fits : Fits l.locked l.seat;
}

abbrev pub decreases-loop-at : goal.decreases-loop-at
decreases-loop-at g l = length l.digits - l.at
