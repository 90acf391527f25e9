-- Which calls get no hold: the server refuses them without its node, or loses their packets; and what shares that are
-- asked so are good for.
use Rattle.std.specs.Prelude.{Bool, true, false, ◌&&◌, ◌||◌, if◌then◌else◌, ◌≡◌, Option, None, Some, option_map}
use Rattle.node_lock.specs.declared.receipt.Call.{Call}
use Rattle.node_lock.specs.declared.receipt.Call.TheVariants.{Step}
use Rattle.operator_lines.specs.declared.fault.ServingFault.{ServingFault}
use Rattle.operator_lines.specs.declared.fault.ServingFault.TheVariants.{BegunTwice, StreamFull, Full}
use Rattle.owner_shares.specs.Answers.{answer_of_shares}
use Rattle.owner_shares.specs.Laws.{IsWithinShares}
use Rattle.owner_shares.specs.Shares.{SharesValue, shares_of}
use Rattle.owner_shares.specs.declared.answer.ShareAnswer.{ShareAnswer}
use Rattle.owner_shares.specs.declared.answer.ShareAnswer.TheVariants as share
use Rattle.role_node.specs.Begun.{is_begun_twice}
use Rattle.role_node.specs.Nodes.{NodeValue}
use Rattle.role_node.specs.declared.event.Event.{Event}
use Rattle.role_node.specs.declared.event.Event.TheVariants.{Issue}
use Rattle.role_node.specs.declared.faults.NodeFault.{NodeFault}
use Rattle.role_node.specs.declared.faults.NodeFault.TheVariants as fault
use Rattle.server_locks.specs.VotesAhead.{are_enough}
use Rattle.server_locks.specs.declared.hold_rules.HoldRules.{HoldRules}
use Rattle.server_locks.specs.declared.hold_rules.NoHold.{NoHold}
use Rattle.server_locks.specs.declared.hold_rules.NoHold.TheVariants.{Lost, Refused}
use Rattle.server_locks.specs.declared.votes_ahead.VotesAhead.{VotesAhead}

-- something is to be published
abbrev pub is_issue : Event → Bool
is_issue (Issue command) = true
is_issue event = false

abbrev pub is_command : Call → Bool
is_command (Step event) = is_issue event
is_command call = false

-- the node was begun twice: what it delivers of its own stream isn't what it published, or more peers than may lie vote
-- ahead of that
abbrev pub shows_begun_twice : VotesAhead → NodeValue → Bool
shows_begun_twice ahead node = is_begun_twice node.config.roles.sizes node.me node.history || are_enough ahead

-- what a refusal by shares is to a client's line
abbrev pub refused_as : NodeFault → ServingFault
refused_as fault.StreamFull = StreamFull
refused_as f = Full

abbrev pub no_hold_by : ShareAnswer → NoHold
no_hold_by share.Lost = Lost
no_hold_by (share.Refused f) = Refused (refused_as f)

-- what the shares answer, where there are any
abbrev pub answer_due : Option SharesValue → NodeValue → Event → Option NoHold
answer_due None node event = None
answer_due (Some shares) node event = option_map no_hold_by (answer_of_shares shares node event)

abbrev pub answer_to_call : Option SharesValue → NodeValue → Call → Option NoHold
answer_to_call shares node (Step event) = answer_due shares node event
answer_to_call shares node call = None

-- Why a call gets no hold, if it gets none: a command at a node that was begun twice, where the server is told to refuse
-- such, and behind that what the shares answer. What the node would answer is not asked.
abbrev pub no_hold_due : HoldRules → VotesAhead → NodeValue → Call → Option NoHold
no_hold_due hold_rules ahead node call =
    if hold_rules.begun_twice && is_command call && shows_begun_twice ahead node then Some (Refused BegunTwice)
    else answer_to_call hold_rules.shares node call

-- A node is within the shares that are asked before it: they are those of its table, and so is its history.
pub record IsWithin (shares : Option SharesValue) (node : NodeValue) : Type 0 where
  pub are_of : shares ≡ Some (shares_of node.config.roles)
  pub history : IsWithinShares node.config.roles node.me node.history
