-- The streams, the relations, the sessions and the decisions that follow from a node's history.
use Rattle.std.specs.Prelude.{ℕ, ◌==◌, if◌then◌else◌, List, slice_get, Option, None}
use Rattle.std.specs.FinMap as map
use Rattle.quorum_sizes.specs.Sizes.{Counts}
use Rattle.role_commands.specs.Tables.{Table}
use Rattle.role_commands.specs.declared.command.Command.{Command}
use Rattle.bracha_instance.specs.Broadcast.{echoed, readied}
use Rattle.owner_streams.specs.Places.{takes_at, stream, reach}
use Rattle.rbac_state.specs.Assignments.{is_user_assigned, is_permission_granted}
use Rattle.role_sessions.specs.Sessions.{Session, SessionState, state_of}
use Rattle.role_sessions.specs.Decisions.{Relations, verdict, decided}
use Rattle.role_sessions.specs.declared.verdict.Verdict.{Verdict}
use Rattle.role_node.specs.declared.event.Event.{Event}
use Rattle.role_node.specs.declared.event.NodeAgain.{NodeAgain}
use Rattle.role_node.specs.Histories.{issued, packets, client_events}

-- the stream of an owner, as this node delivers it
abbrev pub stream_at : Counts → List Event → ℕ → List Command
stream_at s history owner = stream s owner (packets history)

abbrev pub reach_at : Counts → List Event → ℕ → ℕ
reach_at s history owner = reach s owner (packets history)

-- user assignment and permission assignment over these streams
abbrev pub relations_at : Table → List Event → Relations
relations_at roles history =
    record {
      assigned = is_user_assigned roles (stream_at roles.sizes history);
      granted = is_permission_granted roles (stream_at roles.sizes history);
    }

-- the sessions of its clients
abbrev pub sessions_at : List Event → SessionState
sessions_at history = state_of (client_events history)

-- the session with this id, if it is open
abbrev pub session_at : List Event → ℕ → Option Session
session_at history id = map.get (sessions_at history).open_sessions id

-- the decision on an access
abbrev pub verdict_at : Table → List Event → ℕ → ℕ → ℕ → ℕ → Verdict
verdict_at roles history session user operation object =
    verdict (relations_at roles history) (session_at history session) user operation object

-- the decision on an access in which just these roles of the user would be active, without a session
abbrev pub decided_at : Table → List Event → List ℕ → ℕ → ℕ → ℕ → Verdict
decided_at roles history active user operation object =
    decided (relations_at roles history) active user operation object

-- what this node has sent to all at a place of the owner's stream: in its own stream what it issued as that
-- number, and the ECHO and the READY that the broadcast makes it send
abbrev pub sent_at : Counts → ℕ → List Event → ℕ → ℕ → NodeAgain
sent_at s me history owner place =
    let takes = takes_at owner place (packets history) in
    record {
      send = if owner == me then slice_get (issued history) place else None;
      echo = echoed takes;
      ready = readied s takes;
    }
