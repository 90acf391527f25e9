-- What a node keeps of its life: of each owner the number of the current part, its events there and in the part before,
-- and the pairs that held before each; the sessions; and how many acts it has done.
use Rattle.std.specs.Prelude.{ℕ, suc, ◌+◌, ◌-◌, ◌*◌, ◌==◌, Bool, not, ◌&&◌, nat_le, nat_lt, if◌then◌else◌}
use Rattle.std.specs.Prelude.{List, [], ◌∷◌, ◌++◌, length, fold, Option, Some, None}
use Rattle.std.specs.FinMap as map
use Rattle.role_commands.specs.declared.command.Command.{Command}
use Rattle.role_sessions.specs.Sessions.{SessionState, state_of}
use Rattle.role_sessions.specs.Decisions.{Relations}
use Rattle.role_sessions.specs.declared.event.ClientEvent.{ClientEvent}
use Rattle.role_sessions.specs.declared.event.ClientEvent.TheVariants.{Open, Activate, DropRole, Close}
use Rattle.role_sessions.specs.inside.Changes.{with_role, without_role, changed_at}
use Rattle.role_node.specs.Answers.{act_fault, answer_due, is_recorded}
use Rattle.role_node.specs.Histories.{issued}
use Rattle.role_node.specs.declared.event.Event.{Event}
use Rattle.part_lives.specs.Holding.{Pairs}
use Rattle.part_lives.specs.Lives.{held_from, held, relations_of_pairs, is_kept, belongs, is_no_fault}
use Rattle.part_lives.specs.Lives.{most_acts, most_parts}
use Rattle.part_lives.specs.Parts.{Plan, Act, In, Client, Adopts, part_config, part_stream}

-- of an owner; `past` is what held before the part before, where the node knows that
pub record OwnerState : Type 0 where
  pub number : ℕ
  pub before : List Event
  pub now : List Event
  pub past : Option Pairs
  pub pairs : Pairs

pub record State : Type 0 where
  pub owners : ℕ → OwnerState
  pub sessions : SessionState
  pub at : ℕ

-- a node that has done nothing
abbrev pub blank : Plan → State
blank plan = record {
  owners = λ owner. record { number = 0; before = []; now = []; past = None; pairs = plan.beginning owner };
  sessions = state_of [];
  at = 0;
}

-- what is delivered in the current part, and the pairs that hold
abbrev pub stream_now : Plan → ℕ → OwnerState → List Command
stream_now plan owner o = part_stream plan owner o.now

abbrev pub held_now : Plan → ℕ → OwnerState → Pairs
held_now plan owner o = held_from plan owner o.pairs (stream_now plan owner o)

abbrev pub relations_now : Plan → State → Relations
relations_now plan state = relations_of_pairs plan (λ owner. held_now plan owner (state.owners owner))

-- the history in a part that is kept
abbrev pub events_kept : OwnerState → ℕ → List Event
events_kept o number = if number == o.number then o.now else o.before

-- what the node may do, by its state
abbrev pub due_next : Plan → ℕ → State → Act → Bool
due_next plan me state (In part event) =
    let o = state.owners part.owner in
    (is_kept o.number part.number && nat_lt part.number most_parts)
    && (belongs plan me part o.number (held_now plan part.owner o)
    (length (issued o.now) - length (stream_now plan part.owner o)) (events_kept o part.number) event
    && is_recorded (answer_due (part_config plan part.number) me (events_kept o part.number) event))
due_next plan me state (Client act) = is_no_fault (act_fault plan.roles (relations_now plan state) state.sessions act)
due_next plan me state (Adopts owner number past) =
    (not (owner == me) && nat_lt number most_parts)
    && (nat_lt (state.owners owner).number number && (length past == number * plan.length))

abbrev pub due : Plan → ℕ → State → Act → Bool
due plan me state act = nat_lt state.at most_acts && due_next plan me state act

-- with one more event in a part; where the current part is complete now, the next one is current, and the one before is
-- let go
abbrev pub with_event : Plan → ℕ → ℕ → Event → OwnerState → OwnerState
with_event plan owner number event o =
    if number == o.number
    then (if nat_le plan.length (length (part_stream plan owner (o.now ++ event ∷ []))) then record {
      number = suc o.number;
      before = o.now ++ event ∷ [];
      now = [];
      past = Some o.pairs;
      pairs = held_from plan owner o.pairs (part_stream plan owner (o.now ++ event ∷ []));
    } else record { number = o.number; before = o.before; now = o.now ++ event ∷ []; past = o.past; pairs = o.pairs })
    else record { number = o.number; before = o.before ++ event ∷ []; now = o.now; past = o.past; pairs = o.pairs }

-- with all parts before this number taken on trust: it goes on in the part before, where that was its current one, and
-- else begins there
abbrev pub with_summary : ℕ → Pairs → OwnerState → OwnerState
with_summary number pairs o =
    if suc o.number == number
    then record { number = number; before = o.now; now = []; past = Some o.pairs; pairs = pairs }
    else record { number = number; before = []; now = []; past = None; pairs = pairs }

-- the sessions after what a client did
abbrev pub sessions_after : SessionState → ClientEvent → SessionState
sessions_after s (Open user) = record {
  opened = s.opened + 1;
  open_sessions = map.insert s.open_sessions (s.opened + 1) (record { user = user; active = [] });
}
sessions_after s (Activate session user role) = record {
  opened = s.opened;
  open_sessions = changed_at s.open_sessions session (with_role role);
}
sessions_after s (DropRole session user role) = record {
  opened = s.opened;
  open_sessions = changed_at s.open_sessions session (without_role role);
}
sessions_after s (Close session user) = record {
  opened = s.opened;
  open_sessions = map.remove s.open_sessions session;
}

-- with this for one owner
abbrev pub at_owner : (ℕ → OwnerState) → ℕ → (OwnerState → OwnerState) → ℕ → OwnerState
at_owner all owner change other = if other == owner then change (all other) else all other

-- the state after one more act; of what is adopted it has the pairs alone
abbrev pub after : Plan → State → Act → State
after plan state (In part event) = record {
  owners = at_owner state.owners part.owner (with_event plan part.owner part.number event);
  sessions = state.sessions;
  at = suc state.at;
}
after plan state (Client act) = record {
  owners = state.owners;
  sessions = sessions_after state.sessions act;
  at = suc state.at;
}
after plan state (Adopts owner number past) = record {
  owners = at_owner state.owners owner (with_summary number (held plan owner past));
  sessions = state.sessions;
  at = suc state.at;
}

unfoldable pub state_from : Plan → State → List Act → State
state_from plan state acts = fold (after plan) state acts

abbrev pub state_of_life : Plan → List Act → State
state_of_life plan acts = state_from plan (blank plan) acts
