-- What is made of the next job: its call, by one hold; and what is heard of that.
use Rattle.std.specs.Prelude.{◌≡◌, ◌⊎◌, ℕ, min, Bool, true, false, ◌||◌, List, ◌∷◌, [], ◌++◌, Option, None, Some}
use Rattle.std.specs.Prelude.{is_some, option_and_then, MatchOption}
use Rattle.link_frames.specs.frames.Packets.{PacketValue}
use Rattle.node_lock.specs.Holds.{Held, end_of}
use Rattle.node_lock.specs.Inboxes.{Passing}
use Rattle.node_lock.specs.Receipts.{outcome_due}
use Rattle.node_lock.specs.Seats.{Sitting}
use Rattle.node_lock.specs.Views.{view_of, held_after_hold, seat_after_hold}
use Rattle.node_lock.specs.declared.job.Job.{Job}
use Rattle.node_lock.specs.declared.receipt.Call.{Call}
use Rattle.node_lock.specs.declared.receipt.Outcome.{Outcome}
use Rattle.frame_queues.specs.Callers.{caller_of}
use Rattle.frame_queues.specs.Firsts.{FirstValue}
use Rattle.frame_queues.specs.declared.caller.Caller.{Caller}
use Rattle.frame_queues.specs.declared.caller.Caller.TheVariants.{Client}
use Rattle.peer_windows.specs.Notes.{noted}
use Rattle.peer_windows.specs.Owners.{PairsValue}
use Rattle.served_node.specs.Endings.{said_in, ending_map, MayLeave}
use Rattle.served_node.specs.Holds.{IsNotHeld}
use Rattle.served_node.specs.Served.{own_packet, taken_by}
use Rattle.served_node.specs.declared.ending.Ending.{Ending}
use Rattle.served_node.specs.declared.ending.Ending.TheVariants as ending
use Rattle.served_node.specs.declared.said.Said.{Said}
use Rattle.server_locks.specs.HoldRules.{no_hold_due}
use Rattle.server_locks.specs.Jobs.{told_by}
use Rattle.server_locks.specs.NextJobs.{IsNextJob}
use Rattle.server_locks.specs.VotesAhead.{with_vote}
use Rattle.server_locks.specs.declared.front.Done.{Done}
use Rattle.server_locks.specs.declared.hold_rules.HoldRules.{HoldRules}
use Rattle.server_locks.specs.declared.hold_rules.NoHold.{NoHold}
use Rattle.server_locks.specs.declared.hold_rules.NoHold.TheVariants.{Lost, Refused}
use Rattle.server_locks.specs.declared.votes_ahead.VotesAhead.{VotesAhead}

-- where jobs come from: what comes before the inbox, and the way into it
pub record Source : Type 0 where
  pub first : FirstValue
  pub again : List PacketValue
  pub pass : Passing

-- what is behind the lock: the node, whether what it has recorded has to be kept before the next hold; and the seat by
-- which holds are made
pub record Seated (N : Type 0) : Type 0 where
  pub behind : N
  pub held : Held
  pub full : Bool
  pub seat : Sitting

abbrev pub IsNext : Source → Source → Option Job → Type 0
IsNext old new job = IsNextJob old.first new.first old.again new.again old.pass new.pass job

-- a client waits for it
abbrev pub is_client : Caller → Bool
is_client (Client slot line) = true
is_client caller = false

-- the pairs, where it is noted in them what was said about a packet
abbrev pub noted_outcome : Held → Sitting → ℕ → Option PacketValue → Option Outcome → PairsValue → PairsValue
noted_outcome h s now packet None a = a
noted_outcome h s now packet (Some outcome) a = noted h s now packet outcome a

abbrev pub noted_ending : Held → Sitting → ℕ → Option PacketValue → Ending Said → PairsValue → PairsValue
noted_ending h s now packet (ending.Held said) a = noted_outcome h s now packet said.outcome a
noted_ending h s now packet (ending.Refused fault) a = a
noted_ending h s now packet ending.Lost a = a
noted_ending h s now packet ending.Nothing a = a

-- the packet that a hold has the node send to itself, by what it said
abbrev pub own_of : {U : Type 0} → (U → Said) → ℕ → Ending U → Option PacketValue
own_of said me done = option_and_then (λ u. own_packet me (said u).outcome) (said_in done)

-- what comes of a call that gets no hold
abbrev pub ended_by : {U : Type 0} → NoHold → Ending U
ended_by Lost = ending.Lost
ended_by (Refused fault) = ending.Refused fault

-- nothing is heard, or what came of the job, which may leave then
abbrev pub IsHeard : {U : Type 0} → Type 0 → (U → Type 0) → (U → Said) → Ending U → Ending Said → Type 0
IsHeard kept may_leave said done heard =
    (heard ≡ ending.Nothing) ⊎ ((heard ≡ ending_map said done) × MayLeave kept may_leave done)

-- no hold was made, though no rule speaks against it
pub record IsPassedOver {N : Type 0} (me : ℕ) (call : Call) (old new : Seated N) : Type 0 where
  pub why : IsNotHeld old.held old.full old.seat me call
  pub held : new.held ≡ old.held
  pub seat : new.seat ≡ old.seat

module _ {U : Type 0} (said : U → Said) (speaks_of : U → ℕ) where
  -- a hold has made the call: what it said is the outcome due, and the own stream after it
  pub record IsHeldFor {N : Type 0} (me : ℕ) (call : Call) (old new : Seated N) (u : U) : Type 0 where
    pub outcome : (said u).outcome ≡ Some (outcome_due old.held.node call)
    pub view : (said u).view ≡ view_of new.held me 0
    pub at : speaks_of u ≡ end_of new.held
    pub held : new.held ≡ held_after_hold old.held old.seat (Some call)
    pub seat : new.seat ≡ seat_after_hold old.held old.seat (Some call)

  -- what comes of a call to which no rule of the server has an answer
  abbrev pub IsAnswered : {N : Type 0} → ℕ → Call → Seated N → Seated N → Ending U → Type 0
  IsAnswered me call old new (ending.Held u) = IsHeldFor me call old new u
  IsAnswered me call old new (ending.Refused fault) = ⊥
  IsAnswered me call old new ending.Lost = ⊥
  IsAnswered me call old new ending.Nothing = IsPassedOver me call old new

  -- by these rules, and these votes ahead of what the node has published
  module _ (hold_rules : HoldRules) (ahead : VotesAhead) where
    -- What comes of a call. Where it gets no hold by a rule all stays as it was.
    abbrev pub IsEnded : {N : Type 0} → ℕ → Call → Seated N → Seated N → Ending U → Type 0
    IsEnded me call old new ended =
        MatchOption (no_hold_due hold_rules ahead old.held.node call) (IsAnswered me call old new ended)
        (λ why. (ended ≡ ended_by why) × (new ≡ old))

    -- what waits to be told of a job: who waits for it, the packet that it had the node take, and what came of it
    pub record IsDoneFor {N : Type 0} (me : ℕ) (job : Job) (old new : Seated N) (done : Done U) : Type 0 where
      pub caller : done.caller ≡ caller_of job.number
      pub packet : done.packet ≡ taken_by job.call
      pub ended : IsEnded me job.call old new done.ending

    -- what is told at once: a client waits for it, or the node sends something by it
    abbrev pub leaves : ℕ → Done U → Bool
    leaves me done = is_some (own_of said me done.ending) || is_client done.caller

    -- The next job is done, and waits behind the others to be told; what the node sends to itself by it comes first
    -- from now on. `by` is when all that waits is told, and was `had_by`.
    pub record IsMade {N : Type 0} (had_ahead : VotesAhead) (me now had_by by : ℕ) (from to : Source)
        (old new : Seated N) (had has : List (Done U)) : Type 0 where
      pub job : Job
      pub done : Done U
      pub next : Source
      pub taken : IsNext from next (Some job)
      pub votes : ahead ≡ with_vote old.held.node job.call had_ahead
      pub own : to ≡ record next { first = record next.first { own = own_of said me done.ending } }
      pub is_done : IsDoneFor me job old new done
      pub waits : has ≡ had ++ done ∷ []
      pub told : by ≡ min had_by (told_by (leaves me done) now)
