-- What a node keeps beside its history, and how it follows from it. Serves the code, and no public contract.
use Rattle.std.specs.Prelude.{◌≡◌, ℕ, ◌==◌, ◌<◌, ◌≤◌, if◌then◌else◌, IsTrue, List, [], ◌∷◌}
use Rattle.std.specs.Prelude.{◌++◌, map, take, slice_get, Some, Result, Ok, IfErr, vec_len}
use Rattle.quorum_sizes.specs.Sizes.{Counts}
use Rattle.role_commands.specs.Tables.{Table}
use Rattle.role_commands.specs.declared.command.Command.{Command}
use Rattle.link_frames.specs.frames.Packets.{PacketValue}
use Rattle.bracha_instance.specs.declared.instance.Effect.TheVariants as effect
use Rattle.owner_streams.specs.Places.{place_count, stream}
use Rattle.owner_streams.specs.Steps.{SendsAreOwners}
use Rattle.owner_streams.specs.Values.{IsStateOf, WouldCount}
use Rattle.rbac_state.specs.Policies.{IsPolicyOf}
use Rattle.role_sessions.specs.Sessions.{state_of}
use Rattle.role_sessions.specs.Decisions.{relations_of}
use Rattle.role_sessions.specs.Kept.{KeptAreRight}
use Rattle.role_sessions.specs.declared.event.ClientEvent.{ClientEvent}
use Rattle.role_node.specs.Configs.{ConfigValue, most_events}
use Rattle.role_node.specs.Histories.{issued, packets, client_events}
use Rattle.role_node.specs.Answers.{EntryValue, event_of, outlook_with_room, reply_to, answer_due, is_recorded}
use Rattle.role_node.specs.declared.event.Event.{Event}
use Rattle.role_node.specs.declared.event.Event.TheVariants.{Issue, Take, Client}
use Rattle.role_node.specs.declared.faults.NodeFault.{NodeFault}
use Rattle.role_node.specs.declared.faults.NodeFault.TheVariants.{Memory}
use Rattle.role_node.specs.declared.state.State.{State}

-- the parts follow from the commands issued, the packets taken, and what the clients did
pub record ArePartsOf (roles : Table) (commands : List Command) (taken : List PacketValue) (acts : List ClientEvent)
    (a : State) : Type 0 where
  pub issued : a.issued.items ≡ commands
  pub sizes : a.streams.sizes ≡ roles.sizes
  pub streams : IsStateOf a.streams taken
  pub sends : SendsAreOwners taken
  pub table : a.policy.table ≡ roles
  pub policy : IsPolicyOf (λ owner. stream roles.sizes owner taken) a.policy
  pub sessions : a.sessions.state ≡ state_of acts
  pub kept : KeptAreRight (relations_of a.policy) a.sessions

-- the state is that after this history
abbrev pub IsStateAfter : Table → List Event → State → Type 0
IsStateAfter roles history a = ArePartsOf roles (issued history) (packets history) (client_events history) a

-- of whatever history the old state is, the new one is of that with the event
abbrev pub Follows : Event → State → State → Type 0
Follows event old new =
    (roles : Table) (history : List Event) → IsStateAfter roles history old
    → IsStateAfter roles (history ++ event ∷ []) new

-- of whatever history the old state is, the new one is
abbrev pub Stays : State → State → Type 0
Stays old new = (roles : Table) (history : List Event) → IsStateAfter roles history old → IsStateAfter roles history new

-- it is the state of some history
abbrev pub IsReached : State → Type 0
IsReached a = (roles : Table) × (history : List Event) × IsStateAfter roles history a

-- it is the state of some history, after which the event counts
abbrev pub MayRecord : ℕ → Event → State → Type 0
MayRecord me event a =
    (roles : Table) × (history : List Event) × IsStateAfter roles history a
    × (outlook_with_room roles me history event ≡ Ok effect.Counted)

-- the entry is of the event, which counts, and its reply
abbrev pub IsEntryFor : ℕ → Event → State → EntryValue → Type 0
IsEntryFor me event old entry = (roles : Table) (history : List Event) → IsStateAfter roles history old
    → entry ≡ record { event = event; reply = reply_to roles me history event }

-- where the event counts, only memory can be wanting
abbrev pub FailsForMemory : ℕ → Event → State → Result EntryValue NodeFault → Type 0
FailsForMemory me event old result =
    (roles : Table) (history : List Event) → IsStateAfter roles history old →
    outlook_with_room roles me history event ≡ Ok effect.Counted → IfErr result (λ fault. fault ≡ Memory)

-- what an event needs beforehand, so that its numbers fit and it is taken
abbrev pub IsInRange : State → Event → Type 0
IsInRange a (Issue command) = vec_len a.issued < place_count
IsInRange a (Take p) =
    (p.from < a.streams.sizes.nodes) × (p.owner < a.streams.sizes.nodes) × WouldCount a.streams p
IsInRange a (Client act) = a.sessions.state.opened ≤ most_events

-- the streams' commands, of one owner's only so many
abbrev pub obeyed : Counts → List PacketValue → ℕ → ℕ → ℕ → List Command
obeyed s taken owner count node = if node == owner then take count (stream s owner taken) else stream s node taken

-- the events of the entries
abbrev pub events : List EntryValue → List Event
events entries = map event_of entries

-- each reply was due at its place, and its event recorded
abbrev pub AreEntries : ConfigValue → ℕ → List EntryValue → Type 0
AreEntries config me entries =
    (k : ℕ) (entry : EntryValue) → slice_get entries k ≡ Some entry →
    (answer_due config me (take k (events entries)) entry.event ≡ Ok entry.reply)
    × IsTrue (is_recorded (Ok entry.reply))
