-- The rules of the protocol, as laws about every list of messages that a node took.
use Rattle.std.specs.Prelude.{◌≡◌, ℕ, ◌<◌, ◌≤◌, Bool, true, false, if◌then◌else◌, List}
use Rattle.std.specs.Prelude.{[], ◌∷◌, ◌++◌, length, take, Option, Some, None, IsSome}
use Rattle.std.specs.Option.{option_or}
use Rattle.quorum_sizes.specs.Sizes.{Counts}
use Rattle.role_commands.specs.declared.command.Command.{Command}
use Rattle.link_frames.specs.declared.frames.kind.Kind.{Kind}
use Rattle.bracha_instance.specs.Broadcast.{Take, vote, supporters, echoed, readied, delivered, may_ready, may_deliver}
use Rattle.bracha_instance.specs.States.{state}

-- what was due, or else this command where it is due now
abbrev pub or_else_if : Option Command → Bool → Command → Option Command
or_else_if before due c = option_or before (if due then Some c else None)

-- one more message makes its own command ready, or none
abbrev pub ReadiesItsOwn : Type 0
ReadiesItsOwn = (s : Counts) (takes : List Take) (t : Take) →
    readied s (takes ++ t ∷ []) ≡ or_else_if (readied s takes) (may_ready s (takes ++ t ∷ []) t.command) t.command

-- one more message delivers its own command, or none
abbrev pub DeliversItsOwn : Type 0
DeliversItsOwn = (s : Counts) (takes : List Take) (t : Take) →
    delivered s (takes ++ t ∷ []) ≡ or_else_if (delivered s takes) (may_deliver s (takes ++ t ∷ []) t.command) t.command

-- what was echoed, readied or delivered stays so
abbrev pub EchoStays : Type 0
EchoStays = (before later : List Take) (c : Command) → echoed before ≡ Some c → echoed (before ++ later) ≡ Some c

abbrev pub ReadyStays : Type 0
ReadyStays =
    (s : Counts) (before later : List Take) (c : Command) → readied s before ≡ Some c
    → readied s (before ++ later) ≡ Some c

abbrev pub DeliveryStays : Type 0
DeliveryStays =
    (s : Counts) (before later : List Take) (c : Command) → delivered s before ≡ Some c
    → delivered s (before ++ later) ≡ Some c

-- what is readied could be at some moment, and before it nothing could
abbrev pub ReadyWasFirst : Type 0
ReadyWasFirst = (s : Counts) (takes : List Take) (c : Command) → readied s takes ≡ Some c →
    (m : ℕ) × (m ≤ length takes) × (may_ready s (take m takes) c ≡ true)
    × ((k : ℕ) (d : Command) → k < m → may_ready s (take k takes) d ≡ false)

abbrev pub DeliveryWasFirst : Type 0
DeliveryWasFirst = (s : Counts) (takes : List Take) (c : Command) → delivered s takes ≡ Some c →
    (m : ℕ) × (m ≤ length takes) × (may_deliver s (take m takes) c ≡ true)
    × ((k : ℕ) (d : Command) → k < m → may_deliver s (take k takes) d ≡ false)

-- where something could be readied or delivered at some moment, something was
abbrev pub ReadyComes : Type 0
ReadyComes =
    (s : Counts) (takes : List Take) (m : ℕ) (c : Command) → may_ready s (take m takes) c ≡ true
    → IsSome (readied s takes)

abbrev pub DeliveryComes : Type 0
DeliveryComes =
    (s : Counts) (takes : List Take) (m : ℕ) (c : Command) →
    may_deliver s (take m takes) c ≡ true → IsSome (delivered s takes)

-- a node's second message of a kind changes no vote, no supporter, and nothing of the state
abbrev pub RepeatChangesNothing : Type 0
RepeatChangesNothing = (s : Counts) (takes : List Take) (t : Take) → IsSome (vote t.kind t.from takes) →
    ((kind : Kind) (name : ℕ) → vote kind name (takes ++ t ∷ []) ≡ vote kind name takes)
    × ((kind : Kind) (c : Command) → supporters kind c (takes ++ t ∷ []) ≡ supporters kind c takes)
    × (state s (takes ++ t ∷ []) ≡ state s takes)
