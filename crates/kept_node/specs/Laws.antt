-- What follows of the digits of events, and of what a crash leaves.
use Rattle.std.specs.Prelude.{◌≡◌, ℕ, ◌≤◌, List, length, take, All}
use Rattle.quorum_sizes.specs.Sizes.{Counts, AreSizes}
use Rattle.role_node.specs.Nodes.{NodeValue}
use Rattle.role_node.specs.declared.event.Event.{Event}
use Rattle.kept_node.specs.Events.{IsEventOf, digits_of_events}
use Rattle.kept_node.specs.Keeping.{StandsFor, IsFront}

-- no two histories of a node have the same digits
abbrev pub DigitsTellEvents : Type 0
DigitsTellEvents =
    (s : Counts) (me : ℕ) (one other : List Event) → AreSizes s → All (IsEventOf s me) one →
    All (IsEventOf s me) other → digits_of_events one ≡ digits_of_events other → one ≡ other

-- a prefix of a history with so many events at least
pub record IsFrontOf (least : ℕ) (history front : List Event) : Type 0 where
  pub count : ℕ
  pub enough : least ≤ count
  pub within : count ≤ length history
  pub is : front ≡ take count history

-- What a crash leaves of a node is restored as a prefix of its history that has all that was synced: bytes stand for no
-- other events.
abbrev pub ACrashLosesNothingSynced : Type 0
ACrashLosesNothingSynced =
    (key : List ℕ) (node : NodeValue) (least : ℕ) (bytes : List ℕ) (restored : List Event) →
    AreSizes node.config.roles.sizes → IsFront least key node bytes →
    StandsFor key node.config node.me bytes restored → IsFrontOf least node.history restored
