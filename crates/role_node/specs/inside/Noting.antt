-- What a node notes of its history. Serves the code, and no public contract.
use Rattle.std.specs.Prelude.{◌≡◌, ℕ, ◌<◌, ◌≤◌, List, length, slice_get, Some}
use Rattle.quorum_sizes.specs.Sizes.{Counts}
use Rattle.role_commands.specs.declared.command.Command.{Command}
use Rattle.role_node.specs.Histories.{issued, client_events}
use Rattle.role_node.specs.Access.{stream_at}
use Rattle.role_node.specs.Begun.{is_begun_twice}
use Rattle.role_node.specs.declared.event.Event.{Event}
use Rattle.role_node.specs.declared.noted.Noted.{Noted}

-- this is noted of the history
pub record IsNotedOf (s : Counts) (me : ℕ) (history : List Event) (a : Noted) : Type 0 where
  pub acts : a.acts ≡ length (client_events history)
  pub begun_twice : a.begun_twice ≡ is_begun_twice s me history

-- what the node delivers at a place of its own stream it issued there
abbrev pub IsIssuedAt : Counts → ℕ → List Event → ℕ → Type 0
IsIssuedAt s me history place =
    (c : Command) → slice_get (stream_at s history me) place ≡ Some c → slice_get (issued history) place ≡ Some c

-- .. at each place from one up to another
abbrev pub AreIssued : Counts → ℕ → List Event → ℕ → ℕ → Type 0
AreIssued s me history from to = (place : ℕ) → from ≤ place → place < to → IsIssuedAt s me history place
