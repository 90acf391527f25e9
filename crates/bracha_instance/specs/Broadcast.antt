-- Authenticated double-echo broadcast (Bracha 1987; Cachin, Guerraoui and Rodrigues), as one node sees
-- one instance of it: what follows from the whole list of the messages that the node took, oldest first.
use Rattle.std.specs.Prelude.{ℕ, Bool, false, ◌==◌, ◌&&◌, ◌||◌, nat_le, List}
use Rattle.std.specs.Prelude.{map, filter, find, Option, Some, None, option_map}
use Rattle.std.specs.Ordering.{nat_cmp}
use Rattle.std.specs.FinSet as sets
use Rattle.quorum_sizes.specs.Sizes.{Counts, echo_quorum_of, amplify_of, deliver_of}
use Rattle.role_commands.specs.Same.{same_command}
use Rattle.role_commands.specs.declared.command.Command.{Command}
use Rattle.link_frames.specs.frames.Kinds.{same_kind}
use Rattle.link_frames.specs.declared.frames.kind.Kind.{Kind}
use Rattle.link_frames.specs.declared.frames.kind.Kind.TheVariants.{Send, Echo, Ready}
use Rattle.bracha_instance.specs.Prefixes.{at_first_prefix}

-- a message that the node took: its kind, the node that it is from, and its command
pub record Take : Type 0 where
  pub kind : Kind
  pub from : ℕ
  pub command : Command

abbrev pub Names : Type 0
Names = sets.FinSet nat_cmp

abbrev pub command_of : Take → Command
command_of t = t.command

abbrev pub from_of : Take → ℕ
from_of t = t.from

abbrev pub is_of_kind : Kind → Take → Bool
is_of_kind kind t = same_kind kind t.kind

abbrev pub is_vote_of : Kind → ℕ → Take → Bool
is_vote_of kind name t = same_kind kind t.kind && (name == t.from)

abbrev pub is_for : Command → Option Command → Bool
is_for c None = false
is_for c (Some d) = same_command c d

-- Of each node the first message of a kind is its vote. What comes later of that kind from it counts for nothing.
unfoldable pub vote : Kind → ℕ → List Take → Option Command
vote kind name takes = option_map command_of (find (is_vote_of kind name) takes)

-- the nodes that have voted
unfoldable pub voters : Kind → List Take → Names
voters kind takes = sets.from_list (map from_of (filter (is_of_kind kind) takes))

-- the nodes whose vote is for c
unfoldable pub supporters : Kind → Command → List Take → Names
supporters kind c takes = sets.retain (voters kind takes) (λ name. is_for c (vote kind name takes))

-- The node sends ECHO for the command of the first SEND, and nothing but a SEND makes it echo.
unfoldable pub echoed : List Take → Option Command
echoed takes = option_map command_of (find (is_of_kind Send) takes)

-- an echo quorum echoed c, or so many nodes are ready for c that one of them is correct
unfoldable pub may_ready : Counts → List Take → Command → Bool
may_ready s takes c =
    nat_le (echo_quorum_of s) (sets.len (supporters Echo c takes))
    || nat_le (amplify_of s) (sets.len (supporters Ready c takes))

-- so many nodes are ready for c that it may be delivered
unfoldable pub may_deliver : Counts → List Take → Command → Bool
may_deliver s takes c = nat_le (deliver_of s) (sets.len (supporters Ready c takes))

-- a command of these takes that meets the test
abbrev pub command_that : (Command → Bool) → List Take → Option Command
command_that test takes = find test (map command_of takes)

-- The node sends READY for the command that may be readied at the first moment when one may.
unfoldable pub readied : Counts → List Take → Option Command
readied s takes = at_first_prefix (λ past. command_that (may_ready s past) past) takes

-- It delivers the command that may be delivered at the first moment when one may.
unfoldable pub delivered : Counts → List Take → Option Command
delivered s takes = at_first_prefix (λ past. command_that (may_deliver s past) past) takes
