-- Whether a history shows that its node was begun twice. A node that is begun anew, or from an old copy of its journal,
-- has forgotten commands that it published, and publishes others at their places. Its peers still vote for the first
-- ones: so what it delivers of its own stream isn't what it issued there.
use Rattle.std.specs.Prelude.{ℕ, ◌+◌, ◌≤◌, Bool, not, IsTrue, List, ◌++◌, length, take}
use Rattle.std.specs.Bool.{Decides}
use Rattle.std.specs.List.{list_any, range_with_len, starts_with}
use Rattle.quorum_sizes.specs.Sizes.{Counts}
use Rattle.role_commands.specs.Same.{same_command}
use Rattle.owner_streams.specs.Laws.{IsPrefixOf}
use Rattle.role_node.specs.declared.event.Event.{Event}
use Rattle.role_node.specs.Histories.{issued}
use Rattle.role_node.specs.Access.{stream_at}

-- the node's own stream, as it delivers it, is the beginning of what it issued
unfoldable pub is_as_issued : Counts → ℕ → List Event → Bool
is_as_issued s me history = starts_with same_command (issued history) (stream_at s history me)

-- After some first events of the history, or after all of it, it was not.
unfoldable pub is_begun_twice : Counts → ℕ → List Event → Bool
is_begun_twice s me history =
    list_any (λ k. not (is_as_issued s me (take k history))) (range_with_len 0 (length history + 1))

-- after these first events of the history its own stream is no prefix of what it had issued
abbrev pub IsSeenAt : Counts → ℕ → List Event → ℕ → Type 0
IsSeenAt s me history k =
    (k ≤ length history) × (IsPrefixOf (stream_at s (take k history) me) (issued (take k history)) → ⊥)

-- It is so exactly where that is so after some first events, and then it stays so.
pub record BegunTwice (s : Counts) (me : ℕ) (history : List Event) : Type 0 where
  pub seen : Decides (is_begun_twice s me history) ((k : ℕ) × IsSeenAt s me history k)
  pub stays : (more : List Event) → IsTrue (is_begun_twice s me history) →
      IsTrue (is_begun_twice s me (history ++ more))

abbrev pub BegunTwiceIsSeen : Type 0
BegunTwiceIsSeen = (s : Counts) (me : ℕ) (history : List Event) → BegunTwice s me history
