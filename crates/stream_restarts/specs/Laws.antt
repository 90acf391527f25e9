-- What holds of each life of a cluster that takes parts, whatever its correct nodes do, sync and lose in crashes.
use Rattle.std.specs.Prelude.{◌≡◌, ℕ, ◌≤◌, IsTrue, List, ◌++◌, take}
use Rattle.quorum_sizes.specs.NodeSets.{Nodes}
use Rattle.link_frames.specs.declared.frames.packet.Message.{Message}
use Rattle.part_lives.specs.Parts.{Plan, Part, Act}
use Rattle.stream_parts.specs.LongRuns.{acts_of, IsLongRun}
use Rattle.stream_restarts.specs.LongLives.{Deed, Moment, moment, has_left, IsLongLife}

-- What stands at any moment is a long run.
abbrev pub LongLivesAreRuns : Type 0
LongLivesAreRuns =
    (plan : Plan) (liars : Nodes) (deeds : List Deed) (k : ℕ) → IsLongLife plan liars deeds →
    IsLongRun plan liars (moment deeds k).run

-- the acts of a node that are synced
abbrev pub synced_of : Moment → ℕ → List Act
synced_of m node = take (m.synced node) (acts_of node m.run)

-- the life begins with these
abbrev pub IsFrontOf : List Act → List Act → Type 0
IsFrontOf front life = (rest : List Act) × (front ++ rest ≡ life)

-- What is synced at a moment is what the node did first at each later one, in all parts, adoptions too.
abbrev pub NothingIsTakenBack : Type 0
NothingIsTakenBack =
    (plan : Plan) (liars : Nodes) (deeds : List Deed) (k later node : ℕ) → IsLongLife plan liars deeds → k ≤ later →
    IsFrontOf (synced_of (moment deeds k) node) (acts_of node (moment deeds later).run)

-- Nobody is told two stories, in any part.
abbrev pub NobodyIsToldTwoStories : Type 0
NobodyIsToldTwoStories =
    (plan : Plan) (liars : Nodes) (deeds : List Deed) (k later node : ℕ) (part : Part) (one other : Message) →
    IsLongLife plan liars deeds →
    IsTrue (has_left plan.roles.sizes (moment deeds k) part node one) →
    IsTrue (has_left plan.roles.sizes (moment deeds later) part node other) →
    one.kind ≡ other.kind → one.owner ≡ other.owner → one.place ≡ other.place → one ≡ other
