-- What holds of every long run.
use Rattle.std.specs.Prelude.{◌≡◌, ◌≢◌, ℕ, suc, ◌*◌, ◌<◌, ◌≤◌, ◌⊎◌, List, [], length, take, slice_get, Some, IsTrue}
use Rattle.std.specs.FinSet as sets
use Rattle.quorum_sizes.specs.NodeSets.{Nodes, AreNodes}
use Rattle.role_commands.specs.declared.command.Command.{Command}
use Rattle.role_node.specs.Answers.{outlook, outlook_with_room}
use Rattle.role_node.specs.declared.event.Event.{Event}
use Rattle.owner_streams.specs.Laws.{IsPrefixOf}
use Rattle.byz_world.specs.Headline.{IsRightDecision}
use Rattle.byz_world.specs.Runs.{IsClusterRun}
use Rattle.part_lives.specs.Holding.{Pairs}
use Rattle.part_lives.specs.Lives.{has_effect, held, relations_in, session_in, decision, decided_in}
use Rattle.part_lives.specs.Parts.{Plan, Part, part_config, part_of, events_in, part_stream, adopted, total}
use Rattle.part_lives.specs.Parts.{all_issued, Agree}
use Rattle.stream_parts.specs.LongRuns.{LongRun, acts_of, run_in, IsCorrectIn, IsLongRun}

-- What happens in a part is a run of a cluster, that of the part, so that every law of a cluster speaks of it.
abbrev pub PartsAreRuns : Type 0
PartsAreRuns =
    (plan : Plan) (liars : Nodes) (run : LongRun) (part : Part) → IsLongRun plan liars run →
    IsClusterRun (part_config plan part.number) liars (run_in part run)

-- a node's total of an owner in the run
abbrev pub total_of : Plan → LongRun → ℕ → ℕ → List Command
total_of plan run node owner = total plan (acts_of node run) owner

-- Of two correct nodes' totals of an owner one is a prefix of the other, however many parts each has, whoever adopted.
abbrev pub TotalsAgree : Type 0
TotalsAgree =
    (plan : Plan) (liars : Nodes) (run : LongRun) (i j owner : ℕ) → IsLongRun plan liars run →
    IsCorrectIn plan liars i → IsCorrectIn plan liars j →
    Agree (total_of plan run i owner) (total_of plan run j owner)

-- .. at whichever moments of the run
abbrev pub TotalsAgreeWhenever : Type 0
TotalsAgreeWhenever =
    (plan : Plan) (liars : Nodes) (run : LongRun) (i j one other owner : ℕ) → IsLongRun plan liars run →
    IsCorrectIn plan liars i → IsCorrectIn plan liars j →
    Agree (total_of plan (take one run) i owner) (total_of plan (take other run) j owner)

-- A correct owner's total is, at each correct node, a prefix of what the owner issued, in the order in which it did.
abbrev pub TotalIntegrity : Type 0
TotalIntegrity =
    (plan : Plan) (liars : Nodes) (run : LongRun) (i owner : ℕ) → IsLongRun plan liars run →
    IsCorrectIn plan liars i → IsCorrectIn plan liars owner →
    IsPrefixOf (total_of plan run i owner) (all_issued (acts_of owner run))

-- the node delivered all of the part, or adopted it
abbrev pub HasPart : Plan → LongRun → ℕ → ℕ → ℕ → Type 0
HasPart plan run node owner number =
    (plan.length ≤ length (part_stream plan owner (events_in (part_of owner number) (acts_of node run))))
    ⊎ (suc number * plan.length ≤ length (adopted owner (acts_of node run)))

-- Who has recorded anything in a part of an owner has each part before it, so a vote there says that.
abbrev pub PastIsComplete : Type 0
PastIsComplete =
    (plan : Plan) (liars : Nodes) (run : LongRun) (node owner number later : ℕ) → IsLongRun plan liars run →
    events_in (part_of owner later) (acts_of node run) ≢ [] → number < later → HasPart plan run node owner number

-- Correct nodes whose totals are equally long have the same relations.
abbrev pub SameRelations : Type 0
SameRelations =
    (plan : Plan) (liars : Nodes) (run : LongRun) (i j : ℕ) → IsLongRun plan liars run →
    IsCorrectIn plan liars i → IsCorrectIn plan liars j →
    ((owner : ℕ) → owner < plan.roles.sizes.nodes →
    length (total_of plan run i owner) ≡ length (total_of plan run j owner)) →
    relations_in plan (acts_of i run) ≡ relations_in plan (acts_of j run)

-- A correct node answers each access as Core RBAC does over what holds by its totals and its clients' sessions; two
-- correct nodes' totals of an owner agree as far as both reach; and nothing in a correct owner's total is forged.
pub record KeepsThePromise (plan : Plan) (liars : Nodes) (run : LongRun) : Type 0 where
  pub decisions : (node session user operation object : ℕ) → IsCorrectIn plan liars node →
      IsRightDecision (relations_in plan (acts_of node run)) (session_in (acts_of node run) session) user operation
      object (decision plan (acts_of node run) session user operation object)
  pub totals_agree : (i j owner : ℕ) → IsCorrectIn plan liars i → IsCorrectIn plan liars j →
      Agree (total_of plan run i owner) (total_of plan run j owner)
  pub nothing_forged : (i owner : ℕ) → IsCorrectIn plan liars i → IsCorrectIn plan liars owner →
      IsPrefixOf (total_of plan run i owner) (all_issued (acts_of owner run))

abbrev pub HeadlineOverParts : Type 0
HeadlineOverParts =
    (plan : Plan) (liars : Nodes) (run : LongRun) → IsLongRun plan liars run → KeepsThePromise plan liars run

-- Correct nodes at which the owner's total is equally long, at whichever moments of the run, decide alike by its word,
-- however long the totals of other owners are.
abbrev pub DecidesAlike : Type 0
DecidesAlike =
    (plan : Plan) (liars : Nodes) (run : LongRun) (i j one other owner user operation object : ℕ) →
    IsLongRun plan liars run → IsCorrectIn plan liars i → IsCorrectIn plan liars j →
    length (total_of plan (take one run) i owner) ≡ length (total_of plan (take other run) j owner) →
    decided_in plan (acts_of i (take one run)) owner user operation object
    ≡ decided_in plan (acts_of j (take other run)) owner user operation object

-- What a correct owner issued has its effect wherever it is delivered: no room is missing then.
abbrev pub IssuedHasRoom : Type 0
IssuedHasRoom =
    (plan : Plan) (liars : Nodes) (run : LongRun) (owner place : ℕ) (c : Command) → IsLongRun plan liars run →
    IsCorrectIn plan liars owner → slice_get (all_issued (acts_of owner run)) place ≡ Some c →
    IsTrue (has_effect plan owner (held plan owner (take place (all_issued (acts_of owner run)))) c)

-- A node's history in a part never gets as long as the part's limit: room in it refuses nothing.
pub record NeverFull (plan : Plan) (run : LongRun) (node : ℕ) (part : Part) : Type 0 where
  pub short : length (events_in part (acts_of node run)) < (part_config plan part.number).limit
  pub room : (event : Event) →
      outlook (part_config plan part.number) node (events_in part (acts_of node run)) event
      ≡ outlook_with_room plan.roles node (events_in part (acts_of node run)) event

abbrev pub NoPartIsFull : Type 0
NoPartIsFull =
    (plan : Plan) (liars : Nodes) (run : LongRun) (node : ℕ) (part : Part) → IsLongRun plan liars run →
    NeverFull plan run node part

-- The node has all parts of the owner before this one, and these are the pairs that hold there: a summary that it may
-- tell.
pub record HasSummary (plan : Plan) (run : LongRun) (node owner number : ℕ) (pairs : Pairs) : Type 0 where
  pub long : number * plan.length ≤ length (total_of plan run node owner)
  pub are : pairs ≡ held plan owner (take (number * plan.length) (total_of plan run node owner))

-- More nodes than can lie tell one summary; the correct ones among them tell what they have.
pub record IsVouched (plan : Plan) (liars : Nodes) (run : LongRun) (owner number : ℕ) (pairs : Pairs) : Type 0 where
  pub names : Nodes
  pub are : AreNodes plan.roles.sizes names
  pub many : plan.roles.sizes.liars < sets.len names
  pub told : (name : ℕ) → IsTrue (sets.contains names name) → IsCorrectIn plan liars name →
      HasSummary plan run name owner number pairs

-- Then a correct node has these parts, so that others may adopt them, and each correct node that has them has this
-- summary.
pub record IsTrueSummary (plan : Plan) (liars : Nodes) (run : LongRun) (owner number : ℕ) (pairs : Pairs) : Type 0 where
  pub source : ℕ
  pub honest : IsCorrectIn plan liars source
  pub has : HasSummary plan run source owner number pairs
  pub same : (node : ℕ) → IsCorrectIn plan liars node → number * plan.length ≤ length (total_of plan run node owner) →
      HasSummary plan run node owner number pairs

abbrev pub SummaryIsTrue : Type 0
SummaryIsTrue =
    (plan : Plan) (liars : Nodes) (run : LongRun) (owner number : ℕ) (pairs : Pairs) → IsLongRun plan liars run →
    IsVouched plan liars run owner number pairs → IsTrueSummary plan liars run owner number pairs
