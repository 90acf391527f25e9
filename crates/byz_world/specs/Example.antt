-- A run of four nodes of which node 3 lies, so that no law speaks of nothing.
use Rattle.std.specs.Prelude.{◌≡◌, ℕ, List, [], ◌∷◌, ◌++◌, map, Some}
use Rattle.std.specs.List.{flat_map}
use Rattle.std.specs.FinSet as sets
use Rattle.quorum_sizes.specs.Sizes.{Counts}
use Rattle.quorum_sizes.specs.NodeSets.{Nodes}
use Rattle.role_commands.specs.Tables.{no_roles, with_role}
use Rattle.role_commands.specs.declared.command.Command.{Command}
use Rattle.role_commands.specs.declared.command.Command.TheVariants.{Assign}
use Rattle.link_frames.specs.declared.frames.kind.Kind.{Kind}
use Rattle.link_frames.specs.declared.frames.kind.Kind.TheVariants.{Send, Echo, Ready}
use Rattle.link_frames.specs.frames.Packets.{PacketValue}
use Rattle.role_node.specs.Configs.{ConfigValue}
use Rattle.role_node.specs.declared.event.Event.TheVariants.{Issue, Take}
use Rattle.byz_world.specs.Giving.{IsProlongation}
use Rattle.byz_world.specs.Laws.{delivered_by}
use Rattle.byz_world.specs.Progress.{IsWanted, IsQuiet}
use Rattle.byz_world.specs.Resting.{IsAtRest}
use Rattle.byz_world.specs.Runs.{Run, IsClusterRun}

abbrev pub four : Counts
four = record { nodes = 4; liars = 1 }

-- node 0 owns role 2
abbrev pub four_nodes : ConfigValue
four_nodes = record { cluster = 1; roles = with_role (no_roles four) 2 0; limit = 100 }

abbrev pub three_lies : Nodes
three_lies = sets.from_list (3 ∷ [])

abbrev pub user_seven : Command
user_seven = Assign 7 2

-- a message about place 0 of node 0
abbrev pub told : Kind → Command → ℕ → ℕ → PacketValue
told kind c from to = record { from = from; to = to; kind = kind; owner = 0; place = 0; command = c }

abbrev pub correct_nodes : List ℕ
correct_nodes = 0 ∷ 1 ∷ 2 ∷ []

-- all correct nodes take this kind of message from these nodes
abbrev pub told_to_all : Kind → List ℕ → List PacketValue
told_to_all kind senders = flat_map (λ from. map (told kind user_seven from) correct_nodes) senders

-- the packets of the run, each taken where it is sent to: the liar tells node 1 of another command
abbrev pub told_at_first : List PacketValue
told_at_first = told_to_all Send (0 ∷ []) ++ told Echo (Assign 9 2) 3 1 ∷ [] ++ told_to_all Echo correct_nodes

abbrev pub told_at_last : List PacketValue
told_at_last = told_to_all Ready correct_nodes

abbrev pub taken : List PacketValue → Run
taken told = map (λ p. (p.to, Take p)) told

-- node 0 publishes a command, and all this is taken, the READYs last
abbrev pub before_readys : Run
before_readys = (0, Issue user_seven) ∷ taken told_at_first

abbrev pub example_run : Run
example_run = before_readys ++ taken told_at_last

-- It is a run of a cluster, which is at rest, and two correct nodes deliver the command. Before the READYs node 0 wants
-- its own; they prolong the run by packets of the pool; and then nothing about place 0 is wanted.
pub record AnExample : Type 0 where
  pub is_run : IsClusterRun four_nodes three_lies example_run
  pub rests : IsAtRest four_nodes three_lies example_run
  pub delivered_at_zero : delivered_by four_nodes example_run 0 0 0 ≡ Some user_seven
  pub delivered_at_one : delivered_by four_nodes example_run 1 0 0 ≡ Some user_seven
  pub wanted : IsWanted four_nodes three_lies before_readys (told Ready user_seven 0 0)
  pub prolongs : IsProlongation four_nodes three_lies before_readys (taken told_at_last)
  pub quiet : IsQuiet four_nodes three_lies example_run 0 1
