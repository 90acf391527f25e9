-- A long run of four nodes of which node 3 lies, whose parts have one place: byz_world's run, and its owner comes into the
-- second part. So no law speaks of nothing.
use Rattle.std.specs.Prelude.{◌≡◌, [], ◌∷◌, ◌++◌, map}
use Rattle.std.specs.FinSet as sets
use Rattle.role_commands.specs.declared.command.Command.{Command}
use Rattle.role_commands.specs.declared.command.Command.TheVariants.{Assign}
use Rattle.role_node.specs.declared.event.Event.TheVariants.{Issue}
use Rattle.byz_world.specs.Example.{four_nodes, three_lies, user_seven, example_run}
use Rattle.byz_world.specs.Runs.{Run}
use Rattle.part_lives.specs.Parts.{Plan, Part, In, part_of, current, total}
use Rattle.stream_parts.specs.LongRuns.{LongRun, acts_of, IsLongRun}

-- nothing holds before the first commands
abbrev pub one_place : Plan
one_place = record { roles = four_nodes.roles; length = 1; most_pairs = 8; beginning = λ owner. sets.empty }

abbrev pub user_nine : Command
user_nine = Assign 9 2

abbrev pub first_part : Part
first_part = part_of 0 0

-- all happens in node 0's first part
abbrev pub in_first : Run → LongRun
in_first run = map (λ pair. (pair.0, In first_part pair.1)) run

-- node 0 publishes another command in its second part
abbrev pub two_parts : LongRun
two_parts = in_first example_run ++ (0, In (part_of 0 1) (Issue user_nine)) ∷ []

pub record AnExample : Type 0 where
  pub is_long_run : IsLongRun one_place three_lies two_parts
  pub delivered : total one_place (acts_of 0 two_parts) 0 ≡ user_seven ∷ []
  pub came_on : current one_place (acts_of 0 two_parts) 0 ≡ 1
