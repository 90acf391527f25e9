-- A life in which a node crashes twice, and which goes on to the run of four nodes, so that no law speaks of nothing.
use Rattle.std.specs.Prelude.{◌≡◌, false, IsTrue, List, [], ◌∷◌, length, drop}
use Rattle.role_commands.specs.declared.command.Command.{Command}
use Rattle.role_commands.specs.declared.command.Command.TheVariants.{Assign}
use Rattle.link_frames.specs.declared.frames.kind.Kind.TheVariants.{Send}
use Rattle.link_frames.specs.declared.frames.packet.Message.{Message}
use Rattle.role_node.specs.declared.event.Event.TheVariants.{Issue, Take}
use Rattle.byz_world.specs.Example.{four, four_nodes, three_lies, user_seven, told, example_run}
use Rattle.byz_world.specs.Runs.{has_sent}
use Rattle.restarts.specs.Lives.{Act, Records, Syncs, Crashes, moment, has_left, IsLife}
use Rattle.restarts.specs.Laws.{synced_at_once}

abbrev pub user_nine : Command
user_nine = Assign 9 2

-- what node 0 sends when it publishes a command at place 0
abbrev pub published : Command → Message
published command = record { kind = Send; owner = 0; place = 0; command = command }

-- Node 0 publishes a command, crashes before it has synced anything, and publishes another. That it syncs; it takes its
-- own packet, and crashes again. Then all goes as in the run of four nodes.
abbrev pub example_life : List Act
example_life =
    Records 0 (Issue user_nine) ∷ Crashes 0 0 ∷ Records 0 (Issue user_seven) ∷ Syncs 0 ∷
    Records 0 (Take (told Send user_seven 0 0)) ∷ Crashes 0 1 ∷ synced_at_once (drop 1 example_run)

-- It is a life. The first command was sent at the node itself and had not left it, and the first crash loses it: so of
-- what is sent and not yet synced there may be two stories. The second crash keeps the other command, and what stands
-- at last is the run of four nodes, in which that is delivered.
pub record AnExample : Type 0 where
  pub is_life : IsLife four_nodes three_lies example_life
  pub was_sent : IsTrue (has_sent four (moment example_life 1).run 0 (published user_nine))
  pub had_not_left : has_left four (moment example_life 1) 0 (published user_nine) ≡ false
  pub is_lost : (moment example_life 2).run ≡ []
  pub has_left_later : IsTrue (has_left four (moment example_life 4) 0 (published user_seven))
  pub is_kept : (moment example_life 6).run ≡ (0, Issue user_seven) ∷ []
  pub stands : (moment example_life (length example_life)).run ≡ example_run
