-- What a script means: the text that is due for its lines, and which line is the first bad one.
use Rattle.std.specs.Prelude.{ℕ, Bool, nat_lt, if◌then◌else◌, List, [], ◌∷◌}
use Rattle.std.specs.Prelude.{◌++◌, length, Option, Some, None, option_map}
use Rattle.std.specs.Option.{option_or}
use Rattle.std.specs.FinSet as sets
use Rattle.quorum_sizes.specs.Sizes.{Counts}
use Rattle.quorum_sizes.specs.NodeSets.{Nodes}
use Rattle.role_commands.specs.Tables.{Table, no_roles, with_role}
use Rattle.role_commands.specs.TableFaults.{add_due}
use Rattle.role_commands.specs.declared.table.TableFault.{TableFault}
use Rattle.link_frames.specs.lines.Lines.{lines_of}
use Rattle.link_frames.specs.lines.LinePrograms.{text_by, bad_by}
use Rattle.bracha_instance.specs.Broadcast.{Take}
use Rattle.byz_world.specs.Worlds.{too_many_lie}
use Rattle.lab_scripts.specs.Grammar.{sizes_of_line, take_of_line}
use Rattle.lab_scripts.specs.Orders.{cluster_of_line, setup_of_line, order_of_line}
use Rattle.lab_scripts.specs.Labs.{Lab, lab_sizes, new_lab, after_order}
use Rattle.lab_scripts.specs.Texts.{sizes_text, outcome_text}
use Rattle.lab_scripts.specs.OrderTexts.{role_text, liar_text, order_text}
use Rattle.lab_scripts.specs.declared.orders.SetupLine.{SetupLine}
use Rattle.lab_scripts.specs.declared.orders.SetupLine.TheVariants.{Owned, Liar}
use Rattle.lab_scripts.specs.declared.orders.ScriptLine.{ScriptLine}

-- a line of more bytes is bad
abbrev pub most_line_bytes : ℕ
most_line_bytes = 4096

-- what the lines so far say
pub data Script : Type 0 where
  -- there was none
  Unread : Script
  -- the sizes of an instance, and the messages that its node took, oldest first
  OfInstance : Counts → List Take → Script
  -- the roles of a cluster, and the nodes that lie
  OfSetup : Table → Nodes → Script
  -- a cluster in which something happened
  OfCluster : Lab → Script

-- a script with these sizes, and the text that is due for its first line
abbrev pub first_of_instance : Counts → Script × List ℕ
first_of_instance s = (OfInstance s [], sizes_text s)

abbrev pub first_of_cluster : Counts → Script × List ℕ
first_of_cluster s = (OfSetup (no_roles s) sets.empty, sizes_text s)

-- after one more message
abbrev pub after_take : Counts → List Take → Take → Script × List ℕ
after_take s takes t = (OfInstance s (takes ++ t ∷ []), outcome_text s takes t)

-- the table with the role, where it is not refused
abbrev pub table_after : Table → ℕ → ℕ → Option TableFault → Table
table_after roles role owner None = with_role roles role owner
table_after roles role owner (Some fault) = roles

-- one liar more is too many
abbrev pub one_too_many : Table → Nodes → ℕ → Bool
one_too_many roles liars node = too_many_lie roles.sizes (sets.insert liars node)

-- the liars with the node, where it is not one too many
abbrev pub liars_after : Table → Nodes → ℕ → Nodes
liars_after roles liars node = if one_too_many roles liars node then liars else sets.insert liars node

-- after one more role or liar
abbrev pub after_setup : Table → Nodes → SetupLine → Script × List ℕ
after_setup roles liars (Owned role owner) =
    let fault = add_due roles role owner in (OfSetup (table_after roles role owner fault) liars, role_text fault)
after_setup roles liars (Liar node) =
    (OfSetup roles (liars_after roles liars node), liar_text (one_too_many roles liars node))

-- after what a line asks of the cluster
abbrev pub after_asking : Lab → ScriptLine → Script × List ℕ
after_asking lab order = (OfCluster (after_order lab order), order_text lab order)

-- the same, where the line asks something
abbrev pub after_cluster_line : Lab → List ℕ → Option (Script × List ℕ)
after_cluster_line lab line = option_map (after_asking lab) (order_of_line (lab_sizes lab) line)

-- What a line of allowed length adds, and the text that is due for it. The roles and the liars come before all else.
unfoldable pub after_line : Script → List ℕ → Option (Script × List ℕ)
after_line Unread line =
    option_or (option_map first_of_instance (sizes_of_line line)) (option_map first_of_cluster (cluster_of_line line))
after_line (OfInstance s takes) line = option_map (after_take s takes) (take_of_line s line)
after_line (OfSetup roles liars) line =
    option_or (option_map (after_setup roles liars) (setup_of_line roles.sizes line))
    (after_cluster_line (new_lab roles liars) line)
after_line (OfCluster lab) line = after_cluster_line lab line

-- the same of any line
unfoldable pub next : Script → List ℕ → Option (Script × List ℕ)
next script line = if nat_lt most_line_bytes (length line) then None else after_line script line

-- the text of the lines of a script, up to the first bad one
abbrev pub script_text : List ℕ → List ℕ
script_text input = text_by next Unread (lines_of input)

-- the number of its first bad line, from 1
abbrev pub first_bad : List ℕ → Option ℕ
first_bad input = bad_by next 1 Unread (lines_of input)
