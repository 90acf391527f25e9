-- How far two streams agree.
use Rattle.std.specs.Prelude.{ℕ, suc, ◌&&◌, nat_lt, if◌then◌else◌, List, [], ◌∷◌, Option, Some, None}
use Rattle.role_commands.specs.Same.{same_command}
use Rattle.role_commands.specs.declared.command.Command.{Command}
use Rattle.role_node.specs.Access.{stream_at}
use Rattle.byz_world.specs.Runs.{history_of}
use Rattle.byz_world.specs.Worlds.{WorldValue, is_correct_in}

-- the length of the longest list that both begin with
unfoldable pub common_length : List Command → List Command → ℕ
common_length [] ys = 0
common_length (x ∷ xs) [] = 0
common_length (x ∷ xs) (y ∷ ys) = if same_command x y then suc (common_length xs ys) else 0

-- how far two correct nodes' streams of a node agree
abbrev pub agree_due : WorldValue → ℕ → ℕ → ℕ → Option ℕ
agree_due w i j owner =
    if is_correct_in w i && is_correct_in w j && nat_lt owner w.config.roles.sizes.nodes
    then Some (common_length (stream_at w.config.roles.sizes (history_of i w.run) owner)
    (stream_at w.config.roles.sizes (history_of j w.run) owner))
    else None
