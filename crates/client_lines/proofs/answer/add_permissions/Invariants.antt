use Rattle.std.proofs.Common.{◌≡◌, ◌++◌, length, string_bytes}
use Rattle.client_lines.specs.inside.Items.{behind_commas}
use Rattle.client_lines.proofs.answer.add_permissions.Given as goal

abbrev pub invariant-loop-rest : goal.invariant-loop-rest
invariant-loop-rest l =
    string_bytes l.text ++ behind_commas l.rest ≡ string_bytes l.initial.text ++ behind_commas l.initial.rest

abbrev pub decreases-loop-rest : goal.decreases-loop-rest
decreases-loop-rest l = length l.rest
