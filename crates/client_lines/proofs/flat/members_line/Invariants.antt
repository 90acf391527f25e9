use Rattle.std.proofs.Common.{◌≡◌, ℕ, ◌≤◌, length}
use Rattle.json.specs.Json.{members, value}
use Rattle.serde_json.specs.Data.{Members, no_members, object}
use Rattle.serde_json.specs.Read.{of_members, converted}
use Rattle.client_lines.specs.inside.Says.{Says}
use Rattle.client_lines.proofs.flat.members_line.Given as goal

abbrev pub invariant-members : goal.invariant-members
invariant-members l =
    (n : ℕ) × (found : Members) × (length l.reader ≤ n)
    × (converted (λ ms. of_members ms no_members) (members (value 126) (length l.initial.reader) l.initial.reader)
    ≡ converted (λ ms. of_members ms found) (members (value 126) n l.reader))
    × Says l.line (object found)

abbrev pub decreases-members : goal.decreases-members
decreases-members l = length l.reader
