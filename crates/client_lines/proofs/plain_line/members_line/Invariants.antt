use Rattle.std.proofs.Common.{◌≡◌, ◌-◌, ◌≤◌, ℕ, length, true}
use Rattle.json.specs.Json.{members, value}
use Rattle.json.specs.Lex.{Place, fresh, may_begin}
use Rattle.serde_json.specs.Data.{Members, no_members, object}
use Rattle.serde_json.specs.Read.{of_members, converted}
use Rattle.client_lines.specs.inside.PlainLines.{tokens_from}
use Rattle.client_lines.specs.inside.Says.{Says}
use Rattle.client_lines.proofs.plain_line.members_line.Given as goal

abbrev pub invariant-members : goal.invariant-members
invariant-members l = record {
  place : Place;
  turns : ℕ;
  found : Members;
  begins : may_begin place ≡ true;
  enough : length (tokens_from place l.text l.at) ≤ turns;
  read : converted (λ ms. of_members ms no_members)
      (members (value 126) (length (tokens_from fresh l.text 1)) (tokens_from fresh l.text 1))
      ≡ converted (λ ms. of_members ms found) (members (value 126) turns (tokens_from place l.text l.at));
  says : Says l.line (object found);
}

abbrev pub decreases-members : goal.decreases-members
decreases-members l = length l.text - l.at
