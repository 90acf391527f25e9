-- What a line says of the members that operations have, whatever else it holds. It serves the code, and no public
-- contract.
use Rattle.std.specs.Prelude.{◌≡◌, ℕ, ◌^◌, ◌-◌, option_map, option_and_then, None}
use Rattle.serde_json.specs.Data.{Data, string, number, unsigned}
use Rattle.serde_json.specs.Find.{as_str, as_number}
use Rattle.client_lines.specs.Members.{member_of, member_number}
use Rattle.client_lines.specs.declared.line.Line.{Line}
use Rattle.client_lines.specs.declared.line.Scalar.{Scalar}
use Rattle.client_lines.specs.declared.line.Scalar.TheVariants.{Text, Whole, Other}
use Rattle.client_lines.specs.declared.member.Member.TheVariants.{Op, User, Role, Operation, Object, Session, Owner}
use Rattle.client_lines.specs.declared.member.Member.TheVariants.{Place}

abbrev pub most_number : ℕ
most_number = 2 ^ 64 - 1

-- `op` where it is a text, and each number
pub record Says (line : Line) (d : Data) : Type 0 where
  pub op : option_map (λ s. s.now) line.op ≡ option_and_then as_str (member_of Op d)
  pub user : line.user ≡ member_number User most_number d
  pub role : line.role ≡ member_number Role most_number d
  pub operation : line.operation ≡ member_number Operation most_number d
  pub object : line.object ≡ member_number Object most_number d
  pub session : line.session ≡ member_number Session most_number d
  pub owner : line.owner ≡ member_number Owner most_number d
  pub place : line.place ≡ member_number Place most_number d

abbrev pub IsScalarOf : Scalar → Data → Type 0
IsScalarOf (Text text) d = d ≡ string text.now
IsScalarOf (Whole n) d = d ≡ number (unsigned n)
IsScalarOf Other d = (as_str d ≡ None) × (as_number d ≡ None)
