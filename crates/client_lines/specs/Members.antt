-- The members of client lines and of cluster texts, and the numbers that they hold.
use Rattle.std.specs.Prelude.{ℕ, nat_le, if◌then◌else◌, List, codes, Option}
use Rattle.std.specs.Prelude.{Some, None, option_and_then, Result, Ok, Err}
use Rattle.serde_json.specs.Data.{Data}
use Rattle.serde_json.specs.Find.{get, as_number, as_u64}
use Rattle.client_lines.specs.declared.member.Member.{Member}
use Rattle.client_lines.specs.declared.member.Member.TheVariants.{Op, User, Role, Operation, Object, Session, Owner}
use Rattle.client_lines.specs.declared.member.Member.TheVariants.{Place, Cluster, N, F, Me, Roles, Keys, Nodes, Client}
use Rattle.client_lines.specs.declared.member.MemberFault.{MemberFault}
use Rattle.client_lines.specs.declared.member.MemberFault.TheVariants.{Missing, OutOfRange}

abbrev pub member_name : Member → List ℕ
member_name Op = codes "op"
member_name User = codes "user"
member_name Role = codes "role"
member_name Operation = codes "operation"
member_name Object = codes "object"
member_name Session = codes "session"
member_name Owner = codes "owner"
member_name Place = codes "place"
member_name Cluster = codes "cluster"
member_name N = codes "n"
member_name F = codes "f"
member_name Me = codes "me"
member_name Roles = codes "roles"
member_name Keys = codes "keys"
member_name Nodes = codes "nodes"
member_name Client = codes "client"

-- what an object has under the member's name
abbrev pub member_of : Member → Data → Option Data
member_of member line = get (member_name member) line

-- a value as a whole number
abbrev pub whole_number : Data → Option ℕ
whole_number value = option_and_then as_u64 (as_number value)

abbrev pub number_within : ℕ → Option ℕ → Result ℕ MemberFault
number_within most None = Err OutOfRange
number_within most (Some n) = if nat_le n most then Ok n else Err OutOfRange

abbrev pub number_in : ℕ → Option Data → Result ℕ MemberFault
number_in most None = Err Missing
number_in most (Some value) = number_within most (whole_number value)

-- the whole number of the member, where it is no more than `most`
unfoldable pub member_number : Member → ℕ → Data → Result ℕ MemberFault
member_number member most line = number_in most (member_of member line)
