-- The members of operators' lines.
use Rattle.std.specs.Prelude.{ℕ, List, codes}
use Rattle.operator_lines.specs.declared.member.OperatorMember.{OperatorMember}
use Rattle.operator_lines.specs.declared.member.OperatorMember.TheVariants.{Owner, Place, From, User, Operation}
use Rattle.operator_lines.specs.declared.member.OperatorMember.TheVariants.{Object, Asked}

abbrev pub member_name : OperatorMember → List ℕ
member_name Owner = codes "owner"
member_name Place = codes "place"
member_name From = codes "from"
member_name User = codes "user"
member_name Operation = codes "operation"
member_name Object = codes "object"
member_name Asked = codes "asked"
