-- What is true of operators' lines.
use Rattle.std.specs.Prelude.{◌≡◌, ◌<◌, ℕ, List, IsSome, Err}
use Rattle.quorum_sizes.specs.Sizes.{Counts}
use Rattle.client_lines.specs.Requests.{request_due}
use Rattle.client_lines.specs.declared.fault.LineFault.TheVariants.{UnknownOp}
use Rattle.role_commands.specs.Tables.{Table, roles_of_owner}
use Rattle.operator_lines.specs.Requests.{operator_due}
use Rattle.operator_lines.specs.Decisions.{role_lists, roles_in}

-- to the clients' reader the operation of an operator's line is unknown
abbrev pub ClientsKnowNone : Type 0
ClientsKnowNone = (s : Counts) (bytes : List ℕ) → IsSome (operator_due s bytes) → request_due s bytes ≡ Err UnknownOp

-- the lists that are made of a table have of each node the roles that it owns
abbrev pub ListsAreOfOwners : Type 0
ListsAreOfOwners =
    (table : Table) (owner : ℕ) → owner < table.sizes.nodes
    → roles_in (role_lists table) owner ≡ roles_of_owner table owner
