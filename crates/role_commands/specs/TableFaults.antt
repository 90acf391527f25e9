-- When a role is refused, and how a fault is written: its code, a space and its name.
use Rattle.std.specs.Prelude.{◌≡◌, ℕ, nat_le, if◌then◌else◌, List, codes, Option, Some, None, Result, Ok, Err}
use Rattle.std.specs.FinMap as map
use Rattle.role_commands.specs.Tables.{Table, most_roles}
use Rattle.role_commands.specs.declared.table.TableFault.{TableFault}
use Rattle.role_commands.specs.declared.table.TableFault.TheVariants.{NoSuchNode, Repeated, TooManyRoles, Memory}

-- the first fault that holds where the role is to be added with this owner
abbrev pub add_due : Table → ℕ → ℕ → Option TableFault
add_due t role owner =
    if nat_le t.sizes.nodes owner then Some NoSuchNode
    else (if map.contains_key t.owners role then Some Repeated
    else (if nat_le most_roles (map.len t.owners) then Some TooManyRoles
    else None))

-- the fault that is due is answered; where none is, only memory can be wanting
abbrev pub AnswersDue : {X : Type 0} → Option TableFault → Result X TableFault → Type 0
AnswersDue due (Ok x) = due ≡ None
AnswersDue due (Err Memory) = due ≡ None
AnswersDue due (Err fault) = due ≡ Some fault

abbrev pub table_fault_text : TableFault → List ℕ
table_fault_text NoSuchNode = codes "C1 NoSuchNode"
table_fault_text Repeated = codes "C2 Repeated"
table_fault_text TooManyRoles = codes "C3 TooManyRoles"
table_fault_text Memory = codes "out of memory"
