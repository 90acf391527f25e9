-- The operations of client lines, by their names.
use Rattle.std.specs.Prelude.{ℕ, if◌then◌else◌, List, codes, Option, Some, None}
use Rattle.std.specs.Str.{bytes_eq}
use Rattle.client_lines.specs.declared.operation.Operation.{Operation}
use Rattle.client_lines.specs.declared.operation.Operation.TheVariants.{Assign, Deassign, Grant, Revoke, Clear, Open}
use Rattle.client_lines.specs.declared.operation.Operation.TheVariants.{Activate, Drop, Close, Check, AssignedUsers}
use Rattle.client_lines.specs.declared.operation.Operation.TheVariants.{AssignedRoles, RolePermissions, UserPermissions}
use Rattle.client_lines.specs.declared.operation.Operation.TheVariants.{RoleOperations, UserOperations, SessionRoles}
use Rattle.client_lines.specs.declared.operation.Operation.TheVariants.{SessionPermissions, Reach, Again, Stop}

unfoldable pub operation_named : List ℕ → Option Operation
operation_named name =
    if bytes_eq name (codes "assign") then Some Assign
    else (if bytes_eq name (codes "deassign") then Some Deassign
    else (if bytes_eq name (codes "grant") then Some Grant
    else (if bytes_eq name (codes "revoke") then Some Revoke
    else (if bytes_eq name (codes "clear") then Some Clear
    else (if bytes_eq name (codes "open") then Some Open
    else (if bytes_eq name (codes "activate") then Some Activate
    else (if bytes_eq name (codes "drop") then Some Drop
    else (if bytes_eq name (codes "close") then Some Close
    else (if bytes_eq name (codes "check") then Some Check
    else (if bytes_eq name (codes "assigned_users") then Some AssignedUsers
    else (if bytes_eq name (codes "assigned_roles") then Some AssignedRoles
    else (if bytes_eq name (codes "role_permissions") then Some RolePermissions
    else (if bytes_eq name (codes "user_permissions") then Some UserPermissions
    else (if bytes_eq name (codes "role_operations") then Some RoleOperations
    else (if bytes_eq name (codes "user_operations") then Some UserOperations
    else (if bytes_eq name (codes "session_roles") then Some SessionRoles
    else (if bytes_eq name (codes "session_permissions") then Some SessionPermissions
    else (if bytes_eq name (codes "reach") then Some Reach
    else (if bytes_eq name (codes "again") then Some Again
    else (if bytes_eq name (codes "stop") then Some Stop
    else None))))))))))))))))))))
