-- When a client's call is refused, and how a fault is written: its code, a space and its name.
use Rattle.std.specs.Prelude.{◌≡◌, ℕ, Bool, ◌==◌, nat_le, not, if◌then◌else◌, List}
use Rattle.std.specs.Prelude.{length, codes, Option, Some, None, Result, Ok, Err}
use Rattle.std.specs.FinMap as map
use Rattle.std.specs.List.{list_any}
use Rattle.role_commands.specs.Tables.{Table}
use Rattle.role_sessions.specs.declared.faults.SessionFault.{SessionFault}
use Rattle.role_sessions.specs.declared.faults.SessionFault.TheVariants as session
use Rattle.role_sessions.specs.declared.faults.EndFault.{EndFault}
use Rattle.role_sessions.specs.declared.faults.EndFault.TheVariants as end
use Rattle.role_sessions.specs.Sessions.{Session, SessionState}
use Rattle.role_sessions.specs.Decisions.{Relations}

-- the most sessions that are open at once
abbrev pub most_sessions : ℕ
most_sessions = 4096

-- the most roles that are active in a session at once
abbrev pub most_active_roles : ℕ
most_active_roles = 64

-- the role is active in the session
abbrev pub is_active : Session → ℕ → Bool
is_active session role = list_any (λ active. active == role) session.active

-- the first fault that holds where a session is to be opened
abbrev pub open_due : SessionState → Option SessionFault
open_due state = if nat_le most_sessions (map.len state.open_sessions) then Some session.TooManySessions else None

-- the first fault that holds where a role is to be activated in the session
abbrev pub activate_in : Table → Relations → Option Session → ℕ → ℕ → Option SessionFault
activate_in table relations None user role = Some session.NoSession
activate_in table relations (Some found) user role =
    if not (found.user == user) then Some session.NotYours
    else (if not (map.contains_key table.owners role) then Some session.NoSuchRole
    else (if not (relations.assigned user role) then Some session.NotAssigned
    else (if is_active found role then Some session.AlreadyActive
    else (if nat_le most_active_roles (length found.active) then Some session.TooManyRoles
    else None))))

-- the same, by the session's id
abbrev pub activate_due : Table → Relations → SessionState → ℕ → ℕ → ℕ → Option SessionFault
activate_due table relations state id user role = activate_in table relations (map.get state.open_sessions id) user role

-- the first fault that holds where a role is to be dropped in the session
abbrev pub drop_in : Option Session → ℕ → ℕ → Option EndFault
drop_in None user role = Some end.NoSession
drop_in (Some found) user role =
    if not (found.user == user) then Some end.NotYours
    else (if not (is_active found role) then Some end.NotActive
    else None)

-- the same, by the session's id
abbrev pub drop_due : SessionState → ℕ → ℕ → ℕ → Option EndFault
drop_due state id user role = drop_in (map.get state.open_sessions id) user role

-- the first fault that holds where the session is to be closed
abbrev pub close_in : Option Session → ℕ → Option EndFault
close_in None user = Some end.NoSession
close_in (Some found) user = if not (found.user == user) then Some end.NotYours else None

-- the same, by the session's id
abbrev pub close_due : SessionState → ℕ → ℕ → Option EndFault
close_due state id user = close_in (map.get state.open_sessions id) user

-- the first fault that holds where a session's roles or permissions are to be listed
abbrev pub listing_due : SessionState → ℕ → Option SessionFault
listing_due state id = if map.contains_key state.open_sessions id then None else Some session.NoSession

-- the fault that is due is answered, and none where none is
abbrev pub AnswersExactly : {X Fault : Type 0} → Option Fault → Result X Fault → Type 0
AnswersExactly due (Ok x) = due ≡ None
AnswersExactly due (Err fault) = due ≡ Some fault

-- the fault that is due is answered; where none is, only memory can be wanting
abbrev pub AnswersDue : {X : Type 0} → Option SessionFault → Result X SessionFault → Type 0
AnswersDue due (Ok x) = due ≡ None
AnswersDue due (Err session.Memory) = due ≡ None
AnswersDue due (Err fault) = due ≡ Some fault

abbrev pub session_fault_text : SessionFault → List ℕ
session_fault_text session.NoSession = codes "N1 NoSession"
session_fault_text session.NotYours = codes "N2 NotYours"
session_fault_text session.TooManySessions = codes "A1 TooManySessions"
session_fault_text session.NoSuchRole = codes "A2 NoSuchRole"
session_fault_text session.NotAssigned = codes "A3 NotAssigned"
session_fault_text session.AlreadyActive = codes "A4 AlreadyActive"
session_fault_text session.TooManyRoles = codes "A5 TooManyRoles"
session_fault_text session.Memory = codes "out of memory"

abbrev pub end_fault_text : EndFault → List ℕ
end_fault_text end.NoSession = codes "N1 NoSession"
end_fault_text end.NotYours = codes "N2 NotYours"
end_fault_text end.NotActive = codes "A6 NotActive"
