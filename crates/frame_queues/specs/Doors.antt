-- Through which door a client comes, to which slot, and who gives way where the door's slots are all taken.
use Rattle.std.specs.Prelude.{ℕ, ◌+◌, ◌-◌, nat_lt, nat_le, Bool, true, false, not, ◌&&◌, if◌then◌else◌}
use Rattle.std.specs.Prelude.{List, take, drop, position, Option, Some, None}
use Rattle.std.specs.List.{list_any}
use Rattle.frame_queues.specs.declared.doors.Door.{Door}
use Rattle.frame_queues.specs.declared.doors.Door.TheVariants.{Port, Socket}
use Rattle.frame_queues.specs.declared.doors.SlotStanding.{SlotStanding}
use Rattle.frame_queues.specs.declared.doors.SlotStanding.TheVariants as standing
use Rattle.frame_queues.specs.declared.doors.WayIn.{WayIn}
use Rattle.frame_queues.specs.declared.doors.WayIn.TheVariants as way

-- how many slots each door has
abbrev pub door_slots : ℕ
door_slots = 16

abbrev pub first_slot : Door → ℕ
first_slot Port = 0
first_slot Socket = door_slots

-- a door's own, of all slots: no other door's
abbrev pub own_slots : Door → List SlotStanding → List SlotStanding
own_slots door slots = take door_slots (drop (first_slot door) slots)

abbrev pub is_free : SlotStanding → Bool
is_free standing.Free = true
is_free slot = false

-- its connection has given way, or has ended
abbrev pub is_leaving : SlotStanding → Bool
is_leaving standing.Leaves = true
is_leaving slot = false

-- the milliseconds for which a connection waits for the end of a line before it may give way
abbrev pub line_patience : ℕ
line_patience = 100

-- It has waited so long. One that is answered waits for no line.
abbrev pub has_waited : ℕ → SlotStanding → Bool
has_waited now (standing.Waits since) = nat_le line_patience (now - since)
has_waited now slot = false

-- the one has waited longer than the other
abbrev pub is_before : SlotStanding → SlotStanding → Bool
is_before (standing.Waits one) (standing.Waits other) = nat_lt one other
is_before one other = false

-- it has waited long enough, and none of the others longer
abbrev pub gives_way : List SlotStanding → ℕ → SlotStanding → Bool
gives_way own now slot = has_waited now slot && not (list_any (λ other. is_before other slot) own)

abbrev pub leaves_or_waits : ℕ → Option ℕ → WayIn
leaves_or_waits first None = way.Waits
leaves_or_waits first (Some at) = way.GivesWay (first + at)

-- Where no slot is free: while one is free soon nobody gives way.
abbrev pub way_through : List SlotStanding → ℕ → ℕ → WayIn
way_through own first now =
    if list_any is_leaving own then way.Waits else leaves_or_waits first (position (gives_way own now) own)

abbrev pub slot_or : ℕ → WayIn → Option ℕ → WayIn
slot_or first otherwise None = otherwise
slot_or first otherwise (Some at) = way.Slot (first + at)

-- the way in of a client that comes through a door
abbrev pub way_in : Door → List SlotStanding → ℕ → WayIn
way_in door slots now =
    let own = own_slots door slots in
    slot_or (first_slot door) (way_through own (first_slot door) now) (position is_free own)
