-- How a client's slot stands, by what its thread says of itself.
use Rattle.std.specs.Prelude.{ℕ, ◌==◌, Bool, false, if◌then◌else◌, Option, Some, None, is_some}
use Rattle.frame_queues.specs.declared.doors.SlotStanding.{SlotStanding}
use Rattle.frame_queues.specs.declared.doors.SlotStanding.TheVariants.{Free, Answered, Waits, Leaves}
use Rattle.server_locks.specs.declared.slot.SlotState.{SlotState}

-- without a connection it is free where no thread has its way into the inbox any more
abbrev pub without_stream : Bool → SlotStanding
without_stream is_free = if is_free then Free else Leaves

-- its thread waits for the end of a line since some time, or answers one
abbrev pub waiting_since : Option ℕ → SlotStanding
waiting_since None = Answered
waiting_since (Some since) = Waits since

abbrev pub standing_of : SlotState → SlotStanding
standing_of s =
    if is_some s.stream then (if s.gave_way then Leaves else waiting_since s.waits_since)
    else without_stream (is_some s.queue)

-- it waits for the end of a line since this time
abbrev pub does_wait : ℕ → SlotStanding → Bool
does_wait since (Waits other) = other == since
does_wait since standing = false
