-- Turns at the node: who looks comes before who works, and no more than sixteen in a row before work that waits.
use Rattle.std.specs.Prelude.{ℕ, ◌+◌, ◌%◌, ◌^◌, ◌==◌, nat_lt, Bool, not, ◌&&◌, ◌||◌, if◌then◌else◌}
use Rattle.std.specs.Prelude.{Option, Some, None}
use Rattle.server_locks.specs.declared.tickets.Purpose.{Purpose}
use Rattle.server_locks.specs.declared.tickets.Purpose.TheVariants.{Look, Work}
use Rattle.server_locks.specs.declared.tickets.Tickets.{Tickets}
use Rattle.server_locks.specs.declared.tickets.Turn.{Turn}
use Rattle.server_locks.specs.declared.tickets.Turns.{Turns}

-- the next number behind a ticket's
abbrev pub behind : ℕ → ℕ
behind ticket = (ticket + 1) % 2 ^ 64

-- a ticket was taken, or the first that waits was called
abbrev pub ticket_taken : Tickets → Tickets
ticket_taken t = record t { next = behind t.next }

abbrev pub called : Tickets → Tickets
called t = record t { first = behind t.first }

-- somebody waits who has not been called
abbrev pub has_waiting : Tickets → Bool
has_waiting t = not (t.first == t.next)

-- who waits to look comes next
abbrev pub look_is_next : Turns → Bool
look_is_next t = has_waiting t.looks && (not (has_waiting t.works) || nat_lt t.passed 16)

-- whose turn is next
abbrev pub turn_due : Turns → Option Turn
turn_due t =
    if look_is_next t then Some (record { purpose = Look; ticket = t.looks.first })
    else if has_waiting t.works then Some (record { purpose = Work; ticket = t.works.first })
    else None

-- how many looks in a row came before work that waits, then
abbrev pub passed_due : Turns → ℕ
passed_due t = if look_is_next t && has_waiting t.works then t.passed + 1 else 0

-- the next turn is called
abbrev pub next_called : Turns → Turns
next_called t = record {
  looks = if look_is_next t then called t.looks else t.looks;
  works = if not (look_is_next t) && has_waiting t.works then called t.works else t.works;
  turn = turn_due t;
  passed = passed_due t;
}

-- the number of the next ticket for a purpose
abbrev pub next_ticket : Turns → Purpose → ℕ
next_ticket t Look = t.looks.next
next_ticket t Work = t.works.next

-- a ticket was taken for a purpose
abbrev pub asked : Turns → Purpose → Turns
asked t Look = record t { looks = ticket_taken t.looks }
asked t Work = record t { works = ticket_taken t.works }
