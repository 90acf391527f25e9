-- Who waits for a job, by its number.
use Rattle.std.specs.Prelude.{⊤, ℕ, ◌+◌, ◌-◌, ◌*◌, ◌/◌, ◌%◌, ◌<◌, ◌≤◌, min, nat_lt, if◌then◌else◌}
use Rattle.frame_queues.specs.declared.caller.Caller.{Caller}
use Rattle.frame_queues.specs.declared.caller.Caller.TheVariants.{Client, Peer, Nobody}

-- how many clients, sixteen a door, and connections of frames there are, and how many numbers a client's jobs have:
-- those of its lines, and one more
abbrev pub most_clients : ℕ
most_clients = 32

abbrev pub most_peers : ℕ
most_peers = 382

abbrev pub most_lines : ℕ
most_lines = 32

abbrev pub client_numbers : ℕ
client_numbers = 33

-- the numbers below this are clients'
abbrev pub first_peer : ℕ
first_peer = 1056

-- how many connections of one place have numbers of their own
abbrev pub connections : ℕ
connections = 65536

abbrev pub peer_of : ℕ → Caller
peer_of number =
    if nat_lt (number / connections) most_peers then Peer (number / connections) (number % connections)
    else Nobody

abbrev pub caller_of : ℕ → Caller
caller_of number =
    if nat_lt number first_peer then Client (number / client_numbers) (number % client_numbers)
    else peer_of (number - first_peer)

-- a caller for whom there is a place
abbrev pub IsCaller : Caller → Type 0
IsCaller (Client slot line) = (slot < most_clients) × (line ≤ most_lines)
IsCaller (Peer place connection) = (place < most_peers) × (connection < connections)
IsCaller Nobody = ⊤

-- the number of a caller's jobs, up to the greatest
abbrev pub most_number : ℕ
most_number = 4294967295

abbrev pub number_of : Caller → ℕ
number_of (Client slot line) = min most_number (min most_number (slot * client_numbers) + line)
number_of (Peer place connection) =
    min most_number (min most_number (min most_number (place * connections) + connection) + first_peer)
number_of Nobody = most_number
