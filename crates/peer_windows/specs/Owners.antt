-- The pairs of owners and peers, and when they are looked at.
use Rattle.std.specs.Prelude.{◌≡◌, ℕ, ◌+◌, Bool, not, ◌&&◌, nat_le, nat_lt, length, if◌then◌else◌}
use Rattle.std.specs.Prelude.{is_some, List, [], ◌∷◌, ◌++◌, ◌-◌, ◌*◌, ◌/◌, ◌%◌, min, max}
use Rattle.std.specs.Prelude.{slice_index_or, slice_set, map, replicate}
use Rattle.std.specs.List.{range_with_len}
use Rattle.peer_windows.specs.Pauses.{first_pause, never, probe_interval, longest_look}
use Rattle.peer_windows.specs.Pairs.{is_nothing, new_pair, anew, joined}
use Rattle.peer_windows.specs.declared.pair.Pair.{Pair}

-- the pair of a peer, among those of an owner
abbrev pub pair_in : List Pair → ℕ → Pair
pair_in pairs peer = slice_index_or pairs peer new_pair

abbrev pub with_pair : List Pair → ℕ → Pair → List Pair
with_pair pairs peer pair = slice_set pairs peer pair

-- a window went to the peer since it was last as far
abbrev pub is_served : Pair → Bool
is_served pair = is_some pair.served

-- something is owed to it
abbrev pub owes : Pair → Bool
owes pair = not (is_nothing pair.owed)

-- The node's name and the longest pause between looks; the pairs of each owner; when those of each owner are looked at
-- next, when something of its stream last grew, and when each peer is probed next; and whose turn it is.
pub record PairsValue : Type 0 where
  pub me : ℕ
  pub longest : ℕ
  pub pairs : List (List Pair)
  pub dues : List ℕ
  pub moved : List ℕ
  pub probes : List ℕ
  pub turn : ℕ

-- the pairs of an owner
abbrev pub pairs_of : PairsValue → ℕ → List Pair
pairs_of a owner = slice_index_or a.pairs owner []

abbrev pub pair_at : PairsValue → ℕ → ℕ → Pair
pair_at a owner peer = pair_in (pairs_of a owner) peer

-- with another pair of an owner and a peer
abbrev pub with_pair_at : PairsValue → ℕ → ℕ → Pair → PairsValue
with_pair_at a owner peer pair =
    record a { pairs = slice_set a.pairs owner (with_pair (pairs_of a owner) peer pair) }

-- the owner's pairs are looked at by this time at the latest
abbrev pub due_by : PairsValue → ℕ → ℕ → PairsValue
due_by a owner time = record a { dues = slice_set a.dues owner (min (slice_index_or a.dues owner never) time) }

-- the pair of an owner and a peer begins anew
abbrev pub begun_at : ℕ → ℕ → ℕ → PairsValue → PairsValue
begun_at now owner peer a =
    due_by (with_pair_at a owner peer (anew now a.longest (pair_at a owner peer))) owner (now + first_pause)

-- the pair of an owner and a peer begins anew with a new connection, and the owner's pairs are looked at now
abbrev pub joined_at : ℕ → ℕ → ℕ → PairsValue → PairsValue
joined_at now owner peer a =
    due_by (with_pair_at a owner peer (joined now a.longest (pair_at a owner peer))) owner now

-- something of the owner's stream has grown
abbrev pub grown : PairsValue → ℕ → ℕ → PairsValue
grown a owner now =
    record (due_by a owner (now + first_pause)) { moved = slice_set a.moved owner now }

-- where something is owed to the peer, the owner's pairs are looked at now
abbrev pub owed_now : ℕ → ℕ → ℕ → PairsValue → PairsValue
owed_now now owner peer a = if owes (pair_at a owner peer) then due_by a owner now else a

-- nothing of the owner's stream has grown for the first pause
abbrev pub is_still : ℕ → ℕ → PairsValue → Bool
is_still now owner a =
    nat_lt owner (length a.moved) && nat_le (slice_index_or a.moved owner 0 + first_pause) now

-- a peer to which there is a new connection is probed soon, but only so long after the last probe
abbrev pub probed_soon : ℕ → ℕ → PairsValue → PairsValue
probed_soon now peer a =
    let due = slice_index_or a.probes peer never in
    record a { probes = slice_set a.probes peer (min due (max (due - (probe_interval - 10000)) (now + 500))) }

-- There is a new connection to a peer: its pair with each owner begins anew, the pairs of each owner are looked at now,
-- and the peer is probed soon.
abbrev pub connected : ℕ → ℕ → PairsValue → PairsValue
connected now peer a =
    probed_soon now peer (record a {
      pairs = map (λ pairs. with_pair pairs peer (joined now a.longest (pair_in pairs peer))) a.pairs;
      dues = map (λ due. min due now) a.dues;
    })

-- when a peer's probes that were due then are due next: where they are due now, an interval later. That one was gathered
-- this doesn't say.
abbrev pub next_probe : ℕ → ℕ → ℕ
next_probe now due = if nat_le due now then now + probe_interval else due

-- a peer's probes have had their time, if they were due
abbrev pub probed : ℕ → ℕ → PairsValue → PairsValue
probed now peer a =
    record a { probes = slice_set a.probes peer (next_probe now (slice_index_or a.probes peer never)) }

-- It is still the same node with as many owners and peers, the same longest pause, and nothing has grown.
pub record IsSameNode (old new : PairsValue) : Type 0 where
  pub me : new.me ≡ old.me
  pub longest : new.longest ≡ old.longest
  pub owners : length new.pairs ≡ length old.pairs
  pub moved : new.moved ≡ old.moved
  pub peers : length new.probes ≡ length old.probes

-- When a peer is probed first: the peers have turns, which begin elsewhere at each node, and all turns end within the
-- time from one probe to the next.
abbrev pub first_probe : ℕ → ℕ → ℕ → ℕ → ℕ
first_probe now nodes me peer =
    let turn = (256 + peer - me) % nodes in now + (turn + 1) * probe_interval / (nodes + 1)

-- the pairs of an owner at first: that of the node with itself has begun, the others wait for a connection
abbrev pub first_pairs : ℕ → ℕ → ℕ → List Pair
first_pairs now nodes me =
    with_pair (replicate nodes new_pair) me (anew now (longest_look nodes) new_pair)

-- all pairs of a node at first
abbrev pub pairs_at_first : ℕ → ℕ → ℕ → PairsValue
pairs_at_first now nodes me = record {
  me = me;
  longest = longest_look nodes;
  pairs = replicate nodes (first_pairs now nodes me);
  dues = replicate nodes (now + first_pause);
  moved = replicate nodes 0;
  probes = map (first_probe now nodes me) (range_with_len 0 nodes);
  turn = 0;
}

-- the least of times
abbrev pub least : List ℕ → ℕ
least [] = never
least (time ∷ times) = min time (least times)

-- when something is due next
abbrev pub next_due : PairsValue → ℕ
next_due a = least (a.dues ++ a.probes)
