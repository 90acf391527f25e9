-- The frames to a peer, and the connection over which they go.
use Rattle.std.specs.Prelude.{◌≡◌, ◌⊎◌, ⊤, ℕ, ◌+◌, ◌-◌, ◌*◌, ◌^◌, nat_le, min, Bool, true, false, if◌then◌else◌}
use Rattle.std.specs.Prelude.{List, [], ◌++◌, length, take, drop, Option, None, Some}
use Rattle.std.specs.Io.KnownBytes.{Appends}
use Rattle.frame_queues.specs.Unsent.{UnsentValue, most_frames, unsent, restarted}
use Rattle.operator_lines.specs.declared.answer.PeerStanding.{PeerStanding}
use Rattle.peer_windows.specs.Pauses.{never}
use Rattle.server_locks.specs.declared.outbox.Link.{Link}
use Rattle.server_locks.specs.declared.outbox.Link.TheVariants.{Later, Begun, Open}

-- frames were put behind the others, as many as there is room for, or for want of memory none
abbrev pub ArePut : List (List ℕ) → UnsentValue → UnsentValue → Type 0
ArePut frames old new = (new ≡ old) ⊎ (new ≡ record old { frames = take most_frames (old.frames ++ frames) })

-- What is still to be written stood behind what is not any more: no byte comes twice, and none before its turn.
pub record GoesOn (old new : UnsentValue) : Type 0 where
  pub count : ℕ
  pub rest : unsent new ≡ drop count (unsent old)

-- A writer took what is not to be written any more, and that stood before the rest: no byte is lost, none comes twice,
-- and none before its turn.
pub record HasGone (from to : Option (List ℕ)) (old new : UnsentValue) : Type 0 where
  pub count : ℕ
  pub taken : Appends from to (take count (unsent old))
  pub rest : unsent new ≡ drop count (unsent old)

-- over a connection frames wait only where it takes no bytes
abbrev pub OnlyFullWaits : Link → Option ℕ → List (List ℕ) → Type 0
OnlyFullWaits (Open stream since) None frames = frames ≡ []
OnlyFullWaits _ _ frames = ⊤

-- for how many frames more there is room, where there is a connection
abbrev pub room_of : Link → List (List ℕ) → Option ℕ
room_of (Open stream since) frames = Some (most_frames - length frames)
room_of _ frames = None

-- when a connection is to be made, or given up if it is not made: at no time where it is open
abbrev pub dials_at : Link → ℕ
dials_at (Later time) = time
dials_at (Begun stream end) = end
dials_at (Open stream since) = never

-- frames go over it
abbrev pub is_open : Link → Bool
is_open (Open stream since) = true
is_open _ = false

-- how the way to a peer stands, without what is heard of it
abbrev pub standing_of : Link → List (List ℕ) → ℕ → ℕ → PeerStanding
standing_of link frames again lost = record {
  connected = is_open link;
  heard = false;
  waiting = length frames;
  again = again;
  lost = lost;
  unopened = 0;
}

-- nothing was written of the frames, or the connection has ended, and the oldest frame begins anew
abbrev pub IsLeft : UnsentValue → UnsentValue → Type 0
IsLeft old new = (new ≡ old) ⊎ (new ≡ restarted old)

-- the pause before the next connection is made, in milliseconds: ten where this one lived for a second
abbrev pub pause_due : ℕ → Link → ℕ → ℕ
pause_due now (Later time) pause = pause
pause_due now (Begun stream end) pause = pause
pause_due now (Open stream since) pause = if nat_le 1000 (now - since) then 10 else pause

-- the next pause is twice as long, a second at most
abbrev pub next_pause : ℕ → ℕ
next_pause pause = min (pause * 2) 1000

-- the next connection is made after this pause
abbrev pub made_after : ℕ → ℕ → Link
made_after now pause = Later (min (now + pause) (2 ^ 64 - 1))
