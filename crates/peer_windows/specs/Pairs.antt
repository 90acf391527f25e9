-- What is sent to a peer about an owner's stream, by what is seen of them at a look.
use Rattle.std.specs.Prelude.{ℕ, ◌+◌, ◌==◌, Bool, true, false, not, ◌&&◌, ◌||◌, nat_le, nat_lt, if◌then◌else◌}
use Rattle.std.specs.Prelude.{None}
use Rattle.peer_windows.specs.Pauses.{first_pause, never, new_pause, begun, renewed, eased, ended_by}
use Rattle.peer_windows.specs.Pauses.{lasting_to, asleep}
use Rattle.peer_windows.specs.declared.seen.Seen.{Seen}
use Rattle.peer_windows.specs.declared.seen.Step.{Step}
use Rattle.peer_windows.specs.declared.seen.Step.TheVariants.{Nothing, Tail, Window}
use Rattle.peer_windows.specs.declared.pair.Pair.{Pair}

-- the peer has voted as far as the stream reaches, and nothing was sent from there on
abbrev pub seems_settled : Seen → Bool
seems_settled seen = nat_le seen.reach seen.voted && seen.outstanding == 0

abbrev pub is_same : Seen → Seen → Bool
is_same old new = (old.reach == new.reach && old.voted == new.voted) && old.outstanding == new.outstanding

-- the stream is held up here: something was outstanding at the last look too, at the same reach
abbrev pub is_held_up : Seen → Seen → Bool
is_held_up old new = (nat_lt 0 old.outstanding && nat_lt 0 new.outstanding) && old.reach == new.reach

-- the peer was behind at the last look, and has not voted since
abbrev pub is_silent : Seen → Seen → Bool
is_silent old new = old.voted == new.voted && nat_lt new.voted old.reach

-- something has grown, and nothing is held up: the pair goes on by itself
abbrev pub goes_on : Seen → Seen → Bool
goes_on old new = not (is_silent old new) && not (is_held_up old new) && not (is_same old new)

abbrev pub is_nothing : Step → Bool
is_nothing Nothing = true
is_nothing step = false

-- nothing was seen of it yet, and nothing is looked at
abbrev pub new_pair : Pair
new_pair = record {
  seen = record { reach = 0; voted = 0; outstanding = 0 };
  look = asleep;
  tailed = false;
  over_new = false;
  silent = false;
  served = None;
  served_until = 0;
  answer = new_pause;
  answered = 0;
  moving_until = 0;
  probe_level = record { reach = 0; voted = 0 };
  probe_until = 0;
  beyond = new_pause;
  beyond_level = record { reach = 0; voted = 0 };
  owed = Nothing;
}

-- it is looked at after the first pause, and the tail comes first
abbrev pub anew : ℕ → ℕ → Pair → Pair
anew now longest pair = record pair { look = begun now longest (renewed pair.look); tailed = false }

-- there is a new connection to the peer: it begins anew and is looked at now, whatever goes on
abbrev pub joined : ℕ → ℕ → Pair → Pair
joined now longest pair =
    let begun = anew now longest pair in record begun { look = ended_by now begun.look; over_new = true }

-- the pair goes on by itself, and something may have gone over the connection
abbrev pub is_left : Seen → Pair → Bool
is_left seen pair = goes_on pair.seen seen && not pair.over_new

-- what a look at a pair that is not settled and doesn't go on brings: first the tail, then the window
abbrev pub insisting : Pair → Step
insisting pair = if pair.tailed then Window else Tail

-- what a look brings
abbrev pub step_due : Seen → Pair → Step
step_due seen pair = if is_left seen pair || seems_settled seen then Nothing else insisting pair

-- this is sent at the next look, whatever is seen then
abbrev pub owing : Step → Pair → Pair
owing step pair = record pair { owed = step }

-- no window goes as an answer for a pause from a time on
abbrev pub holding_answers : ℕ → Pair → Pair
holding_answers now pair = record pair { answer = lasting_to (now + pair.answer.length) pair.answer }

-- The next pause has begun, the second one again where the peer has voted.
abbrev pub insisted : ℕ → ℕ → Bool → Pair → Pair
insisted now longest has_voted pair =
    let look = begun now longest (if has_voted then eased pair.look else pair.look) in
    if pair.tailed then holding_answers now (record pair { look = look })
    else record pair { look = look; tailed = true }

-- The pair after a look: it begins anew where it goes on, sleeps where it is settled, and else waits longer.
abbrev pub looked : ℕ → ℕ → Seen → Pair → Pair
looked now longest seen pair =
    if is_left seen pair then anew now longest (record pair { seen = seen; silent = false })
    else (if seems_settled seen
    then record pair { seen = seen; silent = false; tailed = false; over_new = false; look = asleep }
    else insisted now longest (nat_lt pair.seen.voted seen.voted)
    (record pair { seen = seen; silent = is_silent pair.seen seen; over_new = false }))

-- something is owed, or it is time for a look
abbrev pub is_due : ℕ → Pair → Bool
is_due now pair = not (is_nothing pair.owed) || nat_le pair.look.until now

-- it is time for a look, or the pair sleeps and something has changed
abbrev pub is_looked_at : ℕ → Seen → Pair → Bool
is_looked_at now seen pair =
    nat_le pair.look.until now || (pair.look.until == never && not (is_same seen pair.seen))

-- what has changed brings the next look forward; of a silent peer only its vote does
abbrev pub is_brought_forward : Seen → Pair → Bool
is_brought_forward seen pair =
    nat_lt pair.seen.voted seen.voted || (not (is_same seen pair.seen) && not pair.silent)

-- what is sent when this is seen: what is owed, and else what a look brings
abbrev pub attended_step : ℕ → Seen → Pair → Step
attended_step now seen pair =
    if is_nothing pair.owed then (if is_looked_at now seen pair then step_due seen pair else Nothing) else pair.owed

abbrev pub attended : ℕ → ℕ → Seen → Pair → Pair
attended now longest seen pair =
    if is_nothing pair.owed then
    (if is_looked_at now seen pair then looked now longest seen pair
    else (if is_brought_forward seen pair
    then record pair { look = ended_by (now + first_pause) pair.look } else pair))
    else record pair { owed = Nothing }
