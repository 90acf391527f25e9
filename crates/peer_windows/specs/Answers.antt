-- What a frame of the peer brings.
use Rattle.std.specs.Prelude.{ℕ, ◌+◌, ◌==◌, Bool, not, ◌&&◌, nat_le, nat_lt, if◌then◌else◌}
use Rattle.std.specs.Prelude.{Option, Some, None}
use Rattle.peer_windows.specs.Pauses.{PauseValue, first_pause, begun, renewed, ended_by}
use Rattle.peer_windows.specs.Pauses.{longest_answer, longest_beyond, probe_span}
use Rattle.peer_windows.specs.Pairs.{is_nothing, holding_answers}
use Rattle.peer_windows.specs.declared.seen.Level.{Level}
use Rattle.peer_windows.specs.declared.seen.Step.TheVariants.{Tail, Window, Rest}
use Rattle.peer_windows.specs.declared.pair.Pair.{Pair}
use Rattle.peer_windows.specs.declared.pair.Served.{Served}
use Rattle.peer_windows.specs.declared.answers.Repeat.{Repeat}

abbrev pub same_level : Level → Level → Bool
same_level a b = a.reach == b.reach && a.voted == b.voted

-- a peer that catches up gets its next window when it has voted so much further
abbrev pub catch_up : ℕ
catch_up = 32

-- the tail is owed, unless more is
abbrev pub owing_tail : Pair → Pair
owing_tail pair = if is_nothing pair.owed then record pair { owed = Tail } else pair

-- The pause between windows as answers, where the peer has voted so far: it is the first again where that is further
-- than at the last answer.
abbrev pub answer_pause : ℕ → Pair → PauseValue
answer_pause voted pair =
    if nat_lt pair.answered voted then ended_by pair.served_until (renewed pair.answer) else pair.answer

-- the peer is behind: it is owed its window, once in a pause
abbrev pub heard_behind : ℕ → ℕ → Pair → Pair
heard_behind now voted pair =
    let answer = answer_pause voted pair in
    let answered = if nat_lt pair.answered voted then voted else pair.answered in
    if nat_le answer.until now
    then record pair { answered = answered; answer = begun now longest_answer answer; owed = Window }
    else record pair { answered = answered; answer = answer }

-- a pause that is the first again, and over, where a level has changed
abbrev pub level_pause : ℕ → Level → Level → PauseValue → PauseValue
level_pause now old new pause = if same_level new old then pause else ended_by now (renewed pause)

-- A peer that is settled too sends its READY at the last place, and nothing else, and so once in a minute: so what is
-- that and comes alone is taken for a probe. (The span is longer than each pause between looks.)
abbrev pub is_lone : ℕ → Level → Repeat → Pair → Bool
is_lone now level repeat pair =
    (repeat.is_ready && repeat.place + 1 == level.reach)
    && not (same_level pair.probe_level level && nat_lt now pair.probe_until)

-- The peer has sent again what changes nothing here. So it is not settled, unless that is a probe; and it is behind, or
-- this node is, unless it gets on by itself: a vote of it has counted a moment ago.
abbrev pub heard : ℕ → Level → Repeat → Pair → Pair
heard now level repeat pair =
    if is_lone now level repeat pair then record pair { probe_level = level; probe_until = now + probe_span }
    else (if nat_lt now pair.moving_until then pair else heard_behind now level.voted pair)

-- the peer is further: it is owed the tail, once in a pause
abbrev pub passed : ℕ → Level → Pair → Pair
passed now level pair =
    let beyond = level_pause now pair.beyond_level level pair.beyond in
    if nat_le beyond.until now
    then owing_tail (record pair { beyond_level = level; beyond = begun now longest_beyond beyond })
    else record pair { beyond_level = level; beyond = beyond }

-- a window was sent
abbrev pub served : ℕ → ℕ → ℕ → Pair → Pair
served now voted end pair =
    record pair { served = Some (record { voted = voted; end = end }); served_until = now + first_pause }

-- a vote of the peer has counted
abbrev pub moved_on : ℕ → Pair → Pair
moved_on now pair = record pair { moving_until = now + first_pause }

-- the peer has voted, after this last window
abbrev pub voted_since : ℕ → Level → Option Served → Pair → Pair
voted_since now level None pair = pair
voted_since now level (Some last) pair =
    if nat_le level.reach level.voted then record pair { served = None }
    else (if nat_le (last.voted + catch_up) level.voted && is_nothing pair.owed
    then holding_answers now (record pair { owed = Rest last.end }) else pair)

abbrev pub voted_on : ℕ → Level → Pair → Pair
voted_on now level pair = voted_since now level pair.served pair
