-- What gathering makes of the pairs: which are looked at, what a look brings, and when the next one is due.
use Rattle.std.specs.Prelude.{◌≡◌, ◌<◌, ◌≤◌, ◌⊎◌, ℕ, ◌+◌, true, List, length, Option, Some, None, is_some}
use Rattle.std.specs.Prelude.{slice_index_or}
use Rattle.std.specs.List.{Contains}
use Rattle.role_node.specs.Windows.{last_vote_at, voted_to, window_to}
use Rattle.node_lock.specs.Holds.{Held}
use Rattle.node_lock.specs.Views.{node_count}
use Rattle.peer_windows.specs.Pauses.{never}
use Rattle.peer_windows.specs.Pairs.{is_nothing, attended, attended_step, owing}
use Rattle.peer_windows.specs.Answers.{served}
use Rattle.peer_windows.specs.Sent.{reach_of, outstanding_of}
use Rattle.peer_windows.specs.Owed.{OwedValue, step_messages, is_full}
use Rattle.peer_windows.specs.Owners.{PairsValue, pairs_of, pair_at}
use Rattle.peer_windows.specs.declared.owed.Share.{Share}
use Rattle.peer_windows.specs.declared.pair.Pair.{Pair}
use Rattle.peer_windows.specs.declared.seen.Seen.{Seen}
use Rattle.peer_windows.specs.declared.seen.Step.{Step}
use Rattle.peer_windows.specs.declared.seen.Step.TheVariants.{Nothing, Probe, Tail, Window, Rest}

-- what is seen of a peer beside an owner's stream
abbrev pub seen_at : Held → ℕ → ℕ → Seen
seen_at h owner peer = record {
  reach = reach_of h owner;
  voted = voted_to (last_vote_at h.node.history owner peer);
  outstanding = outstanding_of h owner;
}

-- how many messages a peer takes, and `None` where there is no connection to it
abbrev pub room_at : List (Option ℕ) → ℕ → Option ℕ
room_at rooms peer = slice_index_or rooms peer None

abbrev pub free_in : Option ℕ → ℕ
free_in None = 0
free_in (Some free) = free

-- a peer is sent something where it takes so many
abbrev pub enough_room : ℕ
enough_room = 512

-- so long after a look an owner's pairs are looked at again of which a peer had no room, in milliseconds
abbrev pub next_room : ℕ
next_room = 10

-- when an owner's pairs are looked at next
abbrev pub due_at : PairsValue → ℕ → ℕ
due_at a owner = slice_index_or a.dues owner never

-- what a step has the node send to a peer about an owner's stream
abbrev pub share_of : Held → ℕ → ℕ → Step → Share
share_of h owner peer step =
    record { owner = owner; peer = peer; step = step; count = length (step_messages h owner peer step) }

-- the pair when that was sent: of a window it is kept how far the peer had voted, and where the window ended
abbrev pub after_sending : Held → ℕ → ℕ → ℕ → Step → Pair → Pair
after_sending h now owner peer Nothing pair = pair
after_sending h now owner peer Probe pair = pair
after_sending h now owner peer Tail pair = pair
after_sending h now owner peer Window pair =
    let last = last_vote_at h.node.history owner peer in served now (voted_to last) (window_to last) pair
after_sending h now owner peer (Rest from) pair =
    let last = last_vote_at h.node.history owner peer in served now (voted_to last) (window_to last) pair

-- there is a connection to a peer, it and the owner are nodes, and there is a pair of them
pub record IsReached (h : Held) (a : PairsValue) (owner peer : ℕ) (room : Option ℕ) : Type 0 where
  pub owner_known : owner < node_count h
  pub peer_known : peer < node_count h
  pub pair : peer < length (pairs_of a owner)
  pub connected : is_some room ≡ true

-- A look at a pair has brought nothing, and the owner is due by the next one.
pub record IsQuiet (due : ℕ) (step : Step) (looked new : Pair) : Type 0 where
  pub nothing : is_nothing step ≡ true
  pub pair : new ≡ looked
  pub in_time : due ≤ new.look.until

-- What it has brought is among what is gathered, and the owner is due by the next one.
pub record IsSent (h : Held) (now owner peer : ℕ) (owed : OwedValue) (due : ℕ) (step : Step) (looked new : Pair) :
    Type 0 where
  pub share : Contains owed.shares (share_of h owner peer step)
  pub pair : new ≡ after_sending h now owner peer step looked
  pub in_time : due ≤ new.look.until

-- The peer has not enough room, so that is owed to it, and the owner is due soon.
pub record IsPutOff (now : ℕ) (room : Option ℕ) (due : ℕ) (step : Step) (looked new : Pair) : Type 0 where
  pub short : free_in room < enough_room
  pub pair : new ≡ owing step looked
  pub in_time : due ≤ now + next_room

-- an owner is due when one of its pairs is, or soon, or never
abbrev pub IsTime : ℕ → ℕ → PairsValue → ℕ → Type 0
IsTime now time a owner =
    (time ≡ never) ⊎ (time ≡ now + next_room) ⊎ ((peer : ℕ) × (time ≡ (pair_at a owner peer).look.until))

-- A pair was looked at.
abbrev pub IsLookedAt : Held → ℕ → ℕ → ℕ → ℕ → Option ℕ → OwedValue → ℕ → Pair → Pair → Type 0
IsLookedAt h now longest owner peer room owed due old new =
    let seen = seen_at h owner peer in
    let step = attended_step now seen old in
    let looked = attended now longest seen old in
    IsQuiet due step looked new ⊎ IsSent h now owner peer owed due step looked new
    ⊎ IsPutOff now room due step looked new

-- The pairs of an owner were looked at where there is a connection to their peers, and it is due again when one of its
-- pairs is, or soon, or never.
pub record IsOwnerLookedAt (h : Held) (now : ℕ) (before after : List (Option ℕ)) (owed : OwedValue)
    (old new : PairsValue) (owner : ℕ) : Type 0 where
  pub pairs : (peer : ℕ) → IsReached h old owner peer (room_at before peer) →
      IsLookedAt h now old.longest owner peer (room_at after peer) owed (due_at new owner) (pair_at old owner peer)
      (pair_at new owner peer)
  pub time : IsTime now (due_at new owner) new owner

-- the pairs of an owner stay, and when it is due
pub record IsOwnerStill (old new : PairsValue) (owner : ℕ) : Type 0 where
  pub pairs : (peer : ℕ) → pair_at new owner peer ≡ pair_at old owner peer
  pub time : due_at new owner ≡ due_at old owner

-- Each owner that is due was looked at, unless no more is gathered at once: then it stays due. What is not due stays,
-- and so does each pair to whose peer there is no connection.
pub record AreLookedAt (h : Held) (now : ℕ) (before after : List (Option ℕ)) (owed : OwedValue) (old new : PairsValue) :
    Type 0 where
  pub due : (owner : ℕ) → due_at old owner ≤ now → IsOwnerLookedAt h now before after owed old new owner
      ⊎ (is_full owed ≡ true × IsOwnerStill old new owner)
  pub later : (owner : ℕ) → now < due_at old owner → IsOwnerStill old new owner
  pub apart : (owner peer : ℕ) → room_at before peer ≡ None → pair_at new owner peer ≡ pair_at old owner peer
