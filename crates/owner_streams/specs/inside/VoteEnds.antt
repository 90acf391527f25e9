-- How the last votes are kept. Serves the code, and no public contract.
use Rattle.std.specs.Prelude.{◌≡◌, ℕ, ◌+◌, ◌*◌, ◌<◌, ◌≤◌, List, length, slice_index_or, All, Option, Some, None}
use Rattle.quorum_sizes.specs.Sizes.{Counts}
use Rattle.link_frames.specs.frames.Packets.{PacketValue, place_count}
use Rattle.owner_streams.specs.LastVotes.{last_vote}
use Rattle.owner_streams.specs.declared.vote_ends.VoteEnds.{VoteEnds}

-- how many places there are up to a last vote
abbrev pub voted_to : Option ℕ → ℕ
voted_to None = 0
voted_to (Some place) = place + 1

-- the number that is kept of an owner's stream and a voter: each owner has a row
abbrev pub end_at : Counts → VoteEnds → ℕ → ℕ → ℕ
end_at s a owner voter = slice_index_or a.ends.items (owner * s.nodes + voter) 0

-- It is how many places there are up to the voter's last vote among these packets.
pub record AreEndsOf (s : Counts) (packets : List PacketValue) (a : VoteEnds) : Type 0 where
  pub one_each : length a.ends.items ≡ s.nodes * s.nodes
  pub each : (owner voter : ℕ) → owner < s.nodes → voter < s.nodes
      → end_at s a owner voter ≡ voted_to (last_vote owner voter packets)
  pub in_range : All (λ end. end ≤ place_count) a.ends.items
