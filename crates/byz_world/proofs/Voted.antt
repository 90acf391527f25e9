-- What the votes that stand in a node's history say: of who sent them, and of the node.
use Rattle.std.proofs.Common.{◌≡◌, ℕ, ◌+◌, ◌<◌, ◌≤◌, true, take, Option, Some, None, refl, sym, subst, arith}
use Rattle.std.specs.Prelude.{Contains}
use Rattle.std.proofs.lemmas.Bool.{leb-false}
use Rattle.quorum_sizes.specs.Sizes.{Counts}
use Rattle.quorum_sizes.specs.NodeSets.{Nodes}
use Rattle.link_frames.specs.frames.Packets.{PacketValue, message_of}
use Rattle.owner_streams.proofs.Exported.{is_vote, last_vote-stands, last_vote-most}
use Rattle.owner_streams.specs.LastVotes.{vote_place}
use Rattle.owner_streams.specs.Places.{window}
use Rattle.role_node.specs.Configs.{ConfigValue}
use Rattle.role_node.specs.Histories.{packets}
use Rattle.role_node.specs.Windows.{last_vote_at, voted_to}
use Rattle.byz_world.specs.Runs.{Run, history_of, reach_of, is_correct, IsClusterRun}
use Rattle.byz_world.specs.Windows.{VoteShowsReach}
use Rattle.byz_world.proofs.Histories.{taken_event, taken_in_run}
use Rattle.byz_world.proofs.Idle.{taken_is_open}
use Rattle.byz_world.proofs.Pooled.{has_sent_is}
use Rattle.byz_world.proofs.Progress.{sent_within}
use Rattle.byz_world.proofs.Votes.{said_by, said_stays}

-- all places to which there is a vote are below this one
voted_below : (last : Option ℕ) (end : ℕ) → ((place : ℕ) → last ≡ Some place → place < end) → voted_to last ≤ end
voted_below None end each = omega arith
voted_below (Some place) end each = omega (arith, each place refl)

module _ (config : ConfigValue) (liars : Nodes) (run : Run) (cluster : IsClusterRun config liars run) where
  abbrev s : Counts
  s = config.roles.sizes

  abbrev IsHonest : ℕ → Type 0
  IsHonest name = is_correct s liars name ≡ true

  -- what was taken in the name of a correct node, that node has sent
  taken_was_said : (node : ℕ) (p : PacketValue) → Contains (packets (history_of node run)) p → IsHonest p.from →
      said_by s run p.from p.kind p.owner p.place ≡ Some p.command
  taken_was_said node p taken honest =
      let from = taken_in_run run node p taken in
      said_stays s from.0 run p.from p.kind p.owner p.place p.command
      (has_sent_is s (take from.0 run) p.from (message_of p) (cluster.links from.0 node p from.2 honest))

  -- the last vote shows how far its sender reaches ..
  pub last_shows_reach : (node owner voter place : ℕ) → IsHonest voter →
      last_vote_at (history_of node run) owner voter ≡ Some place → place < reach_of config run voter owner + window
  last_shows_reach node owner voter place honest last =
      let one = last_vote-stands owner voter (packets (history_of node run)) place last in
      let p : PacketValue = one.0 in
      let vote = is_vote owner voter place p one.2 in
      let there : p.place < reach_of config run p.from p.owner + window =
      sent_within config liars run cluster p.from p.kind p.owner p.place p.command (λ send. absurd (vote.no_send send))
      (taken_was_said node p one.1 (subst IsHonest (sym vote.from_voter) honest)) in
      let P : ℕ → ℕ → ℕ → Type 0 = λ name o k. k < reach_of config run name o + window in
      subst (λ name. P name owner place) vote.from_voter
      (subst (λ o. P p.from o place) vote.of_owner (subst (P p.from p.owner) vote.at_place there))

  -- .. and the node itself
  last_is_open : (node owner voter place : ℕ) → last_vote_at (history_of node run) owner voter ≡ Some place →
      place < reach_of config run node owner + window
  last_is_open node owner voter place last =
      let one = last_vote-stands owner voter (packets (history_of node run)) place last in
      let p : PacketValue = one.0 in
      let vote = is_vote owner voter place p one.2 in
      let at = taken_event run node p one.1 in
      let there : p.place < reach_of config run node p.owner + window =
      leb-false _ _ (taken_is_open config node (history_of node run) p at.0 (cluster.legal node) at.1).within in
      let P : ℕ → ℕ → Type 0 = λ o k. k < reach_of config run node o + window in
      subst (λ o. P o place) vote.of_owner (subst (P p.owner) vote.at_place there)

  -- how far a node has voted, by what another one took
  abbrev pub voted : ℕ → ℕ → ℕ → ℕ
  voted node owner voter = voted_to (last_vote_at (history_of node run) owner voter)

  pub voted_by_reach : (node owner voter : ℕ) → IsHonest voter →
      voted node owner voter ≤ reach_of config run voter owner + window
  voted_by_reach node owner voter honest =
      voted_below _ _ (λ place last. last_shows_reach node owner voter place honest last)

  pub voted_is_open : (node owner voter : ℕ) → voted node owner voter ≤ reach_of config run node owner + window
  voted_is_open node owner voter = voted_below _ _ (λ place last. last_is_open node owner voter place last)

  -- a vote that was taken is not behind the last one
  pub vote_counts : (node owner voter place : ℕ) (p : PacketValue) → Contains (packets (history_of node run)) p →
      vote_place owner voter p ≡ Some place → place < voted node owner voter
  vote_counts node owner voter place p taken is =
      let most = last_vote-most owner voter (packets (history_of node run)) p place taken is in
      let P : Option ℕ → Type 0 = λ last. place < voted_to last in
      subst P (sym most.1) (omega (arith, most.2))

pub vote_shows_reach : VoteShowsReach
vote_shows_reach config liars run node owner voter place cluster honest last =
    last_shows_reach config liars run cluster node owner voter place honest last
