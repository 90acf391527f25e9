-- No correct node is taken for one that was begun twice: at each moment its own stream is the beginning of what it had
-- issued, as at any node, and correct nodes vote for that alone.
use Rattle.std.proofs.Common.{◌≡◌, ℕ, ◌<◌, ◌≤◌, ⊎_elim, ◌==◌, List, length, take, slice_get, Some, sym, subst, arith}
use Rattle.std.proofs.Common.{eqb-true}
use Rattle.std.specs.FinSet as sets
use Rattle.std.proofs.lemmas.Bool.{false_from_ne_true, cases_lt}
use Rattle.std.proofs.lemmas.Option.{slice_get_within}
use Rattle.quorum_sizes.specs.NodeSets.{Nodes}
use Rattle.quorum_sizes.specs.Sizes.{Counts}
use Rattle.role_commands.proofs.Exported.{if_some}
use Rattle.role_commands.specs.declared.command.Command.{Command}
use Rattle.link_frames.specs.declared.frames.kind.Kind.{Kind}
use Rattle.link_frames.specs.declared.frames.kind.Kind.TheVariants.{Send, Echo, Ready}
use Rattle.link_frames.specs.declared.frames.packet.Message.{Message}
use Rattle.owner_streams.specs.Laws.{IsPrefixOf}
use Rattle.role_node.proofs.Exported.{begun_twice_is_seen}
use Rattle.role_node.specs.Access.{stream_at}
use Rattle.role_node.specs.Begun.{is_begun_twice, IsSeenAt}
use Rattle.role_node.specs.Configs.{ConfigValue}
use Rattle.role_node.specs.Histories.{issued}
use Rattle.role_node.specs.declared.event.Event.{Event}
use Rattle.byz_world.specs.Begun.{BegunOnce, NobodyVotesAhead, VotedAhead, FewVoteAhead}
use Rattle.byz_world.specs.Runs.{Run, history_of, IsCorrect, IsClusterRun}
use Rattle.byz_world.proofs.Fronts.{fronts_are_runs, front_of_history}
use Rattle.byz_world.proofs.Pooled.{has_sent_is}
use Rattle.byz_world.proofs.Safety.{integrity, correct_among, ready_was_issued}
use Rattle.byz_world.proofs.Votes.{said_by, echo_was_issued}

-- What its history shows.

not_seen : (config : ConfigValue) (liars : Nodes) (run : Run) (node k : ℕ) → IsClusterRun config liars run →
    IsCorrect config liars node → IsSeenAt config.roles.sizes node (history_of node run) k → ⊥
not_seen config liars run node k cluster correct seen =
    let s : Counts = config.roles.sizes in
    let front = front_of_history node run k in
    let own =
    integrity config liars (take front.count run) node node (fronts_are_runs config liars run front.count cluster)
    correct correct in
    let IsAsIssued : List Event → Type 0 = λ past. IsPrefixOf (stream_at s past node) (issued past) in
    seen.1 (subst IsAsIssued (sym front.is) own)

pub begun_once : BegunOnce
begun_once config liars run node cluster correct =
    let s : Counts = config.roles.sizes in
    let history : List Event = history_of node run in
    false_from_ne_true (is_begun_twice s node history) (λ twice.
    let found = (begun_twice_is_seen s node history).seen.0 twice in
    not_seen config liars run node found.0 cluster correct found.1)

-- Votes ahead of what it issued.

said_was_issued : (config : ConfigValue) (liars : Nodes) (run : Run) (kind : Kind) (node owner place : ℕ)
    (c : Command) → IsClusterRun config liars run → IsCorrect config liars owner →
    said_by config.roles.sizes run node kind owner place ≡ Some c →
    slice_get (issued (history_of owner run)) place ≡ Some c
said_was_issued config liars run Send node owner place c cluster correct said =
    let own = if_some (owner == node) (slice_get (issued (history_of node run)) place) c said in
    let same : owner ≡ node = eqb-true owner node own.0 in
    subst (λ n. slice_get (issued (history_of n run)) place ≡ Some c) (sym same) own.1
said_was_issued config liars run Echo node owner place c cluster correct said =
    echo_was_issued config liars run node owner place c cluster correct said
said_was_issued config liars run Ready node owner place c cluster correct said =
    ready_was_issued config liars run cluster node owner place c correct said

pub nobody_votes_ahead : NobodyVotesAhead
nobody_votes_ahead config liars run node m cluster _ correct sent =
    slice_get_within (issued (history_of m.owner run)) m.place m.command
    (said_was_issued config liars run m.kind node m.owner m.place m.command cluster correct
    (has_sent_is config.roles.sizes run node m sent))

liar_votes_ahead : (config : ConfigValue) (liars : Nodes) (run : Run) (owner name : ℕ) →
    IsClusterRun config liars run → IsCorrect config liars owner → IsCorrect config liars name →
    VotedAhead config liars run owner name → ⊥
liar_votes_ahead config liars run owner name cluster correct honest voted =
    let past : Run = take voted.count run in
    let m : Message = voted.message in
    let early : m.place < length (issued (history_of m.owner past)) =
    nobody_votes_ahead config liars past name m (fronts_are_runs config liars run voted.count cluster) honest
    (subst (IsCorrect config liars) (sym voted.about) correct) (voted.link honest) in
    let own : m.place < length (issued (history_of owner past)) =
    subst (λ n. m.place < length (issued (history_of n past))) voted.about early in
    omega (arith, own, voted.ahead)

pub few_vote_ahead : FewVoteAhead
few_vote_ahead config liars run owner names cluster correct are voted =
    let s : Counts = config.roles.sizes in
    ⊎_elim
    (λ (many : s.liars < sets.len names).
    let one = correct_among config liars run cluster names are many in
    absurd (liar_votes_ahead config liars run owner one.0 cluster correct one.1 (voted one.0 one.2)))
    (λ (few : sets.len names ≤ s.liars). few)
    (cases_lt s.liars (sets.len names))
