use Rattle.std.proofs.Common.{◌≡◌, ◌∙◌, ap}
use Rattle.std.specs.Prelude.{◌&&◌, ◌==◌, nat_le}
use Rattle.role_node.specs.Windows.{last_vote_at, voted_to}
use Rattle.peer_windows.specs.Sent.{reach_of}
use Rattle.peer_windows.proofs.Settling.{none_outstanding}
use Rattle.peer_windows.proofs.peer_sent.seen_of.Goals as goal

pub returns-clause-settled : goal.returns-clause-settled
returns-clause-settled g c =
    let h = c.args.locked.now in
    let voted : c.vote_end.result ≡ voted_to (last_vote_at h.node.history c.args.owner c.args.peer) =
    c.vote_end.ensures ∙ ap voted_to c.last_vote.ensures.value in
    ap (λ r. nat_le r c.vote_end.result && (c.args.look.now.outstanding == 0)) c.requires.look.reach
    ∙ ap (λ v. nat_le (reach_of h c.args.owner) v && (c.args.look.now.outstanding == 0)) voted
    ∙ ap (λ b. nat_le (reach_of h c.args.owner) (voted_to (last_vote_at h.node.history c.args.owner c.args.peer)) && b)
    (none_outstanding h c.args.owner c.args.look.now.outstanding c.requires.look.outstanding)
