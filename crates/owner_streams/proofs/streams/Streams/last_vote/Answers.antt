use Rattle.std.proofs.Common.{◌∙◌, subst}
use Rattle.owner_streams.specs.Values.{IsStateOf}
use Rattle.owner_streams.proofs.VoteEnds.{one_last_vote}
use Rattle.owner_streams.proofs.streams.Streams.last_vote.Goals as goal

pub returns-clause-due : goal.returns-clause-due
returns-clause-due c packets is =
    let known = c.self.invariant.ends in
    c.last_vote.ensures.due known.0 known.2
    ∙ one_last_vote c.args.self.now c.args.owner c.args.voter known.0 packets
    (subst (λ v. IsStateOf v known.0) c.self.view_is known.1) is
