use Rattle.std.proofs.Common.{◌∙◌, subst, sym, ◌<◌, ◌≡◌, bit_and}
use Rattle.std.specs.FinSet as sets
use Rattle.quorum_sizes.specs.NodeSets.{Nodes}
use Rattle.quorum_sizes.specs.inside.NodeWords.{names_in}
use Rattle.quorum_sizes.proofs.NodeMasks.{names_in-and}
use Rattle.quorum_sizes.proofs.NodeCounts.{quorums_share}
use Rattle.quorum_sizes.proofs.node_set.quorums_meet.Goals as goal

pub returns-clause-common : goal.returns-clause-common
returns-clause-common c =
    names_in-and c.a.inside.word c.b.inside.word
    ∙ (λ i. sets.intersection (c.a.view_is i) (c.b.view_is i))

pub returns-clause-share : goal.returns-clause-share
returns-clause-share c are_a are_b many_a many_b =
    let common : names_in (bit_and c.a.inside.word c.b.inside.word) ≡ sets.intersection c.args.a.now c.args.b.now =
    names_in-and c.a.inside.word c.b.inside.word ∙ (λ i. sets.intersection (c.a.view_is i) (c.b.view_is i)) in
    subst (λ (names : Nodes). c.args.sizes.now.liars < sets.len names) (sym common)
    (quorums_share c.args.sizes.now c.n-n.ensures.sizes c.args.a.now c.args.b.now are_a are_b many_a many_b)
