use Rattle.std.proofs.Common.{◌≡◌, ◌*◌, ◌∙◌, ap}
use Rattle.std.specs.Prelude.{replicate}
use Rattle.owner_streams.proofs.VoteEnds.{ends_none}
use Rattle.owner_streams.proofs.vote_ends.VoteEnds.new.Goals as goal

pub returns : goal.returns
returns c =
    let nodes : c.from-nodes.result ≡ c.args.sizes.now.nodes = c.from-nodes.ensures ∙ c.n.ensures.value in
    ends_none c.args.sizes.now (record { ends = c.in_ok-vec.field-0 })
    (c.in_ok-vec.ensures.items_if_clones_equal (λ y same. same) ∙ ap (λ n. replicate (n * n) 0) nodes)
