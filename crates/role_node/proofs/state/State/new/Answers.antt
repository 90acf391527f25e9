use Rattle.std.proofs.Common.{◌∙◌}
use Rattle.role_node.proofs.StateLemmas.{parts_of_nothing}
use Rattle.role_node.proofs.state.State.new.Goals as goal

pub returns : goal.returns
returns c =
    parts_of_nothing c.args.roles c.new-2.ensures.items (c.in_ok-streams.ensures.sizes
    ∙ c.sizes.ensures.value) c.in_ok-streams.ensures.state
    c.new-3.ensures c.new-4.ensures.state c.new-4.ensures.kept
