use Rattle.std.proofs.Common.{Some, ap, sym, ◌∙◌}
use Rattle.byz_world.proofs.Making.{new_ring_is}
use Rattle.byz_world.proofs.keys.keys_due.Goals as goal

pub returns : goal.returns
returns c =
    ap Some c.in_ok-lab_keys.ensures
    ∙ new_ring_is c.args.sizes.now c.args.liars.now c.args.name c.requires (sym c.contains.ensures
    ∙ c.if-contains.false)
