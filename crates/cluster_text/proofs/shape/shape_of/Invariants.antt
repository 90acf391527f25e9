use Rattle.cluster_text.specs.Shapes.{pair_of}
use Rattle.cluster_text.proofs.shape.shape_of.Given as goal

abbrev pub ghost-items_of : goal.ghost-items_of
ghost-items_of a = pair_of
