use Rattle.cluster_text.specs.Shapes.{key_of, port_of}
use Rattle.cluster_text.proofs.shape.links_of.Given as goal

abbrev pub ghost-items_of : goal.ghost-items_of
ghost-items_of a = key_of

abbrev pub ghost-items_of-2 : goal.ghost-items_of-2
ghost-items_of-2 a = port_of
