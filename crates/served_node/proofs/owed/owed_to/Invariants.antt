use Rattle.std.specs.Prelude.{◌≡◌, ◌++◌, drop}
use Rattle.served_node.specs.Sent.{owed_to}
use Rattle.served_node.proofs.owed.owed_to.Given as goal

abbrev pub invariant-loop-share : goal.invariant-loop-share
invariant-loop-share l =
    l.made.items ++ owed_to l.peer (drop l.share-index l.shares) l.rest ≡ owed_to l.peer l.shares l.messages
