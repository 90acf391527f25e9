use Rattle.node_lock.proofs.pool.Pool.run_at_new_node.Given as goal

abbrev pub ghosts-run_with_seats : goal.ghosts-run_with_seats
ghosts-run_with_seats g a = record { name = a.blank.name; parts = a.blank.parts }
