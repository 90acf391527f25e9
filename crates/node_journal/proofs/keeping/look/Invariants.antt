use Rattle.node_journal.proofs.keeping.look.Given as goal

abbrev pub ghosts-look_at : goal.ghosts-look_at
ghosts-look_at g a = record { name = a.blank.name; parts = a.blank.parts }
