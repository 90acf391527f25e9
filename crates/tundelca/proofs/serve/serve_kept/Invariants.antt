use Rattle.tundelca.proofs.serve.serve_kept.Given as goal

abbrev pub ghosts-serve_kept_at : goal.ghosts-serve_kept_at
ghosts-serve_kept_at g a = record { name = a.blank.name; parts = a.blank.parts }
