use Rattle.journal_rows.proofs.life.live.Given as goal

abbrev pub ghosts-live_at : goal.ghosts-live_at
ghosts-live_at g a = record { name = a.blank.name; parts = a.blank.parts }
