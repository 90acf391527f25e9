use Rattle.serving_rows.proofs.lock.answer.Given as goal

abbrev pub ghosts-answer_last : goal.ghosts-answer_last
ghosts-answer_last a = record { name = a.blank.name; parts = a.blank.parts }
