use Rattle.span_memory.proofs.shared.after.Given as goal

abbrev pub ghosts-shared_with_one-L-Crew : goal.ghosts-shared_with_one-L-Crew
ghosts-shared_with_one-L-Crew g a = record { workers = a.blank.parts }

abbrev pub ghosts-shared_with_one-L-Ledger : goal.ghosts-shared_with_one-L-Ledger
ghosts-shared_with_one-L-Ledger g a = record { name = a.blank.name; parts = a.blank.parts }
