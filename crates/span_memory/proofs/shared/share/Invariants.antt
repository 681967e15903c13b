use Rattle.span_memory.proofs.shared.share.Given as goal

abbrev pub ghosts-shared_once-L-Crew : goal.ghosts-shared_once-L-Crew
ghosts-shared_once-L-Crew g a = record { workers = a.blank.parts }

abbrev pub ghosts-shared_once-L-Ledger : goal.ghosts-shared_once-L-Ledger
ghosts-shared_once-L-Ledger g a = record { name = a.blank.name; parts = a.blank.parts }
