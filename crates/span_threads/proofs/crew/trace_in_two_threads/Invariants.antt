use Rattle.span_threads.proofs.crew.trace_in_two_threads.Given as goal

abbrev pub ghosts-share_recorded-L-Crew : goal.ghosts-share_recorded-L-Crew
ghosts-share_recorded-L-Crew g a = record { workers = a.blank.parts }

abbrev pub ghosts-share_recorded-L-Ledger : goal.ghosts-share_recorded-L-Ledger
ghosts-share_recorded-L-Ledger g a = record { name = a.blank.name; parts = a.blank.parts }
