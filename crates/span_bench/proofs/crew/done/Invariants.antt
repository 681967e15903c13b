use Rattle.span_bench.proofs.crew.done.Given as goal

abbrev pub ghosts-done_by_vetoing-L-Crew : goal.ghosts-done_by_vetoing-L-Crew
ghosts-done_by_vetoing-L-Crew g a = record { workers = a.blank.parts }

abbrev pub ghosts-done_by_vetoing-L-Ledger : goal.ghosts-done_by_vetoing-L-Ledger
ghosts-done_by_vetoing-L-Ledger g a = record { name = a.blank.name; parts = a.blank.parts }
