use Rattle.span_dispatch_tests.proofs.nested.opened_by.Given as goal

abbrev pub ghosts-by_worker-C-Crew : goal.ghosts-by_worker-C-Crew
ghosts-by_worker-C-Crew g a = record { workers = a.blank.parts }

abbrev pub ghosts-by_worker-C-Ledger : goal.ghosts-by_worker-C-Ledger
ghosts-by_worker-C-Ledger g a = record { name = a.blank.name; parts = a.blank.parts }
