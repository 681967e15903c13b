use Rattle.span_dispatch_tests.proofs.worker.one_goes_on_under_info.Given as goal

abbrev pub ghosts-one_goes_on-L-Crew : goal.ghosts-one_goes_on-L-Crew
ghosts-one_goes_on-L-Crew g a = record { workers = a.blank.parts }

abbrev pub ghosts-one_goes_on-L-Ledger : goal.ghosts-one_goes_on-L-Ledger
ghosts-one_goes_on-L-Ledger g a = record { name = a.blank.name; parts = a.blank.parts }
