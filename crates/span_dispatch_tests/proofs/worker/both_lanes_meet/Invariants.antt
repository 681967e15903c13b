use Rattle.span_dispatch_tests.proofs.worker.both_lanes_meet.Given as goal

abbrev pub ghosts-two_meet-L-Crew : goal.ghosts-two_meet-L-Crew
ghosts-two_meet-L-Crew g a = record { workers = a.blank.parts }

abbrev pub ghosts-two_meet-L-Ledger : goal.ghosts-two_meet-L-Ledger
ghosts-two_meet-L-Ledger g a = record { name = a.blank.name; parts = a.blank.parts }
