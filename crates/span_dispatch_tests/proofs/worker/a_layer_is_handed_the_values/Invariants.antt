use Rattle.span_dispatch_tests.proofs.worker.a_layer_is_handed_the_values.Given as goal

abbrev pub ghosts-numbers_handed-L-Crew : goal.ghosts-numbers_handed-L-Crew
ghosts-numbers_handed-L-Crew g a = record { workers = a.blank.parts }

abbrev pub ghosts-numbers_handed-L-Ledger : goal.ghosts-numbers_handed-L-Ledger
ghosts-numbers_handed-L-Ledger g a = record { name = a.blank.name; parts = a.blank.parts }
