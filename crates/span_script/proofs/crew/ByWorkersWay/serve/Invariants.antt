use Rattle.span_script.proofs.crew.ByWorkersWay.serve.Given as goal

abbrev pub ghosts-serve-L-Crew : goal.ghosts-serve-L-Crew
ghosts-serve-L-Crew g a = record { workers = a.blank.parts }

abbrev pub ghosts-serve-L-Ledger : goal.ghosts-serve-L-Ledger
ghosts-serve-L-Ledger g a = record { name = a.blank.name; parts = a.blank.parts }
