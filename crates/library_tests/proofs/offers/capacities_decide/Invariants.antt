use Rattle.library_tests.proofs.offers.capacities_decide.Given as goal

-- the ledger is that of the blank
abbrev pub ghosts-without_arrivals : goal.ghosts-without_arrivals
ghosts-without_arrivals g a = record { name = a.blank.name; parts = a.blank.parts }
