use Rattle.library_tests.proofs.offers.arrivals_to_come_are_counted.Given as goal

-- the ledger is that of the blank
abbrev pub ghosts-with_an_alarm : goal.ghosts-with_an_alarm
ghosts-with_an_alarm g a = record { name = a.blank.name; parts = a.blank.parts }
