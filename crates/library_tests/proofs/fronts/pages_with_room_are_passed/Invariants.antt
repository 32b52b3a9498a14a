use Rattle.library_tests.proofs.fronts.pages_with_room_are_passed.Given as goal

-- the ledger is that of the blank
abbrev pub ghosts-passed_of_short : goal.ghosts-passed_of_short
ghosts-passed_of_short g a = record { name = a.blank.name; parts = a.blank.parts }
