use Rattle.library_tests.proofs.executives.tells_each_entry.Given as goal

-- the steps are counted in the ledger of each blank
abbrev pub ghosts-tell : goal.ghosts-tell
ghosts-tell g a = record { name = a.blank.name; parts = a.blank.parts }

abbrev pub ghosts-tell-2 : goal.ghosts-tell-2
ghosts-tell-2 g a = record { name = a.blank.name; parts = a.blank.parts }
