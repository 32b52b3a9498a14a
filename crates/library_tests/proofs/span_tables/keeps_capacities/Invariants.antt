use Rattle.library_tests.proofs.span_tables.keeps_capacities.Given as goal

-- the steps are counted in the ledger of each blank
abbrev pub ghosts-each_call : goal.ghosts-each_call
ghosts-each_call g a = record { name = a.blank.name; parts = a.blank.parts }

abbrev pub ghosts-each_call-2 : goal.ghosts-each_call-2
ghosts-each_call-2 g a = record { name = a.blank.name; parts = a.blank.parts }
