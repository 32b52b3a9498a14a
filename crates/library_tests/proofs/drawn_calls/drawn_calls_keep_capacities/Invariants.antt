use Rattle.library_tests.proofs.drawn_calls.drawn_calls_keep_capacities.Given as goal

-- the steps are counted in the ledger of each blank
abbrev pub ghosts-on_a_table : goal.ghosts-on_a_table
ghosts-on_a_table g a = record { name = a.blank.name; parts = a.blank.parts }

abbrev pub ghosts-on_a_table-2 : goal.ghosts-on_a_table-2
ghosts-on_a_table-2 g a = record { name = a.blank.name; parts = a.blank.parts }
