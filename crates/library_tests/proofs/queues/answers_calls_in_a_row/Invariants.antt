use Rattle.library_tests.proofs.queues.answers_calls_in_a_row.Given as goal

-- the ledger is that of the blank
abbrev pub ghosts-make_calls : goal.ghosts-make_calls
ghosts-make_calls g a = record { name = a.blank.name; parts = a.blank.parts }
