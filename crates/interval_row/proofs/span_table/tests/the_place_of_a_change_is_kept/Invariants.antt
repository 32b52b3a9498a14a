use Rattle.interval_row.proofs.span_table.tests.the_place_of_a_change_is_kept.Given as goal

-- the ledger is that of the blank
abbrev pub ghosts-changes_there : goal.ghosts-changes_there
ghosts-changes_there g a = record { name = a.blank.name; parts = a.blank.parts }
