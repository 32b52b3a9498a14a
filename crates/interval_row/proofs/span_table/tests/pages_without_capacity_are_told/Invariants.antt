use Rattle.interval_row.proofs.span_table.tests.pages_without_capacity_are_told.Given as goal

-- the ledger is that of the blank
abbrev pub ghosts-charges_last : goal.ghosts-charges_last
ghosts-charges_last g a = record { name = a.blank.name; parts = a.blank.parts }
