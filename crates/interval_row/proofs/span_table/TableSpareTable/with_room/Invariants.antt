use Rattle.interval_row.proofs.span_table.TableSpareTable.with_room.Given as goal

-- the ledger is that of the blank
abbrev pub ghosts-filled_table : goal.ghosts-filled_table
ghosts-filled_table g a = record { name = a.blank.name; parts = a.blank.parts }
