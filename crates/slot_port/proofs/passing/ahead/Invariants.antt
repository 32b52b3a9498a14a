use Rattle.slot_port.proofs.passing.ahead.Given as goal

-- the ledger is that of the blank
abbrev pub ghosts-ahead_counted : goal.ghosts-ahead_counted
ghosts-ahead_counted g a = record { name = a.blank.name; parts = a.blank.parts }
