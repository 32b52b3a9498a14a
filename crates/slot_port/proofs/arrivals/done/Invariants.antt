use Rattle.slot_port.proofs.arrivals.done.Given as goal

-- the ledger is that of the blank
abbrev pub ghosts-done_counted : goal.ghosts-done_counted
ghosts-done_counted g a = record { name = a.blank.name; parts = a.blank.parts }
