use Rattle.slot_port.proofs.arrivals.sporadic.Given as goal

-- the ledger is that of the blank
abbrev pub ghosts-sporadic_counted : goal.ghosts-sporadic_counted
ghosts-sporadic_counted g a = record { name = a.blank.name; parts = a.blank.parts }
