use Rattle.slot_port.proofs.arrivals.firm.Given as goal

-- the ledger is that of the blank
abbrev pub ghosts-firm_counted : goal.ghosts-firm_counted
ghosts-firm_counted g a = record { name = a.blank.name; parts = a.blank.parts }
