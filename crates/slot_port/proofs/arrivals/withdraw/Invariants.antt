use Rattle.slot_port.proofs.arrivals.withdraw.Given as goal

-- the ledger is that of the blank
abbrev pub ghosts-withdraw_counted : goal.ghosts-withdraw_counted
ghosts-withdraw_counted g a = record { name = a.blank.name; parts = a.blank.parts }
