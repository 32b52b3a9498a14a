use Rattle.slot_port.proofs.passing.slot.Given as goal

-- the ledger is that of the blank
abbrev pub ghosts-slot_counted : goal.ghosts-slot_counted
ghosts-slot_counted g a = record { name = a.blank.name; parts = a.blank.parts }
