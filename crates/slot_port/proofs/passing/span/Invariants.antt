use Rattle.slot_port.proofs.passing.span.Given as goal

-- the ledger is that of the blank
abbrev pub ghosts-span_counted : goal.ghosts-span_counted
ghosts-span_counted g a = record { name = a.blank.name; parts = a.blank.parts }
