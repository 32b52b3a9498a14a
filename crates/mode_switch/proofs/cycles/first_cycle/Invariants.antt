use Rattle.mode_switch.proofs.cycles.first_cycle.Given as goal

-- the ledger is that of the blank
abbrev pub ghosts-insert_first : goal.ghosts-insert_first
ghosts-insert_first a = record { name = a.blank.name; parts = a.blank.parts }
