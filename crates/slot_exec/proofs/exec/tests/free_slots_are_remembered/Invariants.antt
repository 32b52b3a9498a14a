use Rattle.slot_exec.proofs.exec.tests.free_slots_are_remembered.Given as goal

-- the steps are counted in the ledger of the blank
abbrev pub ghosts-searches : goal.ghosts-searches
ghosts-searches g a = record { name = a.blank.name; parts = a.blank.parts }
