use Rattle.slot_exec.proofs.exec.tests.waiting_soft_work_is_searched_for_once.Given as goal

-- the steps are counted in the ledger of the blank
abbrev pub ghosts-searches : goal.ghosts-searches
ghosts-searches g a = record { name = a.blank.name; parts = a.blank.parts }
