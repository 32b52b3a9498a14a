use Rattle.slot_exec.proofs.exec.tests.offers_read_the_chain.Given as goal

-- the steps are counted in the ledger of the blank
abbrev pub ghosts-reads : goal.ghosts-reads
ghosts-reads g a = record { name = a.blank.name; parts = a.blank.parts }
