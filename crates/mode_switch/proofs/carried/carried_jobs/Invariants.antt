use Rattle.mode_switch.proofs.carried.carried_jobs.Given as goal

-- the ledger is that of the blank
abbrev pub ghosts-gather : goal.ghosts-gather
ghosts-gather g a = record { name = a.blank.name; parts = a.blank.parts }
