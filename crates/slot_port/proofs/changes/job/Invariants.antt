use Rattle.slot_port.proofs.changes.job.Given as goal

-- the ledger is that of the blank
abbrev pub ghosts-job_counted : goal.ghosts-job_counted
ghosts-job_counted g a = record { name = a.blank.name; parts = a.blank.parts }
