use Rattle.future_check.proofs.jobs.due_jobs.Given as goal

-- the ledger is that of the blank
abbrev pub ghosts-push_due : goal.ghosts-push_due
ghosts-push_due g a = record { name = a.blank.name; parts = a.blank.parts }
