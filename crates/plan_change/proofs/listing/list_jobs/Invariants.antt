use Rattle.plan_change.proofs.listing.list_jobs.Given as goal

-- the ledger is that of the blank
abbrev pub ghosts-list_counted : goal.ghosts-list_counted
ghosts-list_counted g a = record { name = a.blank.name; parts = a.blank.parts }
