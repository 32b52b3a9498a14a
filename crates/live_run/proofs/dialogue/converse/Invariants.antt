use Rattle.live_run.proofs.dialogue.converse.Given as goal

-- the ledger is that of the blank
abbrev pub ghosts-converse_counted : goal.ghosts-converse_counted
ghosts-converse_counted g a = record { name = a.blank.name; parts = a.blank.parts }
