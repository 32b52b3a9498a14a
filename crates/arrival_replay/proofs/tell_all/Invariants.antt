use Rattle.arrival_replay.proofs.tell_all.Given as goal

-- the ledger is that of the blank
abbrev pub ghosts-go_to : goal.ghosts-go_to
ghosts-go_to g a = record { name = a.blank.name; parts = a.blank.parts }
