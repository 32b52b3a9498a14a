use Rattle.arrival_replay.proofs.tell_arrival.Given as goal

-- the ledger is that of the blank
abbrev pub ghosts-tell_answer : goal.ghosts-tell_answer
ghosts-tell_answer g a = record { name = a.blank.name; parts = a.blank.parts }
