use Rattle.plan_change.proofs.moves.carry.Given as goal

-- the ledger is that of the blank
abbrev pub ghosts-carry_counted : goal.ghosts-carry_counted
ghosts-carry_counted g a = record { name = a.blank.name; parts = a.blank.parts }
