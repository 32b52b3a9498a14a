use Rattle.plan_change.proofs.with_soft.carry_with_soft.Given as goal

-- the ledger is that of the blank
abbrev pub ghosts-carry_counted : goal.ghosts-carry_counted
ghosts-carry_counted g a = record { name = a.blank.name; parts = a.blank.parts }
