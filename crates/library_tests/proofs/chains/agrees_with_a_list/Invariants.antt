use Rattle.library_tests.proofs.chains.agrees_with_a_list.Given as goal

-- the steps are counted in the ledger of the blank
abbrev pub ghosts-on_a_chain : goal.ghosts-on_a_chain
ghosts-on_a_chain g a = record { name = a.blank.name; parts = a.blank.parts }
