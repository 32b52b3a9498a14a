use Rattle.library_tests.proofs.offers.a_rise_inside_a_span_is_tried.Given as goal

-- the ledger is that of the blank
abbrev pub ghosts-with_a_rise : goal.ghosts-with_a_rise
ghosts-with_a_rise g a = record { name = a.blank.name; parts = a.blank.parts }
