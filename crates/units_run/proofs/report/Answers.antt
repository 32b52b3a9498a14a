use Rattle.units_run.proofs.report.Goals as goal

pub returns-in-WriteFault-clause-told : goal.returns-in-WriteFault-clause-told
returns-in-WriteFault-clause-told g c = rw c.in-WriteFault.is c.put_line.ensures
