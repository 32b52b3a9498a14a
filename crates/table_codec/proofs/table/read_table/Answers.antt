use Rattle.std.proofs.Common.{rules}
use Rattle.table_codec.proofs.table.read_table.Goals as goal

pub returns-in_err-layout-clause-reading : goal.returns-in_err-layout-clause-reading
returns-in_err-layout-clause-reading c = search rules

pub returns-in_err-layout-clause-plan : goal.returns-in_err-layout-clause-plan
returns-in_err-layout-clause-plan c = search rules

pub returns-in_err-plan-clause-reading : goal.returns-in_err-plan-clause-reading
returns-in_err-plan-clause-reading c = search rules

pub returns-in_err-plan-clause-plan : goal.returns-in_err-plan-clause-plan
returns-in_err-plan-clause-plan c = search rules

pub returns-in_err-end-clause-reading : goal.returns-in_err-end-clause-reading
returns-in_err-end-clause-reading c = search rules

pub returns-in_err-end-clause-plan : goal.returns-in_err-end-clause-plan
returns-in_err-end-clause-plan c = search rules
