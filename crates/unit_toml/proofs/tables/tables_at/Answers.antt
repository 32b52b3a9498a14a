use Rattle.std.proofs.Common.{arith, rules}
use Rattle.std.proofs.lemmas.Grind.{common_steps}
use Rattle.unit_toml.proofs.tables.tables_at.Goals as goal

pub returns-in_err-items_at-clause-reading : goal.returns-in_err-items_at-clause-reading
returns-in_err-items_at-clause-reading c = search rules

pub returns-in_err-items_at-clause-limit : goal.returns-in_err-items_at-clause-limit
returns-in_err-items_at-clause-limit c = search rules

pub returns-in_err-tables-clause-reading : goal.returns-in_err-tables-clause-reading
returns-in_err-tables-clause-reading c = search rules

pub returns-in_err-tables-clause-limit : goal.returns-in_err-tables-clause-limit
returns-in_err-tables-clause-limit c = search rules

pub returns-in_err-check_count-clause-limit : goal.returns-in_err-check_count-clause-limit
returns-in_err-check_count-clause-limit c = search rules

pub returns-in_err-check_count-clause-reading : goal.returns-in_err-check_count-clause-reading
returns-in_err-check_count-clause-reading c = grind (arith, common_steps)

pub returns-clause-reading : goal.returns-clause-reading
returns-clause-reading c = grind (arith, common_steps)
