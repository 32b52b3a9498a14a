use Rattle.std.proofs.Common.{rules}
use Rattle.unit_toml.proofs.graphs.read_graph.Goals as goal

pub returns-in_err-check_keys : goal.returns-in_err-check_keys
returns-in_err-check_keys c = search rules

pub returns-in_err-name : goal.returns-in_err-name
returns-in_err-name c = search rules

pub returns-in_err-period : goal.returns-in_err-period
returns-in_err-period c = search rules

pub returns-in_err-offset : goal.returns-in_err-offset
returns-in_err-offset c = search rules

pub returns-in_err-deadline : goal.returns-in_err-deadline
returns-in_err-deadline c = search rules

pub returns-in_err-tables : goal.returns-in_err-tables
returns-in_err-tables c = search rules

pub returns-in_err-named : goal.returns-in_err-named
returns-in_err-named c = search rules

pub returns-in_err-tasks : goal.returns-in_err-tasks
returns-in_err-tasks c = search rules
