use Rattle.std.proofs.Common.{rules}
use Rattle.unit_toml.proofs.graphs.read_sporadic.Goals as goal

pub returns-in_err-check_keys : goal.returns-in_err-check_keys
returns-in_err-check_keys c = search rules

pub returns-in_err-name : goal.returns-in_err-name
returns-in_err-name c = search rules

pub returns-in_err-wcet : goal.returns-in_err-wcet
returns-in_err-wcet c = search rules

pub returns-in_err-separation : goal.returns-in_err-separation
returns-in_err-separation c = search rules

pub returns-in_err-deadline : goal.returns-in_err-deadline
returns-in_err-deadline c = search rules

pub returns-in_err-planned : goal.returns-in_err-planned
returns-in_err-planned c = search rules

pub returns-in_err-at_boundaries : goal.returns-in_err-at_boundaries
returns-in_err-at_boundaries c = search rules
