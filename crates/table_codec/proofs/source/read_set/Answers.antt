use Rattle.std.proofs.Common.{rules}
use Rattle.table_codec.proofs.source.read_set.Goals as goal

pub returns-in_err-soft_limit : goal.returns-in_err-soft_limit
returns-in_err-soft_limit c = search rules

pub returns-in_err-count : goal.returns-in_err-count
returns-in_err-count c = search rules

pub returns-in_err-graphs : goal.returns-in_err-graphs
returns-in_err-graphs c = search rules

pub returns-in_err-count-2 : goal.returns-in_err-count-2
returns-in_err-count-2 c = search rules

pub returns-in_err-sporadics : goal.returns-in_err-sporadics
returns-in_err-sporadics c = search rules
