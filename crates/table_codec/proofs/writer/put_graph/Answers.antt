use Rattle.std.proofs.Common.{arith, rules}
use Rattle.std.proofs.lemmas.Grind.{common_steps}
use Rattle.table_codec.proofs.writer.put_graph.Goals as goal

pub returns-in_err-put_name : goal.returns-in_err-put_name
returns-in_err-put_name c = search rules

pub returns-in_err-put_range : goal.returns-in_err-put_range
returns-in_err-put_range c = search rules

pub returns-in_err-put_range-2 : goal.returns-in_err-put_range-2
returns-in_err-put_range-2 c = search rules

pub returns-in_err-put_range-3 : goal.returns-in_err-put_range-3
returns-in_err-put_range-3 c = search rules

pub returns-in_err-put_index : goal.returns-in_err-put_index
returns-in_err-put_index c = search rules

pub returns : goal.returns
returns c = grind (arith, common_steps)
