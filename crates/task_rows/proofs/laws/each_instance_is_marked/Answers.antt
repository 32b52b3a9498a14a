use Rattle.task_rows.proofs.MarkedInstances.{marked}
use Rattle.task_rows.proofs.laws.each_instance_is_marked.Goals as goal

pub returns : goal.returns
returns c = marked
