use Rattle.margin_find.proofs.FoundMargins.{each_task_has_its_margin}
use Rattle.margin_find.proofs.laws.each_task_has_its_margin.Goals as goal

pub returns : goal.returns
returns c = each_task_has_its_margin
