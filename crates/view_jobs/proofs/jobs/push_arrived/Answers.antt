use Rattle.std.proofs.Common.{arith}
use Rattle.std.proofs.lemmas.Grind.{common_steps}
use Rattle.std.proofs.lemmas.List.Elements.{filter_map-append}
use Rattle.view_jobs.proofs.jobs.push_arrived.Goals as goal

pub loop-deed-preserved : goal.loop-deed-preserved
loop-deed-preserved c = grind (arith, common_steps, filter_map-append)
