-- A period is some slots.
use Rattle.std.proofs.Common.{arith}
use Rattle.slot_facts.proofs.Sets.Ranges.{GraphFits-from_test}
use Rattle.task_rows.proofs.marks.first_instance.Goals as goal

pub nonzero_div-edges : goal.nonzero_div-edges
nonzero_div-edges c = omega (arith, (GraphFits-from_test c.args.graph.now c.requires).some_period)
