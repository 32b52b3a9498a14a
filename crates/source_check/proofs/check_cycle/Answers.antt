-- A cycle within its limit has no running multiple above it.
use Rattle.std.proofs.Common.{refl, ap}
use Rattle.std.specs.Prelude.{option_map}
use Rattle.slot_core.specs.declared.faults.TaskFault.TheVariants.{CycleTooLong}
use Rattle.slot_core.specs.Sets.Cycles.{cycle_lengths}
use Rattle.source_check.proofs.CycleLemmas.{none_above}
use Rattle.source_check.proofs.check_cycle.Goals as goal

pub returns-in-Ok : goal.returns-in-Ok
returns-in-Ok c =
    ap (option_map CycleTooLong) (none_above 1 (cycle_lengths c.args.tasks.now) c.requires (c.in-Ok.ensures.exact.0 refl))
