use Rattle.clock_units.proofs.Ranges.{range-answer}
use Rattle.clock_units.proofs.derived.slots_of.Goals as goal

pub returns-clause-range : goal.returns-clause-range
returns-clause-range c = range-answer c.derive_set.result c.args.set.now c.derive_set.ensures
