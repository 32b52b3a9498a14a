use Rattle.std.proofs.Common.{◌≡◌, ◌≤◌, refl}
use Rattle.slot_core.specs.declared.TheConstants.{SLOT_LIMIT}
use Rattle.slot_core.specs.Sets.Cycles.{cycle_of}
use Rattle.slot_lengths.specs.Shorter.{graphs_alone}
use Rattle.slot_lengths.proofs.Parts.{alone-lengths, alone-positive, between, periods-separations}
use Rattle.slot_lengths.proofs.shorter.shorter_of.Goals as goal

pub cycle_of-requires : goal.cycle_of-requires
cycle_of-requires c = rw c.new.ensures (alone-lengths c.args.tasks c.requires)

pub shorter_from-requires-clause-cycle : goal.shorter_from-requires-clause-cycle
shorter_from-requires-clause-cycle c =
    let is : c.in-Ok.cycle ≡ cycle_of (graphs_alone c.args.tasks) = rw c.new.ensures at c.in-Ok.ensures.cycle in
    let most : cycle_of (graphs_alone c.args.tasks) ≤ SLOT_LIMIT = rw c.new.ensures at (c.in-Ok.ensures.exact.0 refl) in
    rw is (between 1 SLOT_LIMIT (cycle_of (graphs_alone c.args.tasks)) (alone-positive c.args.tasks c.requires) most)

pub shorter_from-requires-clause-lengths : goal.shorter_from-requires-clause-lengths
shorter_from-requires-clause-lengths c =
    rw c.items.ensures (periods-separations c.args.tasks c.requires).1
