use Rattle.std.proofs.Common.{◌≡◌, ◌*◌, rules, subst}
use Rattle.std.proofs.lemmas.Bool.{and_parts}
use Rattle.slot_core.specs.Sets.Cycles.{cycle_of}
use Rattle.graph_unroll.proofs.RangeLemmas.{lengths_in_range}
use Rattle.slot_lengths.specs.Loads.{HasLittleWork}
use Rattle.slot_lengths.proofs.Works.{HasLittleWork-from_derived}
use Rattle.slot_lengths.proofs.loads.load_of.Goals as goal

pub cycle_of-requires : goal.cycle_of-requires
cycle_of-requires c = lengths_in_range c.args.tasks.now (and_parts _ _ c.requires.sound).0

pub work_in-requires : goal.work_in-requires
work_in-requires c =
    let cycle : c.unwrap-cycle.result ≡ cycle_of c.args.tasks.now = search rules in
    let lasts : cycle_of c.args.tasks.now * c.args.physical.now.slot ≡ c.from.result * c.from-2.result = cc in
    subst (λ t. HasLittleWork t c.args.physical.now) lasts (HasLittleWork-from_derived c.args.physical.now c.args.tasks.now c.requires.derived c.requires.sound)
