use Rattle.std.proofs.Common.{sym, ◌∙◌, arith}
use Rattle.slot_core.specs.Sets.Cycles.{cycle_of}
use Rattle.slot_core.specs.Claims.Growth.{grown}
use Rattle.slot_facts.proofs.Demand.Feasible.{IsFeasible-from_none}
use Rattle.margin_find.proofs.search.nearer.Goals as goal

pub returns-in-None-clause-bounds : goal.returns-in-None-clause-bounds
returns-in-None-clause-bounds c =
    let longer = grown c.args.plan.now.tasks c.args.at c.args.growth in
    record {
      above = omega arith;
      holds = IsFeasible-from_none longer (cycle_of longer) (sym c.in_ok-refusal.ensures ∙ c.in-None.is);
      found = c.requires.bounds.found;
    }
