-- What the cycle test asks of the jobs, and that their order does not matter.
use Rattle.std.proofs.Common.{◌≡◌, List, ap, sym, ◌∙◌, subst, arith}
use Rattle.std.specs.Prelude.{IfOk}
use Rattle.slot_core.specs.declared.tasks.Sporadic.{Sporadic}
use Rattle.slot_core.specs.Offline.OfflineJobs.{cycle_jobs}
use Rattle.slot_core.specs.Feasibility.Feasible.{window_demand, counterexample_in}
use Rattle.slot_facts.proofs.Offline.Jobs.{cycle-at_most}
use Rattle.demand_test.specs.Verdicts.{verdict_of}
use Rattle.slot_facts.proofs.Demand.Feasible.{counterexample_in-permutation}
use Rattle.slot_facts.proofs.Offline.Cycles.{all_due_by}
use Rattle.slot_facts.proofs.Plans.SpanSums.{window_demand-same}
use Rattle.slot_facts.proofs.Lists.SameItems.{same-from_permutation}
use Rattle.cycle_plan.proofs.plan.verdict.Goals as goal

pub test-requires-clause-cycle : goal.test-requires-clause-cycle
test-requires-clause-cycle c = omega (arith, c.requires.cycle, cycle-at_most c.args.tasks.now c.requires.sound)

pub test-requires-clause-within : goal.test-requires-clause-within
test-requires-clause-within c =
    all_due_by c.args.tasks.now c.args.jobs.now c.args.cycle c.requires.sound c.requires.cycle c.requires.listed

pub test-requires-clause-fits : goal.test-requires-clause-fits
test-requires-clause-fits c =
    let cycle = c.args.cycle in
    let first = cycle_jobs c.args.tasks.now cycle 0 in
    let same = window_demand-same first c.args.jobs.now c.args.tasks.now.sporadics cycle 0 cycle (same-from_permutation first c.args.jobs.now c.requires.listed) in
    let listed = ap (λ (ss : List Sporadic). window_demand c.args.jobs.now ss cycle 0 cycle) c.items.ensures in
    omega (arith, same, listed, c.requires.fits)

pub returns : goal.returns
returns c =
    let cycle = c.args.cycle in
    let first = cycle_jobs c.args.tasks.now cycle 0 in
    let same = counterexample_in-permutation first c.args.jobs.now c.args.tasks.now.sporadics cycle c.requires.listed in
    let listed = ap (λ (ss : List Sporadic). counterexample_in c.args.jobs.now ss cycle) c.items.ensures in
    subst (λ o. IfOk c.test.result (λ v. v ≡ verdict_of o)) (listed ∙ sym same) c.test.ensures.verdict
