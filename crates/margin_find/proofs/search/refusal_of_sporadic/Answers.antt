use Rattle.std.proofs.Common.{arith}
use Rattle.slot_core.specs.declared.faults.Part.TheVariants.{Sporadic as SporadicPart}
use Rattle.slot_facts.proofs.Offline.Jobs.{cycle-at_most, cycle-positive}
use Rattle.margin_find.proofs.KeptJobs.{in_order-from_StartsRise}
use Rattle.margin_find.proofs.TaskTests.{AreGrown-sporadic}
use Rattle.margin_find.proofs.TestedJobs.{due-AreGrown, fits-AreGrown, counterexample-AreGrown}
use Rattle.margin_find.proofs.search.refusal_of_sporadic.Goals as goal

pub overflow_mul-cycle : goal.overflow_mul-cycle
overflow_mul-cycle c =
    let plan = c.cycle-cycle.ensures.plan in
    omega (arith, c.cycle-cycle.ensures.cycle, plan.cycle, cycle-at_most c.args.plan.now.tasks plan.sound)

pub needed_table-requires : goal.needed_table-requires
needed_table-requires c =
    let plan = c.cycle-cycle.ensures.plan in
    omega (arith, c.cycle-cycle.ensures.cycle, plan.cycle, cycle-at_most c.args.plan.now.tasks plan.sound)

pub test_with-requires-clause-positive : goal.test_with-requires-clause-positive
test_with-requires-clause-positive c =
    let plan = c.cycle-cycle.ensures.plan in
    omega (arith, c.cycle-cycle.ensures.cycle, plan.cycle, cycle-positive c.args.plan.now.tasks plan.sound)

pub test_with-requires-clause-cycle : goal.test_with-requires-clause-cycle
test_with-requires-clause-cycle c =
    let plan = c.cycle-cycle.ensures.plan in
    omega (arith, c.cycle-cycle.ensures.cycle, plan.cycle, cycle-at_most c.args.plan.now.tasks plan.sound)

pub test_with-requires-clause-within : goal.test_with-requires-clause-within
test_with-requires-clause-within c =
    let plan = c.args.plan.now in
    let part = SporadicPart c.args.index in
    let these = AreGrown-sporadic plan c.args.index c.from.result c.args.growth c.cycle-cycle.result c.jobs_by_start-jobs.result.now c.items-2.result.now c.in_ok-longer.longer c.sporadics.result.now c.cycle-cycle.ensures.plan c.cycle-cycle.ensures.cycle c.jobs_by_start-jobs.ensures.items c.sporadics.ensures.sporadics c.from.ensures c.in_ok-longer.ensures c.items-2.ensures in
    due-AreGrown plan.tasks part c.args.growth c.cycle-cycle.result c.jobs_by_start-jobs.result.now c.items-2.result.now c.requires.sound these

pub test_with-requires-clause-fits : goal.test_with-requires-clause-fits
test_with-requires-clause-fits c =
    let plan = c.args.plan.now in
    let part = SporadicPart c.args.index in
    let these = AreGrown-sporadic plan c.args.index c.from.result c.args.growth c.cycle-cycle.result c.jobs_by_start-jobs.result.now c.items-2.result.now c.in_ok-longer.longer c.sporadics.result.now c.cycle-cycle.ensures.plan c.cycle-cycle.ensures.cycle c.jobs_by_start-jobs.ensures.items c.sporadics.ensures.sporadics c.from.ensures c.in_ok-longer.ensures c.items-2.ensures in
    fits-AreGrown plan.tasks part c.args.growth c.cycle-cycle.result c.jobs_by_start-jobs.result.now c.items-2.result.now c.requires.sound these

pub test_with-requires-clause-ordered : goal.test_with-requires-clause-ordered
test_with-requires-clause-ordered c =
    in_order-from_StartsRise c.jobs_by_start-jobs.result.now c.jobs_by_start-jobs.ensures.starts

pub returns : goal.returns
returns c =
    let plan = c.args.plan.now in
    let part = SporadicPart c.args.index in
    let these = AreGrown-sporadic plan c.args.index c.from.result c.args.growth c.cycle-cycle.result c.jobs_by_start-jobs.result.now c.items-2.result.now c.in_ok-longer.longer c.sporadics.result.now c.cycle-cycle.ensures.plan c.cycle-cycle.ensures.cycle c.jobs_by_start-jobs.ensures.items c.sporadics.ensures.sporadics c.from.ensures c.in_ok-longer.ensures c.items-2.ensures in
    counterexample-AreGrown plan.tasks part c.args.growth c.cycle-cycle.result c.jobs_by_start-jobs.result.now c.items-2.result.now c.in_ok-verdict.verdict c.window_of.result these c.in_ok-verdict.ensures c.window_of.ensures
