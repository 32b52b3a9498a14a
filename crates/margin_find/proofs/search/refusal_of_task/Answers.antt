use Rattle.std.proofs.Common.{arith}
use Rattle.slot_core.specs.declared.faults.Part.TheVariants.{Task as TaskPart}
use Rattle.slot_facts.proofs.Offline.Jobs.{cycle-at_most, cycle-positive}
use Rattle.margin_find.proofs.TaskTests.{graph_read, IsMade-from, sound-made, AreGrown-joined}
use Rattle.margin_find.proofs.TestedJobs.{due-AreGrown, fits-AreGrown, counterexample-AreGrown}
use Rattle.margin_find.proofs.search.refusal_of_task.Goals as goal

pub test_with-requires-clause-positive : goal.test_with-requires-clause-positive
test_with-requires-clause-positive c =
    omega (arith, c.requires.kept.0.whole, cycle-positive c.args.plan.now.tasks c.tasks-tasks.ensures.plan.sound)

pub test_with-requires-clause-cycle : goal.test_with-requires-clause-cycle
test_with-requires-clause-cycle c =
    omega (arith, c.requires.kept.0.whole, cycle-at_most c.args.plan.now.tasks c.tasks-tasks.ensures.plan.sound)

pub jobs_by_start-requires : goal.jobs_by_start-requires
jobs_by_start-requires c =
    let set = c.args.plan.now.tasks in
    let graph = c.index-items-from.result in
    let at = graph_read set c.tasks-tasks.result.now c.args.graph c.args.task c.from.result c.items.result.now graph c.requires.of c.tasks-tasks.ensures.tasks c.items.ensures c.from.ensures c.index-items-from.is in
    let made = IsMade-from set c.tasks-tasks.result.now c.args.graph c.args.task c.from-2.result c.args.growth c.args.kept.now.cycle graph c.in_ok-alone.alone at c.requires.kept.0.whole c.tasks-tasks.ensures.tasks c.from-2.ensures c.in_ok-alone.ensures in
    sound-made set c.args.graph c.args.task c.args.growth c.args.kept.now.cycle graph c.in_ok-alone.alone c.requires.sound made

pub test_with-requires-clause-within : goal.test_with-requires-clause-within
test_with-requires-clause-within c =
    let set = c.args.plan.now.tasks in
    let graph = c.index-items-from.result in
    let at = graph_read set c.tasks-tasks.result.now c.args.graph c.args.task c.from.result c.items.result.now graph c.requires.of c.tasks-tasks.ensures.tasks c.items.ensures c.from.ensures c.index-items-from.is in
    let made = IsMade-from set c.tasks-tasks.result.now c.args.graph c.args.task c.from-2.result c.args.growth c.args.kept.now.cycle graph c.in_ok-alone.alone at c.requires.kept.0.whole c.tasks-tasks.ensures.tasks c.from-2.ensures c.in_ok-alone.ensures in
    let these = AreGrown-joined set c.args.graph c.args.task c.args.growth graph c.args.kept.now c.in_ok-alone.alone c.in_ok-own.own.items c.as_slice.result.now c.as_slice-2.result.now c.in_ok-jobs.jobs.items c.as_slice-3.result.now c.sporadics.result.now c.requires.sound made c.requires.kept.0 c.requires.kept.1 c.in_ok-own.ensures.listed c.as_slice.ensures.value c.as_slice-2.ensures.value c.in_ok-jobs.ensures.items c.as_slice-3.ensures.value c.sporadics.ensures.sporadics in
    due-AreGrown set (TaskPart c.args.graph c.args.task) c.args.growth c.args.kept.now.cycle c.as_slice-3.result.now c.sporadics.result.now c.requires.sound these

pub test_with-requires-clause-fits : goal.test_with-requires-clause-fits
test_with-requires-clause-fits c =
    let set = c.args.plan.now.tasks in
    let graph = c.index-items-from.result in
    let at = graph_read set c.tasks-tasks.result.now c.args.graph c.args.task c.from.result c.items.result.now graph c.requires.of c.tasks-tasks.ensures.tasks c.items.ensures c.from.ensures c.index-items-from.is in
    let made = IsMade-from set c.tasks-tasks.result.now c.args.graph c.args.task c.from-2.result c.args.growth c.args.kept.now.cycle graph c.in_ok-alone.alone at c.requires.kept.0.whole c.tasks-tasks.ensures.tasks c.from-2.ensures c.in_ok-alone.ensures in
    let these = AreGrown-joined set c.args.graph c.args.task c.args.growth graph c.args.kept.now c.in_ok-alone.alone c.in_ok-own.own.items c.as_slice.result.now c.as_slice-2.result.now c.in_ok-jobs.jobs.items c.as_slice-3.result.now c.sporadics.result.now c.requires.sound made c.requires.kept.0 c.requires.kept.1 c.in_ok-own.ensures.listed c.as_slice.ensures.value c.as_slice-2.ensures.value c.in_ok-jobs.ensures.items c.as_slice-3.ensures.value c.sporadics.ensures.sporadics in
    fits-AreGrown set (TaskPart c.args.graph c.args.task) c.args.growth c.args.kept.now.cycle c.as_slice-3.result.now c.sporadics.result.now c.requires.sound these

pub returns : goal.returns
returns c =
    let set = c.args.plan.now.tasks in
    let graph = c.index-items-from.result in
    let at = graph_read set c.tasks-tasks.result.now c.args.graph c.args.task c.from.result c.items.result.now graph c.requires.of c.tasks-tasks.ensures.tasks c.items.ensures c.from.ensures c.index-items-from.is in
    let made = IsMade-from set c.tasks-tasks.result.now c.args.graph c.args.task c.from-2.result c.args.growth c.args.kept.now.cycle graph c.in_ok-alone.alone at c.requires.kept.0.whole c.tasks-tasks.ensures.tasks c.from-2.ensures c.in_ok-alone.ensures in
    let these = AreGrown-joined set c.args.graph c.args.task c.args.growth graph c.args.kept.now c.in_ok-alone.alone c.in_ok-own.own.items c.as_slice.result.now c.as_slice-2.result.now c.in_ok-jobs.jobs.items c.as_slice-3.result.now c.sporadics.result.now c.requires.sound made c.requires.kept.0 c.requires.kept.1 c.in_ok-own.ensures.listed c.as_slice.ensures.value c.as_slice-2.ensures.value c.in_ok-jobs.ensures.items c.as_slice-3.ensures.value c.sporadics.ensures.sporadics in
    counterexample-AreGrown set (TaskPart c.args.graph c.args.task) c.args.growth c.args.kept.now.cycle c.as_slice-3.result.now c.sporadics.result.now c.in_ok-verdict.verdict c.window_of.result these c.in_ok-verdict.ensures c.window_of.ensures
