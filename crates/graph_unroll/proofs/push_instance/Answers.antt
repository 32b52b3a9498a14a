use Rattle.std.proofs.Common.{◌≡◌, ◌<◌, ◌≤◌, ◌^◌, ◌*◌, ◌+◌, ℕ, true, List, [], ◌∷◌, ◌++◌, length, get_or, drop, map, append-nil, append_assoc, sym, ap, ◌∙◌, arith}
use Rattle.std.specs.List.{enumerate_from}
use Rattle.std.proofs.Math.ListN.{drop_of_length-le}
use Rattle.std.proofs.Math.Nat.{mul-le-mul}
use Rattle.std.proofs.lemmas.List.{at_drop_more}
use Rattle.slot_core.specs.declared.TheConstants.{SLOT_LIMIT}
use Rattle.slot_core.specs.declared.jobs.RawJob.{RawJob}
use Rattle.slot_core.specs.declared.tasks.Graph.{Graph}
use Rattle.slot_core.specs.declared.tasks.Task.{Task}
use Rattle.slot_core.specs.Offline.OfflineJobs.{deadline_of, raw_job}
use Rattle.slot_core.specs.Sets.Ranges.{graph_in_range}
use Rattle.slot_facts.proofs.Sets.Ranges.{GraphRanges-from_test, GraphFits-from_test, bounds, few_tasks}
use Rattle.graph_unroll.proofs.push_instance.Goals as goal

-- the deadline of an instance in range is small
small_deadline : (graph : Graph) (instance : ℕ) → graph_in_range graph ≡ true → instance ≤ SLOT_LIMIT → deadline_of graph instance ≤ 2 ^ 30
small_deadline graph instance in_range few =
    let period = bounds 1 SLOT_LIMIT graph.period (GraphRanges-from_test graph in_range).period in
    omega (arith, mul-le-mul few period.1, period, (GraphFits-from_test graph in_range).within)

-- the jobs of the tasks so far and of one more
one_more : (jobs : List RawJob) (job : ℕ × Task → RawJob) (tasks : List Task) (n : ℕ) (task : Task) (all : List RawJob) → n < length tasks → task ≡ get_or tasks n task → jobs ++ map job (enumerate_from n (drop n tasks)) ≡ all → (jobs ++ job (n, task) ∷ []) ++ map job (enumerate_from (n + 1) (drop (n + 1) tasks)) ≡ all
one_more jobs job tasks n task all within is so_far =
    let rest = map job (enumerate_from (n + 1) (drop (n + 1) tasks)) in
    append_assoc jobs (job (n, task) ∷ []) rest
    ∙ ap (λ x. jobs ++ job (n, x) ∷ rest) is
    ∙ sym (at_drop_more (λ xs. jobs ++ map job (enumerate_from n xs)) tasks n task within)
    ∙ so_far

pub overflow_mul-release : goal.overflow_mul-release
overflow_mul-release c =
    rw c.from.ensures (omega (arith, small_deadline c.args.graph.now c.args.instance c.requires.graph c.requires.instance))

pub overflow_add-release : goal.overflow_add-release
overflow_add-release c =
    rw (c.from.ensures, c.from-2.ensures) (omega (arith, small_deadline c.args.graph.now c.args.instance c.requires.graph c.requires.instance))

pub overflow_add-deadline : goal.overflow_add-deadline
overflow_add-deadline c =
    rw (c.from.ensures, c.from-2.ensures, c.from-3.ensures) (omega (arith, small_deadline c.args.graph.now c.args.instance c.requires.graph c.requires.instance))

pub overflow_cast-job : goal.overflow_cast-job
overflow_cast-job c =
    let count = ap length c.items-task-items.ensures in
    omega (arith, c.loop-place-test.true, few_tasks c.args.graph.now c.requires.graph)

pub loop-place-preserved : goal.loop-place-preserved
loop-place-preserved c =
    let job = raw_job c.args.index c.args.graph.now c.args.instance in
    let pushed = rw (c.from.ensures, c.from-2.ensures, c.from-3.ensures) at c.in_ok-push.ensures.items in
    rw pushed (one_more c.loop-place.jobs.items job c.items-task-items.result.now c.loop-place.place c.task-item.result _ c.loop-place-test.true c.task-item.is c.loop-place.invariant)

pub returns : goal.returns
returns c =
    let job = raw_job c.args.index c.args.graph.now c.args.instance in
    let tasks = c.items-task-items.result.now in
    let none : drop c.loop-place.place tasks ≡ [] = drop_of_length-le tasks c.loop-place-test.false in
    let told = rw none at c.loop-place.invariant in
    sym (append-nil c.loop-place.jobs.items) ∙ told ∙ ap (λ ts. c.args.jobs.now.items ++ map job (enumerate_from 0 ts)) c.items-task-items.ensures
