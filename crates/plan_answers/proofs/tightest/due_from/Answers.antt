use Rattle.std.proofs.Common.{◌≡◌, ℕ, ◌+◌, ◌*◌, ◌^◌, ◌<◌, ◌≤◌, List, ◌++◌, length, take, drop, sum, ap, subst, arith}
use Rattle.std.specs.Prelude.{sum_by}
use Rattle.std.proofs.lemmas.List.{take_at, take_all}
use Rattle.std.proofs.lemmas.List.Elements.{All-same, All-weaker}
use Rattle.std.proofs.lemmas.List.Sums.{sum_by-take-le}
use Rattle.slot_core.specs.declared.TheConstants.{SLOT_LIMIT}
use Rattle.slot_core.specs.declared.jobs.Job.{Job}
use Rattle.slot_core.specs.Feasibility.Feasible.{window_demand}
use Rattle.demand_test.specs.EndTables.{IsEndTable}
use Rattle.demand_test.proofs.EndSums.{declared-less, sum-IsEndTable-le}
use Rattle.demand_test.proofs.EndCounts.{IsEndTable-small}
use Rattle.plan_answers.proofs.Starts.{starting, starting-le, sums-table, table-step}
use Rattle.plan_answers.proofs.tightest.due_from.Goals as goal

pub count_job-requires-clause-small : goal.count_job-requires-clause-small
count_job-requires-clause-small c =
    let jobs = c.args.jobs.now in
    let some = take c.loop-job.job-index jobs in
    let few = sum_by-take-le (λ (j : Job). j.declared) jobs c.loop-job.job-index in
    let small = IsEndTable-small (starting c.args.from some) some c.args.cycle c.loop-job.due.items SLOT_LIMIT c.loop-job.invariant (omega (arith, starting-le c.args.from some)) (omega arith) in
    All-same (λ n. n < 2 ^ 30) _ _ c.deref_mut.ensures.value (All-weaker (λ n. n ≤ 2 * SLOT_LIMIT) (λ n. n < 2 ^ 30) (λ n h. omega arith) c.loop-job.due.items small)

-- what is written back is the whole table
written : (old new : List ℕ) (n : ℕ) → length new ≡ n → take n (new ++ drop (length new) old) ≡ new
written old new n same = take_at new (drop (length new) old) n same

pub loop-job-preserved : goal.loop-job-preserved
loop-job-preserved c =
    let jobs = c.args.jobs.now in
    let i = c.loop-job.job-index in
    let a = c.args.from in
    let before : IsEndTable (starting a (take i jobs)) (take i jobs) c.args.cycle c.deref_mut.result.now = rw c.deref_mut.ensures.value c.loop-job.invariant in
    let after = table-step a jobs i c.args.cycle _ c.deref_mut.result.now c.count_job.new.due c.loop-job-test.true (omega (arith, c.requires.from)) c.requires.within before (rw c.from.ensures at c.count_job.ensures) in
    let kept = ap length c.deref_mut.ensures.value in
    let len : length c.count_job.new.due ≡ c.loop-job.due.len = omega (arith, after.len, c.loop-job.invariant.len, c.deref_mut.ensures.len) in
    rw (written c.loop-job.due.items c.count_job.new.due c.loop-job.due.len len) after

pub returns-clause-sums : goal.returns-clause-sums
returns-clause-sums c = λ b low.
    let jobs = c.args.jobs.now in
    let all : take c.loop-job.job-index jobs ≡ jobs = take_all c.loop-job.job-index jobs (omega arith) in
    let table : IsEndTable (starting c.args.from jobs) jobs c.args.cycle c.loop-job.due.items = subst (λ (js : List Job). IsEndTable (starting c.args.from js) js c.args.cycle c.loop-job.due.items) all c.loop-job.invariant in
    sums-table jobs c.args.cycle c.args.from c.loop-job.due.items table (omega (arith, c.requires.from)) b low

pub returns-clause-small : goal.returns-clause-small
returns-clause-small c =
    let jobs = c.args.jobs.now in
    let some = take c.loop-job.job-index jobs in
    let few = sum_by-take-le (λ (j : Job). j.declared) jobs c.loop-job.job-index in
    sum-IsEndTable-le (starting c.args.from some) some c.args.cycle c.args.cycle c.loop-job.due.items c.loop-job.invariant (omega (arith, starting-le c.args.from some, c.requires.few)) (omega (arith, c.requires.few))
