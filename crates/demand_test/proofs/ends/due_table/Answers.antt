use Rattle.std.proofs.Common.{◌≡◌, ℕ, ◌*◌, ◌^◌, ◌<◌, ◌≤◌, List, ◌++◌, length, take, drop, ap, arith}
use Rattle.std.proofs.lemmas.List.{take_at}
use Rattle.std.proofs.lemmas.List.Elements.{All-same, All-weaker}
use Rattle.std.proofs.lemmas.List.Sums.{sum_by-take-le}
use Rattle.slot_core.specs.declared.TheConstants.{SLOT_LIMIT}
use Rattle.slot_core.specs.declared.jobs.Job.{Job}
use Rattle.demand_test.specs.EndTables.{IsEndTable}
use Rattle.demand_test.proofs.EndSums.{declared-less}
use Rattle.demand_test.proofs.EndCounts.{IsEndTable-small, IsEndTable-next}
use Rattle.demand_test.proofs.ends.due_table.Goals as goal

pub count_job-requires-clause-small : goal.count_job-requires-clause-small
count_job-requires-clause-small c =
    let jobs = c.args.jobs.now in
    let few = sum_by-take-le (λ (j : Job). j.declared) jobs c.loop-job.job-index in
    let small = IsEndTable-small (take c.loop-job.job-index jobs) (take c.loop-job.job-index jobs) c.args.cycle c.loop-job.due.items SLOT_LIMIT c.loop-job.invariant (omega arith) (omega arith) in
    All-same (λ n. n < 2 ^ 30) _ _ c.deref_mut.ensures.value (All-weaker (λ n. n ≤ 2 * SLOT_LIMIT) (λ n. n < 2 ^ 30) (λ n h. omega arith) c.loop-job.due.items small)

pub count_job-requires-clause-short : goal.count_job-requires-clause-short
count_job-requires-clause-short c =
    declared-less c.args.jobs.now c.loop-job.job-index _ (2 ^ 30) c.loop-job-test.true (omega (arith, c.requires.few, c.requires.cycle))

-- what is written back is the whole table
written : (old new : List ℕ) (n : ℕ) → length new ≡ n → take n (new ++ drop (length new) old) ≡ new
written old new n same = take_at new (drop (length new) old) n same

pub loop-job-preserved : goal.loop-job-preserved
loop-job-preserved c =
    let jobs = c.args.jobs.now in
    let i = c.loop-job.job-index in
    let before : IsEndTable (take i jobs) (take i jobs) c.args.cycle c.deref_mut.result.now = rw c.deref_mut.ensures.value c.loop-job.invariant in
    let after = IsEndTable-next jobs i c.args.cycle _ c.deref_mut.result.now c.count_job.new.due c.loop-job-test.true c.requires.positive c.requires.within before c.count_job.ensures in
    let kept = ap length c.deref_mut.ensures.value in
    let len : length c.count_job.new.due ≡ c.loop-job.due.len = omega (arith, after.len, c.loop-job.invariant.len, c.deref_mut.ensures.len) in
    rw (written c.loop-job.due.items c.count_job.new.due c.loop-job.due.len len) after
