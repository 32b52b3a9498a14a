use Rattle.std.proofs.Common.{◌≡◌, ℕ, ◌+◌, ◌<◌, ◌≤◌, List, length, take, get_or, max, subst, arith}
use Rattle.std.specs.Prelude.{All}
use Rattle.std.proofs.lemmas.List.{take_all, take_more}
use Rattle.std.proofs.lemmas.List.Elements.{All-push, All-weaker}
use Rattle.slot_core.specs.declared.jobs.Job.{Job}
use Rattle.demand_test.proofs.windows.latest_of.Goals as goal

-- the latest deadline so far, and of the next job
later_among : (jobs : List Job) (i l n m : ℕ) (d : Job) → i < length jobs → n ≡ max l (get_or jobs i d).dl → l ≤ m → All (λ (j : Job). j.dl ≤ m) jobs → n ≤ m
later_among jobs i l n m d low is so_far all =
    let here = all i d low in
    omega arith

later_seen : (jobs : List Job) (i l n : ℕ) (d : Job) → i < length jobs → n ≡ max l (get_or jobs i d).dl → All (λ (j : Job). j.dl ≤ l) (take i jobs) → All (λ (j : Job). j.dl ≤ n) (take (i + 1) jobs)
later_seen jobs i l n d low is seen =
    rw (take_more jobs i d low) (All-push (λ (j : Job). j.dl ≤ n) (take i jobs) (get_or jobs i d) (All-weaker (λ (j : Job). j.dl ≤ l) (λ (j : Job). j.dl ≤ n) (λ j h. omega arith) (take i jobs) seen) (omega arith))

pub loop-job-preserved : goal.loop-job-preserved
loop-job-preserved c =
    let inv = c.loop-job.invariant in
    record {
      among = λ m all. later_among c.args.jobs.now c.loop-job.job-index c.loop-job.latest _ m _ c.loop-job-test.true c.max-latest.ensures (inv.among m all) all;
      seen = later_seen c.args.jobs.now c.loop-job.job-index c.loop-job.latest _ _ c.loop-job-test.true c.max-latest.ensures inv.seen;
    }

pub returns-clause-latest : goal.returns-clause-latest
returns-clause-latest c =
    subst (All (λ (j : Job). j.dl ≤ c.loop-job.latest)) (take_all c.loop-job.job-index c.args.jobs.now c.loop-job-test.false) c.loop-job.invariant.seen
