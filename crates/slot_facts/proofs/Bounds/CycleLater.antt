-- One cycle later there is no less room.
use Rattle.std.proofs.Common.{◌≡◌, ℕ, ◌+◌, ◌≤◌, false, cond, ◌&&◌, List, arith}
use Rattle.std.specs.Prelude.{nat_le, nat_lt}
use Rattle.std.proofs.lemmas.Bool.Decides.{nat_tests}
use Rattle.slot_core.specs.declared.jobs.Job.{Job}
use Rattle.slot_core.specs.Sets.Cycles.{cycle_of}
use Rattle.slot_core.specs.Runs.Demand.{work_by, work_between}
use Rattle.slot_facts.specs.Bounds.{OneCycleLaterHasNoLessRoom}
use Rattle.slot_facts.proofs.Lists.Sums.{sum_by-le-two}
use Rattle.slot_facts.proofs.Bounds.CycleSums.{due_in_one_cycle}
use Rattle.slot_facts.proofs.Bounds.CycleDemand.{FitCycle-from_sound, sporadic_demand-more, cycle-fits}
use Rattle.slot_facts.proofs.Bounds.Safe.{planned_work-le}

by_and_between : (x cycle dl left : ℕ) → cond (nat_le dl (x + cycle)) left 0 ≤ cond (nat_le dl x) left 0 + cond (nat_lt x dl && nat_le dl (x + cycle)) left 0
by_and_between x cycle dl left = grind (arith, nat_tests)

-- a cycle later the work that is due between is more
pub work_by-later : (jobs : List Job) (x cycle : ℕ) → work_by jobs (x + cycle) ≤ work_by jobs x + work_between jobs x (x + cycle)
work_by-later jobs x cycle =
    sum_by-le-two
    (λ (j : Job). cond (nat_le j.dl (x + cycle)) j.left 0)
    (λ (j : Job). cond (nat_le j.dl x) j.left 0)
    (λ (j : Job). cond (nat_lt x j.dl && nat_le j.dl (x + cycle)) j.left 0)
    jobs
    (λ j. by_and_between x cycle j.dl j.left)

due_before : (x end t cycle dl : ℕ) → dl ≤ t + cycle → t + cycle ≤ x → (nat_lt x dl && nat_le dl end) ≡ false
due_before x end t cycle dl come past = grind (arith, nat_tests)

-- past the next cycle no more than one cycle's jobs and arrivals are due in a cycle
pub one_cycle_later_has_no_less_room : OneCycleLaterHasNoLessRoom
one_cycle_later_has_no_less_room set cycles scene r x sound feasible planned apart most come past =
    let cycle = cycle_of set in
    omega (
      arith,
      work_by-later scene.jobs x cycle,
      planned_work-le set cycle cycles scene.jobs (λ est dl. nat_lt x dl && nat_le dl (x + cycle)) planned apart most (λ job at other. due_before x (x + cycle) scene.time cycle job.dl (come job at other) past),
      due_in_one_cycle set cycles x sound feasible,
      sporadic_demand-more cycle set.sporadics scene.nexts r x (FitCycle-from_sound set sound),
      cycle-fits set sound feasible,
    )
