-- The verdict on a set means slot schedules.
use Rattle.std.proofs.Common.{◌≡◌, ℕ, true, List, Option, Some, None, refl, sym, ap, subst, ◌∙◌, arith}
use Rattle.slot_core.specs.declared.jobs.Job.{Job}
use Rattle.slot_core.specs.declared.jobs.Window.{Window}
use Rattle.slot_core.specs.declared.tasks.Sporadic.{Sporadic}
use Rattle.slot_core.specs.declared.tasks.TaskSet.{TaskSet}
use Rattle.slot_core.specs.Sets.Cycles.{cycle_of}
use Rattle.slot_core.specs.Feasibility.Feasible.{IsFeasible, counterexample_in, counterexample}
use Rattle.slot_core.specs.Claims.Futures.{CyclesCanBeServed, DensestLeavesNone}
use Rattle.slot_core.specs.Offline.OfflineJobs.{cycle_jobs}
use Rattle.slot_core.specs.Sets.Ranges.{is_sound}
use Rattle.slot_facts.proofs.Offline.Jobs.{cycle-positive}
use Rattle.slot_facts.proofs.Demand.Feasible.{IsFeasible-from_none, counterexample-fails, counterexample_in-permutation}
use Rattle.slot_facts.proofs.Offers.Verdicts.{the_verdict_means_schedules, feasible_sets_can_be_served_for_ever, the_densest_pattern_shows_the_failure}
use Rattle.demand_test.specs.declared.Verdict.{Verdict}
use Rattle.demand_test.specs.Verdicts.{verdict_of, AreOfSet, MeansSchedules}

-- a set with a counterexample is not feasible
pub infeasible-from_some : (set : TaskSet) (window : Window) → is_sound set ≡ true → counterexample set (cycle_of set) ≡ Some window → ¬ (IsFeasible set (cycle_of set))
infeasible-from_some set window sound found feasible =
    let (start, low, high, needs, short) = counterexample-fails (cycle_jobs set (cycle_of set) 0) set.sporadics (cycle_of set) window (cycle-positive set sound) found in
    absurd (omega (arith, feasible window.from window.until start low high, needs, short))

-- three cycles of it can not be served, as the densest arrivals from the window's start show
pub unserved-from_some : (set : TaskSet) (window : Window) → is_sound set ≡ true → counterexample set (cycle_of set) ≡ Some window → ¬ (CyclesCanBeServed set 3) × DensestLeavesNone set window.from
unserved-from_some set window sound found = (
  λ can. infeasible-from_some set window sound found ((the_verdict_means_schedules set sound).1 can),
  the_densest_pattern_shows_the_failure set window sound found,
)

-- the word on the counterexample of a sound set means slot schedules
MeansSchedules-counterexample : (set : TaskSet) (o : Option Window) → is_sound set ≡ true → counterexample set (cycle_of set) ≡ o → MeansSchedules set (verdict_of o)
MeansSchedules-counterexample set None sound found =
    record {
      fits = λ is cycles. feasible_sets_can_be_served_for_ever set cycles sound (IsFeasible-from_none set (cycle_of set) found);
      fails = λ window is can. cc;
      shown = λ window is. absurd (cc is);
    }
MeansSchedules-counterexample set (Some first) sound found =
    record {
      fits = λ is cycles. cc;
      fails = λ window is. (unserved-from_some set first sound found).0;
      shown = λ window is. let same : first ≡ window = cc in let P : Window → Type 0 = λ w. DensestLeavesNone set w.from in subst P same (unserved-from_some set first sound found).1;
    }

-- the counterexample along the jobs of a set is that of the set
counterexample-of_set : (set : TaskSet) (jobs : List Job) (sporadics : List Sporadic) (cycle : ℕ) → AreOfSet set jobs sporadics cycle → counterexample_in jobs sporadics cycle ≡ counterexample set (cycle_of set)
counterexample-of_set set jobs sporadics cycle these =
    let listed = counterexample_in-permutation (cycle_jobs set cycle 0) jobs set.sporadics cycle these.listed in
    ap (λ ss. counterexample_in jobs ss cycle) these.arriving ∙ sym listed ∙ ap (counterexample set) these.whole

-- the verdict on the jobs of a set means slot schedules
pub MeansSchedules-from_verdict : (set : TaskSet) (jobs : List Job) (sporadics : List Sporadic) (cycle : ℕ) (verdict : Verdict) → AreOfSet set jobs sporadics cycle → verdict ≡ verdict_of (counterexample_in jobs sporadics cycle) → MeansSchedules set verdict
MeansSchedules-from_verdict set jobs sporadics cycle verdict these is =
    let told : verdict ≡ verdict_of (counterexample set (cycle_of set)) = is ∙ ap verdict_of (counterexample-of_set set jobs sporadics cycle these) in
    subst (MeansSchedules set) (sym told) (MeansSchedules-counterexample set (counterexample set (cycle_of set)) these.sound refl)
