-- Jobs that windows cannot tell from those of a set with a longer task: what the cycle test asks of them, and what it says.
use Rattle.std.proofs.Common.{◌≡◌, ℕ, ◌≤◌, List, Option, Some, None, refl, sym, ap, ◌∙◌, subst, arith}
use Rattle.std.specs.Prelude.{All}
use Rattle.std.proofs.lemmas.List.Sorted.{IsPermutation-refl}
use Rattle.slot_core.specs.declared.faults.Part.{Part}
use Rattle.slot_core.specs.declared.jobs.Job.{Job}
use Rattle.slot_core.specs.declared.jobs.Window.{Window}
use Rattle.slot_core.specs.declared.tasks.Sporadic.{Sporadic}
use Rattle.slot_core.specs.declared.tasks.TaskSet.{TaskSet}
use Rattle.slot_core.specs.Claims.Growth.{grown}
use Rattle.slot_core.specs.Feasibility.Feasible.{window_demand, counterexample_in, counterexample}
use Rattle.slot_core.specs.Offline.OfflineJobs.{cycle_jobs}
use Rattle.slot_core.specs.Sets.Cycles.{cycle_of}
use Rattle.slot_facts.proofs.Offline.Cycles.{all_due_by}
use Rattle.demand_test.specs.declared.Verdict.{Verdict}
use Rattle.demand_test.specs.Verdicts.{verdict_of}
use Rattle.margin_find.specs.Kept.{HaveSameWindows}
use Rattle.margin_find.specs.Search.{counterexample_of, StaysSound}
use Rattle.margin_find.proofs.Growths.{cycle_stays}
use Rattle.margin_find.proofs.SameWindows.{due-windows, window_demand-windows, counterexample_in-windows}

-- the jobs and the sporadic tasks are those of the set with a longer task, as far as windows tell
pub record AreGrown (set : TaskSet) (part : Part) (growth cycle : ℕ) (jobs : List Job) (ss : List Sporadic) : Type 0 where
  pub whole : cycle ≡ cycle_of set
  pub arriving : ss ≡ (grown set part growth).sporadics
  pub windows : HaveSameWindows jobs (cycle_jobs (grown set part growth) (cycle_of set) 0)

pub due-AreGrown : (set : TaskSet) (part : Part) (growth cycle : ℕ) (jobs : List Job) (ss : List Sporadic) → StaysSound set part growth → AreGrown set part growth cycle jobs ss → All (λ (j : Job). j.dl ≤ cycle) jobs
due-AreGrown set part growth cycle jobs ss stays h =
    let longer = grown set part growth in
    let all = cycle_jobs longer (cycle_of set) 0 in
    let due = all_due_by longer all (cycle_of set) stays.sound (sym (cycle_stays set part growth)) (IsPermutation-refl all) in
    subst (λ n. All (λ (j : Job). j.dl ≤ n) jobs) (sym h.whole) (due-windows jobs all (cycle_of set) h.windows due)

pub fits-AreGrown : (set : TaskSet) (part : Part) (growth cycle : ℕ) (jobs : List Job) (ss : List Sporadic) → StaysSound set part growth → AreGrown set part growth cycle jobs ss → window_demand jobs ss cycle 0 cycle ≤ cycle
fits-AreGrown set part growth cycle jobs ss stays h =
    let longer = grown set part growth in
    let n = cycle_of set in
    let same = window_demand-windows jobs (cycle_jobs longer n 0) longer.sporadics n 0 n h.windows in
    let fits : window_demand jobs longer.sporadics n 0 n ≤ n = omega (arith, same, stays.fits) in
    subst (λ (us : List Sporadic). window_demand jobs us cycle 0 cycle ≤ cycle) (sym h.arriving) (subst (λ m. window_demand jobs longer.sporadics m 0 m ≤ m) (sym h.whole) fits)

-- a verdict tells its window
verdict-window : (a b : Option Window) → verdict_of a ≡ verdict_of b → a ≡ b
verdict-window None None e = refl
verdict-window None (Some w) e = cc
verdict-window (Some v) None e = cc
verdict-window (Some v) (Some w) e = cc

pub counterexample-AreGrown : (set : TaskSet) (part : Part) (growth cycle : ℕ) (jobs : List Job) (ss : List Sporadic) (verdict : Verdict) (window : Option Window) → AreGrown set part growth cycle jobs ss → verdict ≡ verdict_of (counterexample_in jobs ss cycle) → verdict ≡ verdict_of window → window ≡ counterexample_of set part growth
counterexample-AreGrown set part growth cycle jobs ss verdict window h tested told =
    let longer = grown set part growth in
    let n = cycle_of set in
    let found : window ≡ counterexample_in jobs ss cycle = verdict-window window (counterexample_in jobs ss cycle) (sym told ∙ tested) in
    let here : counterexample_in jobs ss cycle ≡ counterexample_in jobs longer.sporadics n = ap (λ (us : List Sporadic). counterexample_in jobs us cycle) h.arriving ∙ ap (counterexample_in jobs longer.sporadics) h.whole in
    let there = counterexample_in-windows jobs (cycle_jobs longer n 0) longer.sporadics n h.windows in
    let stays : counterexample longer n ≡ counterexample longer (cycle_of longer) = ap (counterexample longer) (sym (cycle_stays set part growth)) in
    found ∙ here ∙ there ∙ stays
