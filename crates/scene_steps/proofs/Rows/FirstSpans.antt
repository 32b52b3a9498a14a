-- The spans before the first slot are three copies of a plan's spans, one after the other.
use Rattle.std.proofs.Common.{◌≡◌, ℕ, zero, suc, ◌+◌, ◌*◌, ◌/◌, ◌≤◌, List, [], ◌++◌, refl, sym, ap, ◌∙◌, subst, arith}
use Rattle.std.proofs.Math.Nat.{zero-div}
use Rattle.slot_core.specs.declared.jobs.Job.{Job}
use Rattle.slot_core.specs.declared.tasks.TaskSet.{TaskSet}
use Rattle.slot_core.specs.Sets.Cycles.{cycle_of}
use Rattle.slot_core.specs.Offline.OfflineJobs.{offline_jobs}
use Rattle.slot_core.specs.Keeping.Plans.{PlanParts, plan_spans, IsPlan}
use Rattle.slot_core.specs.Runs.Scenes.{horizon, scene_of}
use Rattle.slot_core.specs.Runs.Spans.{spans_between, spans_of}
use Rattle.slot_facts.proofs.Histories.Unended.{remaining-start}
use Rattle.slot_facts.proofs.Lists.RangeFilters.{filter-parts}
use Rattle.slot_facts.proofs.Offline.Jobs.{cycle-positive}
use Rattle.slot_facts.proofs.Plans.SetPoints.{points_from, points_of-start, is_plan_point}
use Rattle.spare_capacity.specs.Recurrence.{last_end}
use Rattle.interval_build.specs.FirstJobs.{AreFirstJobs}
use Rattle.interval_row.specs.Changes.{appended, copies_of}
use Rattle.scene_steps.specs.Rows.{spans}
use Rattle.scene_steps.specs.Steps.{points_in_cycle}
use Rattle.interval_build.proofs.FirstJobFacts.{AreFirstJobs-from_plan}
use Rattle.scene_steps.proofs.Rows.Cycles.{ReachesCycle, ReachesCycle-next, spans_of_next_cycle}
use Rattle.scene_steps.proofs.Rows.Due.{AreDueAmong-from_Has}
use Rattle.scene_steps.proofs.Rows.NextRows.{last_end-from_any}

-- the points of the first n cycles
abbrev points_up_to : TaskSet → ℕ → List ℕ
points_up_to set n = points_from (is_plan_point set) 1 (n * cycle_of set)

-- of no cycle there is none
points_of_none : (set : TaskSet) → points_up_to set 0 ≡ []
points_of_none set =
    let none : 0 * cycle_of set ≡ 0 = omega arith in
    ap (points_from (is_plan_point set) 1) none

-- of one cycle more there are those of that cycle too
points_of_one_more : (set : TaskSet) (n : ℕ) → points_up_to set (suc n) ≡ points_up_to set n ++ points_in_cycle set (cycle_of set) n
points_of_one_more set n =
    filter-parts (is_plan_point set) 1 (n * cycle_of set + 1) (n * cycle_of set) (cycle_of set) (suc n * cycle_of set) (omega arith) (omega arith)

module _ (set : TaskSet) (first : List Job) (these : AreFirstJobs set first) where
  -- before the first slot the jobs of n cycles are due at the points of n cycles
  ReachesCycle-start : (n : ℕ) → ReachesCycle set (offline_jobs set (cycle_of set) n) 0 n (points_up_to set n)
  ReachesCycle-start zero =
      let none : ReachesCycle set [] 0 0 [] = record { rising = tt; due = AreDueAmong-from_Has [] [] (λ j at. absurd at); last = omega arith } in
      subst (ReachesCycle set [] 0 0) (sym (points_of_none set)) none
  ReachesCycle-start (suc n) =
      let cycle = cycle_of set in
      subst (ReachesCycle set (offline_jobs set cycle (suc n)) 0 (suc n)) (sym (points_of_one_more set n)) (ReachesCycle-next set first these (offline_jobs set cycle n) 0 n (points_up_to set n) (ReachesCycle-start n))

  -- their spans end where the last of those cycles does
  ends_of_start : (n : ℕ) → last_end 0 (spans (offline_jobs set (cycle_of set) n) 0 (points_up_to set n)) ≡ n * cycle_of set
  ends_of_start zero = rw (points_of_none set) (omega arith)
  ends_of_start (suc n) =
      let jobs = offline_jobs set (cycle_of set) (suc n) in
      let last = (ReachesCycle-start (suc n)).last in
      let low : 1 ≤ cycle_of set = cycle-positive set these.sound in
      last_end-from_any jobs 0 0 (points_up_to set (suc n)) (omega arith) ∙ last

  -- n copies of a plan's spans are the spans of n cycles
  spans_of_start : (n : ℕ) → copies_of (plan_spans set (cycle_of set)) n ≡ spans (offline_jobs set (cycle_of set) n) 0 (points_up_to set n)
  spans_of_start zero = ap (spans [] 0) (sym (points_of_none set))
  spans_of_start (suc n) =
      let cycle = cycle_of set in
      let jobs = offline_jobs set cycle n in
      ap (appended (plan_spans set cycle)) (spans_of_start n)
      ∙ spans_of_next_cycle set first these jobs 0 n (points_up_to set n) (ReachesCycle-start n) (ends_of_start n)
      ∙ ap (spans (offline_jobs set cycle (suc n)) 0) (sym (points_of_one_more set n))

  -- three are the spans before the first slot
  spans_before_start : copies_of (plan_spans set (cycle_of set)) 3 ≡ spans_of (cycle_of set) (scene_of set (cycle_of set) [])
  spans_before_start =
      let cycle = cycle_of set in
      let none : 0 / cycle ≡ 0 = zero-div cycle in
      let reach : 3 * cycle ≡ horizon cycle 0 = rw none (omega arith) in
      let last = (ReachesCycle-start 3).last ∙ reach in
      let jobs = sym (remaining-start set these.sound) in
      let points = sym (points_of-start set (3 * cycle) refl) in
      spans_of_start 3 ∙ λ i. spans_between (jobs i) (last i) 0 (points i)

-- the spans of a plan, three times one after the other, are those before the first slot
pub spans-first : (plan : PlanParts) → IsPlan plan → copies_of plan.spans 3 ≡ spans_of plan.cycle (scene_of plan.tasks plan.cycle [])
spans-first plan is_plan =
    let set = plan.tasks in
    let by_cycle = λ (c : ℕ) (whole : c ≡ cycle_of set) (spans_are : plan.spans ≡ plan_spans set c).
    subst (λ k. copies_of plan.spans 3 ≡ spans_of k (scene_of set k [])) (sym whole) (ap (λ xs. copies_of xs 3) (spans_are ∙ ap (plan_spans set) whole) ∙ spans_before_start set plan.jobs (AreFirstJobs-from_plan plan is_plan)) in
    by_cycle plan.cycle is_plan.cycle is_plan.spans
