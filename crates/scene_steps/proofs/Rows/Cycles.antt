-- The spans of the next cycle are a plan's spans, appended.
use Rattle.std.proofs.Common.{◌≡◌, ℕ, suc, ◌+◌, ◌*◌, ◌<◌, ◌≤◌, List, [], ◌∷◌, ◌++◌, map, sym, ap, ap₂, ◌∙◌, subst, inl, inr, ⊎_elim, arith}
use Rattle.std.specs.List.{range_with_len}
use Rattle.std.proofs.lemmas.List.Sorted.{IsPermutation-refl, IsPermutation-sym}
use Rattle.std.proofs.lemmas.List.Elements.{filter_agree}
use Rattle.slot_core.specs.declared.jobs.Job.{Job}
use Rattle.slot_core.specs.declared.tasks.TaskSet.{TaskSet}
use Rattle.slot_core.specs.Sets.Cycles.{cycle_of}
use Rattle.slot_core.specs.Offline.OfflineJobs.{cycle_jobs, later_job}
use Rattle.slot_core.specs.Keeping.Plans.{PlanParts, plan_spans, IsPlan}
use Rattle.slot_core.specs.Runs.Rising.{AreRising, last_point}
use Rattle.slot_core.specs.Runs.Spans.{spans_between}
use Rattle.slot_facts.proofs.Lists.Members.{Has, Has-append_cases, Has-append_left, Has-append_right, Has-filter, Has-range_with_len, AllByRecursion-at_Has, AllByRecursion-from_Has}
use Rattle.slot_facts.proofs.Lists.Permuted.{Has-permuted}
use Rattle.slot_facts.proofs.Offline.LaterJobs.{cycle_jobs-are_later, all_fit, later-due_after, later-due_by}
use Rattle.slot_facts.proofs.Plans.LaterPoints.{points_of_cycle}
use Rattle.slot_facts.proofs.Plans.PointsInAnyOrder.{is_point-among}
use Rattle.slot_facts.proofs.Plans.SetPoints.{planned, planned-within, is_plan_point, deadline-point}
use Rattle.slot_facts.proofs.Plans.SpanSums.{spans_between-permutation}
use Rattle.spare_capacity.specs.Recurrence.{last_end}
use Rattle.interval_build.specs.FirstJobs.{AreFirstJobs}
use Rattle.interval_build.specs.Rows.{rows_between}
use Rattle.interval_build.proofs.PlanSpans.{plan_spans-first, first_points, last_of_first_points}
use Rattle.slot_facts.proofs.Plans.CyclePoints.{is_cycle_point}
use Rattle.interval_build.proofs.FirstJobFacts.{AreFirstJobs-from_plan}
use Rattle.interval_build.proofs.Filled.{last_point-above}
use Rattle.interval_build.proofs.RisingPoints.{AreRising-filter}
use Rattle.interval_build.proofs.SpansOfCycle.{ArePlanSpans-plan_spans}
use Rattle.interval_row.specs.Changes.{appended}
use Rattle.interval_row.proofs.Cycles.{filled-appended}
use Rattle.scene_steps.specs.Rows.{spans, AreDueAmong}
use Rattle.scene_steps.specs.Steps.{points_in_cycle}
use Rattle.scene_steps.proofs.Rows.Bare.{bare, bare-spans_between, filled-spans}
use Rattle.scene_steps.proofs.Rows.Due.{Has-due, AreDueAmong-from_Has}
use Rattle.scene_steps.proofs.Rows.NextRows.{AreRising-append, last_point-append, last_point-plus, last_end-from_any, last_end-bare, rows_between-both, appended-rows_between, bare-appended}

-- the jobs are due at points that rise to the end of n cycles
pub record ReachesCycle (set : TaskSet) (jobs : List Job) (t n : ℕ) (points : List ℕ) : Type 0 where
  pub rising : AreRising t points
  pub due : AreDueAmong points jobs
  pub last : last_point t points ≡ n * cycle_of set

-- a job of a cycle is due in it, at one of its points
record IsDueInCycle (set : TaskSet) (n : ℕ) (job : Job) : Type 0 where
  after : n * cycle_of set < job.dl
  by : job.dl ≤ (n + 1) * cycle_of set
  point : Has (points_in_cycle set (cycle_of set) n) job.dl

-- no point is above the last
pub at_most_last : (s : ℕ) (points : List ℕ) (x : ℕ) → AreRising s points → Has points x → x ≤ last_point s points
at_most_last s [] x rising at = absurd at
at_most_last s (e ∷ points) x rising (inl same) = omega (arith, last_point-above e points rising.1)
at_most_last s (e ∷ points) x rising (inr at) = at_most_last e points x rising.1 at

-- the points of the first cycle of a set
abbrev set_points : TaskSet → List ℕ
set_points set = first_points set (cycle_jobs set (cycle_of set) 0)

module _ (set : TaskSet) (first : List Job) (these : AreFirstJobs set first) where
  -- each list of the jobs of the first cycle has its points
  set_points-is : set_points set ≡ first_points set first
  set_points-is =
      let jobs = cycle_jobs set (cycle_of set) 0 in
      filter_agree (is_cycle_point (cycle_of set) jobs) (is_cycle_point (cycle_of set) first)
      (is_point-among (cycle_of set) jobs first
      (λ j h. Has-permuted jobs first j these.listed h)
      (λ j h. Has-permuted first jobs j (IsPermutation-sym jobs first these.listed) h))
      (range_with_len 1 (cycle_of set))

  -- a plan's spans are the rows of the first cycle, but for their capacities
  bare-plan_spans : bare (plan_spans set (cycle_of set)) ≡ rows_between (cycle_jobs set (cycle_of set) 0) 0 (set_points set)
  bare-plan_spans =
      let cycle = cycle_of set in
      let jobs = cycle_jobs set cycle 0 in
      let is : plan_spans set cycle ≡ spans_between jobs cycle 0 (set_points set) = sym (ap (spans_between jobs cycle 0) set_points-is ∙ spans_between-permutation jobs first these.listed cycle 0 (first_points set first) ∙ plan_spans-first set first these) in
      ap bare is ∙ bare-spans_between jobs cycle 0 (set_points set)

  -- the points of a cycle are those of the first, so many cycles later
  points_in_cycle-later : (n : ℕ) → points_in_cycle set (cycle_of set) n ≡ map (λ e. e + n * cycle_of set) (set_points set)
  points_in_cycle-later n =
      points_of_cycle (cycle_of set) (planned set) n (n * cycle_of set + 1) (λ q at. (planned-within set these.sound these.feasible q at).1) (omega arith)

  -- they rise to its end
  rising_in_cycle : (n : ℕ) → AreRising (n * cycle_of set) (points_in_cycle set (cycle_of set) n)
  rising_in_cycle n =
      AreRising-filter (is_plan_point set) (n * cycle_of set) (n * cycle_of set + 1) (cycle_of set) (omega arith)

  -- which is the last of them
  last_in_cycle : (n : ℕ) → last_point (n * cycle_of set) (points_in_cycle set (cycle_of set) n) ≡ suc n * cycle_of set
  last_in_cycle n =
      let cycle = cycle_of set in
      let last = ap (last_point 0) set_points-is ∙ last_of_first_points set first these in
      rw (points_in_cycle-later n) (last_point-plus (n * cycle) 0 (n * cycle) (set_points set) (omega arith) ∙ ap (λ e. e + n * cycle) last ∙ omega arith)

  -- the jobs of a cycle are due in it, at its points
  due_in_cycle : (n : ℕ) (job : Job) → Has (cycle_jobs set (cycle_of set) n) job → IsDueInCycle set n job
  due_in_cycle n job at =
      let cycle = cycle_of set in
      let jobs = cycle_jobs set cycle 0 in
      let fit = all_fit set jobs these.sound these.feasible (IsPermutation-refl jobs) in
      let listed = subst (λ js. Has js job) (cycle_jobs-are_later set n these.sound these.feasible) at in
      let after = AllByRecursion-at_Has (λ (j : Job). n * cycle < j.dl) (map (later_job set cycle n) jobs) job (later-due_after set cycle n jobs fit) listed in
      let by = AllByRecursion-at_Has (λ (j : Job). j.dl ≤ (n + 1) * cycle) (map (later_job set cycle n) jobs) job (later-due_by set cycle n jobs fit) listed in
      let inside = Has-range_with_len (n * cycle + 1) cycle job.dl (omega arith) (omega arith) in
      record { after = after; by = by; point = Has-filter (is_plan_point set) (range_with_len (n * cycle + 1) cycle) job.dl inside (deadline-point set n job these.sound these.feasible at) }

  -- so one cycle more is reached with its jobs and its points
  pub ReachesCycle-next : (jobs : List Job) (t n : ℕ) (points : List ℕ) → ReachesCycle set jobs t n points → ReachesCycle set (jobs ++ cycle_jobs set (cycle_of set) n) t (suc n) (points ++ points_in_cycle set (cycle_of set) n)
  ReachesCycle-next jobs t n points reach =
      let more = points_in_cycle set (cycle_of set) n in
      record {
        rising = AreRising-append t points more reach.rising (rw reach.last (rising_in_cycle n));
        due = AreDueAmong-from_Has (points ++ more) (jobs ++ cycle_jobs set (cycle_of set) n) (λ j at.
            ⊎_elim
            (λ old. Has-append_left points more j.dl (Has-due points jobs j reach.due old))
            (λ new. Has-append_right points more j.dl (due_in_cycle n j new).point)
            (Has-append_cases jobs (cycle_jobs set (cycle_of set) n) j at));
        last = last_point-append t points more ∙ ap (λ s. last_point s more) reach.last ∙ last_in_cycle n;
      }

  -- the rows of both are the rows with those of the first cycle appended
  rows_of_next_cycle : (jobs : List Job) (t n : ℕ) (points : List ℕ) → ReachesCycle set jobs t n points → last_end 0 (rows_between jobs t points) ≡ n * cycle_of set → appended (rows_between (cycle_jobs set (cycle_of set) 0) 0 (set_points set)) (rows_between jobs t points) ≡ rows_between (jobs ++ cycle_jobs set (cycle_of set) n) t (points ++ points_in_cycle set (cycle_of set) n)
  rows_of_next_cycle jobs t n points reach ending =
      let cycle = cycle_of set in
      let new = cycle_jobs set cycle n in
      let more = points_in_cycle set cycle n in
      let early = AllByRecursion-from_Has (λ (j : Job). j.dl ≤ last_point t points) jobs (λ j at. at_most_last t points j.dl reach.rising (Has-due points jobs j reach.due at)) in
      let late = AllByRecursion-from_Has (λ (j : Job). last_point t points < j.dl) new (λ j at. omega (arith, reach.last, (due_in_cycle n j at).after)) in
      appended-rows_between set cycle n (cycle_jobs set cycle 0) (set_points set) (rows_between jobs t points) ending
      ∙ ap₂ (λ js ps. rows_between jobs t points ++ rows_between js (n * cycle) ps) (sym (cycle_jobs-are_later set n these.sound these.feasible)) (sym (points_in_cycle-later n))
      ∙ ap (λ s. rows_between jobs t points ++ rows_between new s more) (sym reach.last)
      ∙ sym (rows_between-both jobs new t points more reach.rising (rw reach.last (rising_in_cycle n)) early late)

  -- and so are the spans
  pub spans_of_next_cycle : (jobs : List Job) (t n : ℕ) (points : List ℕ) → ReachesCycle set jobs t n points → last_end 0 (spans jobs t points) ≡ n * cycle_of set → appended (plan_spans set (cycle_of set)) (spans jobs t points) ≡ spans (jobs ++ cycle_jobs set (cycle_of set) n) t (points ++ points_in_cycle set (cycle_of set) n)
  spans_of_next_cycle jobs t n points reach ending =
      let cycle = cycle_of set in
      let old = spans jobs t points in
      let cleared = bare-spans_between jobs (last_point t points) t points in
      let full = filled-spans old jobs t points reach.rising reach.due cleared in
      let next = ReachesCycle-next jobs t n points reach in
      let rows : bare (appended (plan_spans set cycle) old) ≡ rows_between (jobs ++ cycle_jobs set cycle n) t (points ++ points_in_cycle set cycle n) = bare-appended (plan_spans set cycle) old ∙ ap₂ appended bare-plan_spans cleared ∙ rows_of_next_cycle jobs t n points reach (ap (last_end 0) (sym cleared) ∙ last_end-bare 0 old ∙ ending) in
      filled-appended (plan_spans set cycle) old (ArePlanSpans-plan_spans set first these) (sym full)
      ∙ filled-spans (appended (plan_spans set cycle) old) (jobs ++ cycle_jobs set cycle n) t (points ++ points_in_cycle set cycle n) next.rising next.due rows

-- the spans with a plan's spans appended are the spans with the jobs and the points of the next cycle
pub spans-next_cycle : (plan : PlanParts) (jobs : List Job) (t n : ℕ) (points : List ℕ) → IsPlan plan → AreRising t points → AreDueAmong points jobs → t < last_point t points → last_point t points ≡ n * plan.cycle → appended plan.spans (spans jobs t points) ≡ spans (jobs ++ cycle_jobs plan.tasks plan.cycle n) t (points ++ points_in_cycle plan.tasks plan.cycle n)
spans-next_cycle plan jobs t n points is_plan rising due some last =
    let set = plan.tasks in
    let ending = last_end-from_any jobs 0 t points some in
    let by_cycle = λ (c : ℕ) (whole : c ≡ cycle_of set) (spans_are : plan.spans ≡ plan_spans set c) (at : last_point t points ≡ n * c).
    let reach : ReachesCycle set jobs t n points = record { rising = rising; due = due; last = at ∙ ap (λ k. n * k) whole } in
    let appends = spans_of_next_cycle set plan.jobs (AreFirstJobs-from_plan plan is_plan) jobs t n points reach (ending ∙ reach.last) in
    subst (λ k. appended plan.spans (spans jobs t points) ≡ spans (jobs ++ cycle_jobs set k n) t (points ++ points_in_cycle set k n)) (sym whole) (ap (λ xs. appended xs (spans jobs t points)) (spans_are ∙ ap (plan_spans set) whole) ∙ appends) in
    by_cycle plan.cycle is_plan.cycle is_plan.spans last
