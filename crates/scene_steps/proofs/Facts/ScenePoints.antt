-- The points of a legal history: they rise to the horizon, and each deadline is one of them.
use Rattle.std.proofs.Common.{◌≡◌, ℕ, zero, suc, ◌+◌, ◌-◌, ◌*◌, ◌/◌, ◌<◌, ◌≤◌, Bool, true, false, cond, List, [], ◌∷◌, ◌++◌, map, length, refl, ap, ◌∙◌, inl, inr, arith}
use Rattle.std.specs.List.{range_with_len}
use Rattle.std.proofs.lemmas.Bool.{or_cases, or_left, or_right, false≢true}
use Rattle.slot_core.specs.declared.jobs.Job.{Job}
use Rattle.slot_core.specs.declared.tasks.TaskSet.{TaskSet}
use Rattle.slot_core.specs.Sets.Cycles.{cycle_of}
use Rattle.slot_core.specs.Sets.Ranges.{is_sound}
use Rattle.slot_core.specs.Offline.OfflineJobs.{cycle_jobs, offline_jobs}
use Rattle.slot_core.specs.Feasibility.Feasible.{IsFeasible}
use Rattle.slot_core.specs.Runs.Points.{is_point}
use Rattle.slot_core.specs.Runs.Rising.{AreRising, last_point}
use Rattle.slot_core.specs.Runs.Histories.{History, time_of, firm_jobs, sporadic_jobs}
use Rattle.slot_core.specs.Runs.Scenes.{horizon, guaranteed_in, points_of}
use Rattle.slot_facts.proofs.Lists.Members.{Has, Has-append_left, Has-append_right, Has-append_cases, Has-map, Has-filter, Has-range_with_len}
use Rattle.slot_facts.proofs.Lists.RangeFilters.{length-filter_range}
use Rattle.slot_facts.proofs.Lists.Tests.{equal-from_Has}
use Rattle.slot_facts.proofs.Offline.Jobs.{cycle-positive}
use Rattle.slot_facts.proofs.Plans.Horizons.{past_now}
use Rattle.slot_facts.proofs.Plans.SetPoints.{planned, points_from, is_plan_point, end_of_cycle, deadline-point}
use Rattle.interval_build.proofs.RisingPoints.{AreRising-filter}

-- where a number more or none closes with e in both cases, e is the last point
last_point-cond : (b : Bool) (s a : ℕ) (xs : List ℕ) (e : ℕ) → last_point s xs ≡ e → last_point a xs ≡ e → last_point s (cond b (a ∷ xs) xs) ≡ e
last_point-cond true s a xs e skip take = take
last_point-cond false s a xs e skip take = skip

-- where the last number of a range passes, it is the last point
last_point-range : (p : ℕ → Bool) (s a n e : ℕ) → e ≡ a + n → p e ≡ true → last_point s (points_from p a (suc n)) ≡ e
last_point-range p s a zero e at passes =
    let same : a ≡ e = omega arith in
    rw (same, passes) refl
last_point-range p s a (suc n) e at passes =
    last_point-cond
    (p a)
    s
    a
    (points_from p (a + 1) (suc n))
    e
    (last_point-range p s (a + 1) n e (omega arith) passes)
    (last_point-range p a (a + 1) n e (omega arith) passes)

-- a plan's point is one beside any other points
plan_point-beside : (cycle : ℕ) (of_plan own : List ℕ) (p : ℕ) → is_point cycle of_plan [] p ≡ true → is_point cycle of_plan own p ≡ true
plan_point-beside cycle of_plan own p passes =
    elim (or_cases _ false passes) [ inl a ↦ or_left _ _ a | inr none ↦ absurd (false≢true none) ]

-- each of those others is a point
own_point : (cycle : ℕ) (of_plan own : List ℕ) (p : ℕ) → Has own p → is_point cycle of_plan own p ≡ true
own_point cycle of_plan own p at = or_right _ _ (equal-from_Has own p at)

-- the deadline of an offline job is a plan's point
offline-point : (set : TaskSet) (cycles : ℕ) (job : Job) → is_sound set ≡ true → IsFeasible set (cycle_of set) → Has (offline_jobs set (cycle_of set) cycles) job → is_plan_point set job.dl ≡ true
offline-point set zero job sound feasible at = absurd at
offline-point set (suc n) job sound feasible at =
    elim (Has-append_cases (offline_jobs set (cycle_of set) n) (cycle_jobs set (cycle_of set) n) job at) [
      | inl early ↦ offline-point set n job sound feasible early
      | inr late ↦ deadline-point set n job sound feasible late
    ]

-- the deadlines of the jobs that came at run time
abbrev own_deadlines : TaskSet → History → List ℕ
own_deadlines set h = map (λ (j : Job). j.dl) (firm_jobs h ++ sporadic_jobs set.sporadics h)

-- the test for a point of a history
abbrev is_point_of : TaskSet → History → ℕ → Bool
is_point_of set h = is_point (cycle_of set) (planned set) (own_deadlines set h)

-- the deadline of each guaranteed job is a point
guaranteed-point : (set : TaskSet) (cycles : ℕ) (h : History) (job : Job) → is_sound set ≡ true → IsFeasible set (cycle_of set) → Has (guaranteed_in set (cycle_of set) cycles h) job → is_point_of set h job.dl ≡ true
guaranteed-point set cycles h job sound feasible at =
    let cycle = cycle_of set in
    let offline = offline_jobs set cycle cycles in
    let firm = firm_jobs h in
    let sporadic = sporadic_jobs set.sporadics h in
    let came = λ (listed : Has (firm ++ sporadic) job).
    own_point cycle (planned set) (own_deadlines set h) job.dl (Has-map (λ (j : Job). j.dl) (firm ++ sporadic) job listed) in
    elim (Has-append_cases (offline ++ firm) sporadic job at) [
      | inl a ↦ elim (Has-append_cases offline firm job a) [
        | inl b ↦ plan_point-beside cycle (planned set) (own_deadlines set h) job.dl (offline-point set cycles job sound feasible b)
        | inr b ↦ came (Has-append_left firm sporadic job b)
      ]
      | inr a ↦ came (Has-append_right firm sporadic job a)
    ]

-- so it is listed where it is due later, up to the horizon
pub guaranteed-due_at_point : (set : TaskSet) (cycles : ℕ) (h : History) (job : Job) → is_sound set ≡ true → IsFeasible set (cycle_of set) → Has (guaranteed_in set (cycle_of set) cycles h) job → time_of h < job.dl → job.dl ≤ horizon (cycle_of set) (time_of h) → Has (points_of set (cycle_of set) h) job.dl
guaranteed-due_at_point set cycles h job sound feasible at later near =
    let t = time_of h in
    let count = horizon (cycle_of set) t - t in
    Has-filter (is_point_of set h) (range_with_len (t + 1) count) job.dl (Has-range_with_len (t + 1) count job.dl (omega arith) (omega arith)) (guaranteed-point set cycles h job sound feasible at)

-- the points rise from the time
pub points_of-rising : (set : TaskSet) (h : History) → AreRising (time_of h) (points_of set (cycle_of set) h)
points_of-rising set h =
    let t = time_of h in
    AreRising-filter (is_point_of set h) t (t + 1) (horizon (cycle_of set) t - t) (omega arith)

-- the last one is the horizon
pub points_of-last : (set : TaskSet) (h : History) → is_sound set ≡ true → IsFeasible set (cycle_of set) → last_point (time_of h) (points_of set (cycle_of set) h) ≡ horizon (cycle_of set) (time_of h)
points_of-last set h sound feasible =
    let t = time_of h in
    let cycle = cycle_of set in
    let end = horizon (cycle_of set) (time_of h) in
    let past = past_now t cycle (cycle-positive set sound) in
    let count : horizon (cycle_of set) (time_of h) - time_of h ≡ suc (horizon (cycle_of set) (time_of h) - suc (time_of h)) = omega (arith, past) in
    let closes : end ≡ suc (t / cycle + 2) * cycle = omega arith in
    let is_end = plan_point-beside cycle (planned set) (own_deadlines set h) end (end_of_cycle set (t / cycle + 2) end sound feasible closes) in
    ap (λ n. last_point t (points_from (is_point_of set h) (t + 1) n)) count ∙ last_point-range (is_point_of set h) t (t + 1) (end - suc t) end (omega (arith, past)) is_end

-- there are no more than slots up to it
pub points_of-few : (set : TaskSet) (h : History) → length (points_of set (cycle_of set) h) ≤ horizon (cycle_of set) (time_of h) - time_of h
points_of-few set h =
    length-filter_range (is_point_of set h) (time_of h + 1) (horizon (cycle_of set) (time_of h) - time_of h)
