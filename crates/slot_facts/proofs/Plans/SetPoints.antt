-- The points of a sound and feasible set.
use Rattle.std.proofs.Common.{ℕ, Bool, List, [], filter, ◌≡◌, ◌-◌, ◌*◌, ◌/◌, ap, arith, append-nil, ap₂, suc, ◌+◌, ◌≤◌, true, ◌++◌, le-leb, sym, subst, ◌∙◌}
use Rattle.std.specs.List.{range_with_len}
use Rattle.std.proofs.Math.Nat.{zero-div}
use Rattle.slot_core.specs.declared.tasks.TaskSet.{TaskSet}
use Rattle.slot_core.specs.Sets.Cycles.{cycle_of}
use Rattle.slot_core.specs.Offline.OfflineJobs.{cycle_jobs, later_job}
use Rattle.slot_core.specs.Runs.Points.{plan_points, is_point}
use Rattle.slot_core.specs.Runs.Scenes.{horizon, points_of}
use Rattle.std.specs.Prelude.{nat_le}
use Rattle.std.proofs.lemmas.Bool.{lt-leb}
use Rattle.std.proofs.lemmas.List.Elements.{filter-append}
use Rattle.slot_core.specs.declared.jobs.Job.{Job}
use Rattle.slot_core.specs.Feasibility.Feasible.{IsFeasible}
use Rattle.slot_core.specs.Keeping.Plans.{PlanParts, IsPlan}
use Rattle.slot_core.specs.Sets.Ranges.{is_sound}
use Rattle.slot_facts.proofs.Lists.Members.{Has, Contains-from_Has, Has-map_cases, Has-filter_passes, Has-range_with_len_bounds}
use Rattle.slot_facts.proofs.Offline.Jobs.{cycle-positive}
use Rattle.slot_facts.proofs.Offline.LaterJobs.{cycle_jobs-are_later, FitsInCycle-from_first}
use Rattle.slot_facts.proofs.Plans.LaterPoints.{is_point-later}
use Rattle.slot_facts.proofs.Plans.Points.{planned-bounds, point-from_planned, Has-deadline, Has-cycle}
use Rattle.slot_facts.proofs.Lists.RangeFilters.{filter-parts, filter-all, filter-none}

-- the points among n numbers from a on
abbrev pub points_from : (ℕ → Bool) → ℕ → ℕ → List ℕ
points_from p a n = filter p (range_with_len a n)

-- before the first slot the points are those of three cycles
pub points_of-start : (set : TaskSet) (n : ℕ) → n ≡ 3 * cycle_of set → points_of set (cycle_of set) [] ≡ filter (is_point (cycle_of set) (plan_points (cycle_of set) (cycle_jobs set (cycle_of set) 0)) []) (range_with_len 1 n)
points_of-start set n e =
    let none : 0 / cycle_of set ≡ 0 = zero-div (cycle_of set) in
    let reach : horizon (cycle_of set) 0 - 0 ≡ n = rw none (omega arith) in
    ap (λ k. filter (is_point (cycle_of set) (plan_points (cycle_of set) (cycle_jobs set (cycle_of set) 0)) []) (range_with_len 1 k)) reach

-- the set of a plan is feasible
pub feasible-from_plan : (plan : PlanParts) → IsPlan plan → IsFeasible plan.tasks (cycle_of plan.tasks)
feasible-from_plan plan is_plan = subst (IsFeasible plan.tasks) is_plan.cycle is_plan.feasible

-- the plan's points
abbrev pub planned : TaskSet → List ℕ
planned set = plan_points (cycle_of set) (cycle_jobs set (cycle_of set) 0)

-- none of them lies at 0 or past the cycle
pub planned-within : (set : TaskSet) → is_sound set ≡ true → IsFeasible set (cycle_of set) → (q : ℕ) → Has (planned set) q → (1 ≤ q) × (q ≤ cycle_of set)
planned-within set sound feasible q at =
    let jobs = cycle_jobs set (cycle_of set) 0 in
    planned-bounds
    (cycle_of set)
    jobs
    q
    (cycle-positive set sound)
    (λ j h. let fits = FitsInCycle-from_first set j sound feasible (Contains-from_Has jobs j h) in (omega (arith, fits.some, fits.room), fits.within))
    at

-- the test for a point of the set
abbrev pub is_plan_point : TaskSet → ℕ → Bool
is_plan_point set = is_point (cycle_of set) (planned set) []

-- a plan's point is one in every cycle
pub point_in_cycle : (set : TaskSet) (n q p : ℕ) → is_sound set ≡ true → IsFeasible set (cycle_of set) → Has (planned set) q → p ≡ q + n * cycle_of set → is_plan_point set p ≡ true
point_in_cycle set n q p sound feasible at e =
    let within = planned-within set sound feasible in
    let back = is_point-later (cycle_of set) (planned set) n q (λ r h. (within r h).1) (within q at).0 in
    ap (is_plan_point set) e ∙ (back ∙ point-from_planned (cycle_of set) (planned set) [] q at)

-- the end of each cycle is a point
pub end_of_cycle : (set : TaskSet) (n p : ℕ) → is_sound set ≡ true → IsFeasible set (cycle_of set) → p ≡ suc n * cycle_of set → is_plan_point set p ≡ true
end_of_cycle set n p sound feasible e =
    point_in_cycle set n (cycle_of set) p sound feasible (Has-cycle (cycle_of set) (cycle_jobs set (cycle_of set) 0)) (omega arith)

-- so is the deadline of each job of a cycle
pub deadline-point : (set : TaskSet) (n : ℕ) (job : Job) → is_sound set ≡ true → IsFeasible set (cycle_of set) → Has (cycle_jobs set (cycle_of set) n) job → is_plan_point set job.dl ≡ true
deadline-point set n job sound feasible at =
    let jobs = cycle_jobs set (cycle_of set) 0 in
    let listed = subst (λ js. Has js job) (cycle_jobs-are_later set n sound feasible) at in
    let first = Has-map_cases (later_job set (cycle_of set) n) jobs job listed in
    point_in_cycle set n first.0.dl job.dl sound feasible (Has-deadline (cycle_of set) jobs first.0 first.1) (sym (ap (λ (j : Job). j.dl) first.2))

-- the points up to the end of a cycle are the first of those further on
pub first_of_points : (p : ℕ → Bool) (cycle n : ℕ) → filter (λ e. nat_le e cycle) (points_from p 1 (cycle + n)) ≡ points_from p 1 cycle
first_of_points p cycle n =
    let low = filter-all (λ e. nat_le e cycle) (points_from p 1 cycle) (λ x at.
    let bounds = Has-range_with_len_bounds 1 cycle x (Has-filter_passes p (range_with_len 1 cycle) x at).0 in
    le-leb x cycle (omega (arith, bounds.1))) in
    let high = filter-none (λ e. nat_le e cycle) (points_from p (1 + cycle) n) (λ x at.
    let bounds = Has-range_with_len_bounds (1 + cycle) n x (Has-filter_passes p (range_with_len (1 + cycle) n) x at).0 in
    lt-leb x cycle (omega (arith, bounds.0))) in
    ap (filter (λ e. nat_le e cycle)) (filter-parts p 1 (1 + cycle) cycle n (cycle + n) (omega arith) (omega arith)) ∙ (filter-append (λ e. nat_le e cycle) (points_from p 1 cycle) (points_from p (1 + cycle) n) ∙ (ap₂ (λ xs ys. xs ++ ys) low high ∙ append-nil (points_from p 1 cycle)))
