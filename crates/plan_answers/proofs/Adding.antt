-- What is inside a window adds up to its demand.
use Rattle.std.proofs.Common.{◌≡◌, ℕ, zero, suc, ◌+◌, ◌-◌, ◌*◌, ◌<◌, ◌≤◌, max, Bool, true, false, cond, List, [], ◌∷◌, ◌++◌, length, map, get_or, Option, None, Some, refl, sym, ap, subst, ◌∙◌, arith}
use Rattle.std.specs.Prelude.{filter, nat_le, nat_lt, ◌&&◌, sum_by, slice_get, if◌then◌else◌}
use Rattle.std.specs.List.{range_with_len}
use Rattle.std.specs.Option.{option_map_or}
use Rattle.std.proofs.lemmas.Bool.Decides.{nat_tests}
use Rattle.std.proofs.lemmas.List.Sums.{sum_by-append}
use Rattle.std.proofs.lemmas.List.FromFn.{length-range_with_len}
use Rattle.slot_core.specs.declared.jobs.Job.{Job}
use Rattle.slot_core.specs.declared.jobs.Window.{Window}
use Rattle.slot_core.specs.declared.tasks.Sporadic.{Sporadic}
use Rattle.slot_core.specs.declared.tasks.TaskSet.{TaskSet}
use Rattle.slot_core.specs.Feasibility.Feasible.{declared_within, demand, window_demand}
use Rattle.slot_core.specs.Feasibility.Sporadics.{arrivals_due, densest_arrivals, densest_pattern, sporadic_demand}
use Rattle.slot_core.specs.Offline.OfflineJobs.{cycle_jobs, later_job}
use Rattle.slot_core.specs.Sets.Cycles.{cycle_of}
use Rattle.slot_facts.proofs.Lists.SameItems.{same-from_permutation}
use Rattle.slot_facts.proofs.Lists.Sums.{sum_by-agree, sum_by-constant, sum_by-filter, sum_by-map}
use Rattle.slot_facts.proofs.Plans.InOrder.{IsPermutation-in_order}
use Rattle.slot_facts.proofs.Plans.SpanSums.{window_demand-same}
use Rattle.plan_answers.specs.Laws.{arrival_slots}
use Rattle.plan_answers.specs.Who.{arrivals_inside, is_inside, jobs_inside, next_jobs, ordered_jobs}
use Rattle.plan_answers.proofs.Insides.{slice_get-later}

-- a job inside a window counts with its slots
first_counts : (est a dl b d : ℕ) → cond (nat_le a est && nat_le dl b) d 0 ≡ (if nat_le a (est + 0) && nat_le (dl + 0) b then d else 0)
first_counts est a dl b d = grind (arith, nat_tests)

next_counts : (est a dl b d cycle : ℕ) → cond (nat_le a (est + 1 * cycle) && nat_le (dl + 1 * cycle) b) d 0 ≡ (if nat_le a (est + cycle) && nat_le (dl + cycle) b then d else 0)
next_counts est a dl b d cycle = grind (arith, nat_tests)

first-slots : (w : Window) (jobs : List Job) → sum_by (λ (j : Job). j.declared) (filter (is_inside w) jobs) ≡ declared_within jobs 0 w.from w.until
first-slots w jobs =
    sum_by-filter (λ (j : Job). j.declared) (is_inside w) jobs
    ∙ sum_by-agree (λ (j : Job). cond (is_inside w j) j.declared 0) (λ (j : Job). if nat_le w.from (j.est + 0) && nat_le (j.dl + 0) w.until then j.declared else 0) jobs (λ k d _. first_counts (get_or jobs k d).est w.from (get_or jobs k d).dl w.until (get_or jobs k d).declared)

next-slots : (set : TaskSet) (cycle : ℕ) (w : Window) (jobs : List Job) → sum_by (λ (j : Job). j.declared) (filter (is_inside w) (map (later_job set cycle 1) jobs)) ≡ declared_within jobs cycle w.from w.until
next-slots set cycle w jobs =
    sum_by-filter (λ (j : Job). j.declared) (is_inside w) (map (later_job set cycle 1) jobs)
    ∙ sum_by-map (λ (j : Job). cond (is_inside w j) j.declared 0) (later_job set cycle 1) jobs
    ∙ sum_by-agree (λ (j : Job). cond (is_inside w (later_job set cycle 1 j)) (later_job set cycle 1 j).declared 0) (λ (j : Job). if nat_le w.from (j.est + cycle) && nat_le (j.dl + cycle) w.until then j.declared else 0) jobs (λ k d _. next_counts (get_or jobs k d).est w.from (get_or jobs k d).dl w.until (get_or jobs k d).declared cycle)

-- of the next cycle only where the window ends past the first
past-slots : (set : TaskSet) (w : Window) (past : Bool) → sum_by (λ (j : Job). j.declared) (if past then filter (is_inside w) (next_jobs set) else []) ≡ (if past then declared_within (ordered_jobs set) (cycle_of set) w.from w.until else 0)
past-slots set w true = next-slots set (cycle_of set) w (ordered_jobs set)
past-slots set w false = refl

jobs-slots : (set : TaskSet) (w : Window) → sum_by (λ (j : Job). j.declared) (jobs_inside set w) ≡ declared_within (ordered_jobs set) 0 w.from w.until + (if nat_lt (cycle_of set) w.until then declared_within (ordered_jobs set) (cycle_of set) w.from w.until else 0)
jobs-slots set w =
    omega (arith, sum_by-append (λ (j : Job). j.declared) (filter (is_inside w) (ordered_jobs set)) (if nat_lt (cycle_of set) w.until then filter (is_inside w) (next_jobs set) else []), first-slots w (ordered_jobs set), past-slots set w (nat_lt (cycle_of set) w.until))

-- the arrivals of one task
task-slots : (set : TaskSet) (s : Sporadic) (index a b : ℕ) → slice_get set.sporadics index ≡ Some s → sum_by (arrival_slots set) (densest_arrivals index s 0 a b) ≡ s.wcet * arrivals_due s 0 a b
task-slots set s index a b at =
    let places = range_with_len 0 (arrivals_due s 0 a b) in
    let each = λ (m : ℕ). arrival_slots set (index, max a 0 + m * s.separation) in
    let slots : (m : ℕ) → each m ≡ s.wcet = λ m. ap (λ o. option_map_or (λ (x : Sporadic). x.wcet) o 0) at in
    let whole : sum_by (arrival_slots set) (densest_arrivals index s 0 a b) ≡ length places * s.wcet = sum_by-map (arrival_slots set) (λ (m : ℕ). (index, max a 0 + m * s.separation)) places ∙ sum_by-agree each (λ _. s.wcet) places (λ k d _. slots (get_or places k d)) ∙ sum_by-constant s.wcet places in
    omega (arith, whole, ap (λ n. n * s.wcet) (length-range_with_len 0 (arrivals_due s 0 a b)))

-- of these tasks, which stand in the set from this index on
tasks-slots : (set : TaskSet) (ss : List Sporadic) (index a b : ℕ) → ((i : ℕ) (s : Sporadic) → slice_get ss i ≡ Some s → slice_get set.sporadics (index + i) ≡ Some s) → sum_by (arrival_slots set) (densest_pattern index ss [] a b) ≡ sporadic_demand ss [] a b
tasks-slots set [] index a b at = refl
tasks-slots set (s ∷ ss) index a b at =
    let same : index + 0 ≡ index = omega arith in
    let first : slice_get set.sporadics index ≡ Some s = subst (λ n. slice_get set.sporadics n ≡ Some s) same (at 0 s refl) in
    let later = λ (i : ℕ) (x : Sporadic) (here : slice_get ss i ≡ Some x). let next : index + (i + 1) ≡ index + 1 + i = omega arith in subst (λ n. slice_get set.sporadics n ≡ Some x) next (at (i + 1) x (slice_get-later s ss i x here)) in
    omega (arith, sum_by-append (arrival_slots set) (densest_arrivals index s 0 a b) (densest_pattern (index + 1) ss [] a b), task-slots set s index a b first, tasks-slots set ss (index + 1) a b later)

-- so both add up to the demand
pub inside-demand : (set : TaskSet) (w : Window) → sum_by (λ (j : Job). j.declared) (jobs_inside set w) + sum_by (arrival_slots set) (arrivals_inside set w) ≡ demand set (cycle_of set) w.from w.until
inside-demand set w =
    let first = cycle_jobs set (cycle_of set) 0 in
    let same = window_demand-same first (ordered_jobs set) set.sporadics (cycle_of set) w.from w.until (same-from_permutation first (ordered_jobs set) (IsPermutation-in_order first)) in
    let arrivals = tasks-slots set set.sporadics 0 w.from w.until (λ i s at. let here : i ≡ 0 + i = omega arith in subst (λ n. slice_get set.sporadics n ≡ Some s) here at) in
    omega (arith, jobs-slots set w, arrivals, same)
