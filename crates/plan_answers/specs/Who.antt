-- Who is in the window that fails.
use Rattle.std.specs.Prelude.{ℕ, ◌+◌, ◌*◌, ◌<◌, ◌^◌, Bool, ◌&&◌, List, [], ◌∷◌, ◌++◌, codes, filter, flat_map, map, nat_le, nat_lt, slice_get, if◌then◌else◌}
use Rattle.std.specs.List.{range_with_len}
use Rattle.std.specs.Option.{option_map_or}
use Rattle.slot_core.specs.declared.jobs.Job.{Job}
use Rattle.slot_core.specs.declared.jobs.Window.{Window}
use Rattle.slot_core.specs.declared.tasks.Sporadic.{Sporadic}
use Rattle.slot_core.specs.declared.tasks.TaskSet.{TaskSet}
use Rattle.slot_core.specs.Sets.Cycles.{cycle_of}
use Rattle.slot_core.specs.Offline.OfflineJobs.{cycle_jobs, later_job}
use Rattle.slot_core.specs.Keeping.Plans.{in_deadline_order}
use Rattle.slot_core.specs.Feasibility.Feasible.{counterexample}
use Rattle.slot_core.specs.Feasibility.Sporadics.{arrivals_due, densest_pattern}
use Rattle.slot_core.specs.Output.FaultTexts.{infeasible_text}
use Rattle.slot_core.specs.Output.Reports.{job_line}
use Rattle.slot_core.specs.Output.Texts.{worded}
use Rattle.cycle_plan.specs.NearJobs.{instance_of}

-- the job starts and is due inside the window
abbrev pub is_inside : Window → Job → Bool
is_inside w job = nat_le w.from job.est && nat_le job.dl w.until

-- the jobs of one cycle, in deadline order
abbrev pub ordered_jobs : TaskSet → List Job
ordered_jobs set = in_deadline_order (cycle_jobs set (cycle_of set) 0)

-- the same jobs one cycle later
abbrev pub next_jobs : TaskSet → List Job
next_jobs set = map (later_job set (cycle_of set) 1) (ordered_jobs set)

-- the jobs inside the window: those of the first cycle, and of the next where it ends past the
-- first
abbrev pub jobs_inside : TaskSet → Window → List Job
jobs_inside set w =
    filter (is_inside w) (ordered_jobs set)
    ++ (if nat_lt (cycle_of set) w.until then filter (is_inside w) (next_jobs set) else [])

-- the densest arrivals from the start of the window that are due by its end, as pairs of the
-- sporadic task and a time
abbrev pub arrivals_inside : TaskSet → Window → List (ℕ × ℕ)
arrivals_inside set w = densest_pattern 0 set.sporadics [] w.from w.until

-- arrival, the sporadic task, its time and its deadline, and its slots
abbrev pub arrived_line : Sporadic → ℕ → List ℕ
arrived_line s time =
    worded (worded (worded (codes "arrival " ++ s.name) time) (time + s.deadline)) s.wcet
    ++ 10 ∷ []

-- the lines of the densest arrivals from a that are due by b
abbrev pub arrived_lines : ℕ → ℕ → Sporadic → List ℕ
arrived_lines a b s =
    flat_map
    (λ m. arrived_line s (a + m * s.separation))
    (range_with_len 0 (arrivals_due s 0 a b))

-- the line of an arrival of a task of the set
abbrev pub arrival_line : TaskSet → ℕ × ℕ → List ℕ
arrival_line set (index, time) =
    option_map_or (λ (s : Sporadic). arrived_line s time) (slice_get set.sporadics index) []

-- the line of the window, as the check names it
abbrev pub window_line : Window → List ℕ
window_line w = infeasible_text w ++ 10 ∷ []

-- that line, a line for each job inside the window, and a line for each arrival
abbrev pub window_text : TaskSet → Window → List ℕ
window_text set w =
    window_line w
    ++ flat_map (job_line set) (jobs_inside set w)
    ++ flat_map (arrival_line set) (arrivals_inside set w)

-- who is in the counterexample to the feasibility of a set, or that it fits
abbrev pub who_text : TaskSet → List ℕ
who_text set =
    option_map_or (window_text set) (counterexample set (cycle_of set)) (codes "within\n")

-- the line of the job, where it is inside the window
abbrev pub inside_line : TaskSet → Window → Job → List ℕ
inside_line set w job = if is_inside w job then job_line set job else []

-- numbers of a job that are far from an overflow
abbrev pub IsSmall : Job → Type 0
IsSmall job = (job.est < 2 ^ 32) × (job.dl < 2 ^ 32) × (instance_of job.key < 2 ^ 32)
