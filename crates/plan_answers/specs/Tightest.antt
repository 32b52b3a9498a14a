-- The window with the least slack: its slots less the slots that are needed in it.
use Rattle.std.specs.Prelude.{ℕ, ◌+◌, ◌-◌, ◌*◌, Bool, true, ◌&&◌, List, fold, Option, Some, None, nat_lt, if◌then◌else◌}
use Rattle.std.specs.List.{range_with_len}
use Rattle.std.specs.Option.{option_map_or, option_or}
use Rattle.slot_core.specs.declared.jobs.Job.{Job}
use Rattle.slot_core.specs.declared.jobs.Window.{Window}
use Rattle.slot_core.specs.declared.tasks.Sporadic.{Sporadic}
use Rattle.slot_core.specs.declared.tasks.TaskSet.{TaskSet}
use Rattle.slot_core.specs.Offline.OfflineJobs.{cycle_jobs}
use Rattle.slot_core.specs.Feasibility.Feasible.{window_demand, failing_window}

-- the window [a, b), in which so many slots are needed
abbrev pub window_of : ℕ → ℕ → ℕ → Window
window_of a b needed = record { from = a; until = b; demand = needed }

-- the first window has less slack than the second
abbrev pub has_less_slack : Window → Window → Bool
has_less_slack v w = nat_lt ((v.until - v.from) + w.demand) ((w.until - w.from) + v.demand)

-- of the window that is kept, if there is one, and the next: the next where some slots are needed
-- in it and it has less slack
abbrev pub tighter : Option Window → Window → Option Window
tighter kept next =
    if nat_lt 0 next.demand && option_map_or (has_less_slack next) kept true
    then Some next
    else kept

-- of the window that is kept and those that start at a, by this need of a window by its end
abbrev pub tightest_by : (ℕ → ℕ) → ℕ → Option Window → ℕ → Option Window
tightest_by need cycle kept a =
    fold
    (λ best b. tighter best (window_of a b (need b)))
    kept
    (range_with_len (a + 1) (2 * cycle - a))

-- of all windows that start in the first cycle and end in the first two, in which some slots are
-- needed: the first with the least slack, by start and then by end
abbrev pub tightest_in : List Job → List Sporadic → ℕ → Option Window
tightest_in jobs sporadics cycle =
    fold
    (λ kept a. tightest_by (window_demand jobs sporadics cycle a) cycle kept a)
    None
    (range_with_len 0 cycle)

-- the window that a load tells: the whole cycle where it fails, as in the cycle test, else the
-- tightest
abbrev pub tightest : TaskSet → ℕ → Option Window
tightest set cycle =
    let jobs = cycle_jobs set cycle 0 in
    option_or
    (failing_window jobs set.sporadics cycle 0 cycle)
    (tightest_in jobs set.sporadics cycle)
