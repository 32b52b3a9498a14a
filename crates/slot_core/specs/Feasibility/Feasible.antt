-- The cycle test: the processor demand of every window (Baruah, Rosier and Howell 1990).
use Rattle.std.specs.Prelude.{ℕ, ◌+◌, ◌-◌, ◌*◌, ◌≤◌, ◌<◌, ◌&&◌, List, [], ◌∷◌, sum_by, Option, Some, None, nat_le, nat_lt, if◌then◌else◌}
use Rattle.std.specs.Option.{option_or}
use Rattle.std.specs.List.{range_with_len}
use Rattle.slot_core.specs.declared.jobs.Job.{Job}
use Rattle.slot_core.specs.declared.jobs.Window.{Window}
use Rattle.slot_core.specs.declared.tasks.Sporadic.{Sporadic}
use Rattle.slot_core.specs.declared.tasks.TaskSet.{TaskSet}
use Rattle.slot_core.specs.Offline.OfflineJobs.{cycle_jobs}
use Rattle.slot_core.specs.Feasibility.Sporadics.{sporadic_demand}

-- the declared slots of the jobs that start at or after a and are due by b, their windows shifted
abbrev pub declared_within : List Job → ℕ → ℕ → ℕ → ℕ
declared_within jobs shift a b =
    sum_by
    (λ (j : Job). if nat_le a (j.est + shift) && nat_le (j.dl + shift) b then j.declared else 0)
    jobs

-- the demand of the window [a, b): the jobs of the first cycle, and of the next where b is past the
-- first, with window inside it, and the densest sporadic arrivals from a that are due by b
abbrev pub window_demand : List Job → List Sporadic → ℕ → ℕ → ℕ → ℕ
window_demand jobs sporadics cycle a b =
    declared_within jobs 0 a b
    + (if nat_lt cycle b then declared_within jobs cycle a b else 0)
    + sporadic_demand sporadics [] a b

-- the demand of a window of a set
abbrev pub demand : TaskSet → ℕ → ℕ → ℕ → ℕ
demand set cycle a b = window_demand (cycle_jobs set cycle 0) set.sporadics cycle a b

-- no window that starts in the first cycle and ends in the first two has more demand than slots
abbrev pub IsFeasible : TaskSet → ℕ → Type 0
IsFeasible set cycle = (a b : ℕ) → a < cycle → a < b → b ≤ 2 * cycle → demand set cycle a b ≤ b - a

-- the window, where its demand is more than its slots
abbrev pub failing_window : List Job → List Sporadic → ℕ → ℕ → ℕ → Option Window
failing_window jobs sporadics cycle a b =
    let needed = window_demand jobs sporadics cycle a b in
    if nat_lt (b - a) needed then Some (record { from = a; until = b; demand = needed }) else None

-- the first of the values that is there
abbrev pub first_some : {X : Type 0} → (ℕ → Option X) → List ℕ → Option X
first_some f [] = None
first_some f (n ∷ ns) = option_or (f n) (first_some f ns)

-- the failing window of least end that starts at a, or none
abbrev pub first_failing_from : List Job → List Sporadic → ℕ → ℕ → Option Window
first_failing_from jobs sporadics cycle a =
    first_some (failing_window jobs sporadics cycle a) (range_with_len (a + 1) (2 * cycle - a))

-- the counterexample to feasibility: the whole cycle where it fails, else the failing window of
-- least start and then of least end; none where no window fails
abbrev pub counterexample_in : List Job → List Sporadic → ℕ → Option Window
counterexample_in jobs sporadics cycle =
    option_or
    (failing_window jobs sporadics cycle 0 cycle)
    (first_some (first_failing_from jobs sporadics cycle) (range_with_len 0 cycle))

-- the counterexample to the feasibility of a set
abbrev pub counterexample : TaskSet → ℕ → Option Window
counterexample set cycle = counterexample_in (cycle_jobs set cycle 0) set.sporadics cycle
