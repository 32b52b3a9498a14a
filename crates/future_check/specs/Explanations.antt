-- The jobs and the arrivals that stand against an offer, and the text that tells them.
use Rattle.std.specs.Prelude.{ℕ, ◌+◌, Bool, List, [], ◌∷◌, ◌++◌, codes, filter, flat_map, nat_le, slice_get, sum_by, if◌then◌else◌}
use Rattle.std.specs.Cmp.Lexicographic.{slice_cmp}
use Rattle.std.specs.Option.{option_map_or}
use Rattle.std.specs.Ordering.{nat_cmp, is_lt}
use Rattle.slot_core.specs.declared.jobs.Job.{Job}
use Rattle.slot_core.specs.declared.tasks.Sporadic.{Sporadic}
use Rattle.slot_core.specs.declared.tasks.TaskSet.{TaskSet}
use Rattle.slot_core.specs.Claims.Futures.{densest_until}
use Rattle.slot_core.specs.Keeping.Plans.{in_deadline_order}
use Rattle.slot_core.specs.Output.Texts.{key_text, sporadic_name, worded}
use Rattle.slot_core.specs.Runs.Scenes.{Scene}
use Rattle.future_check.specs.declared.faults.ExplainFault.{ExplainFault}
use Rattle.future_check.specs.declared.faults.ExplainFault.TheVariants.{Memory, Failed}

-- the remaining jobs that are due by a time, in deadline order
abbrev pub shown_jobs : Scene → ℕ → List Job
shown_jobs scene until = in_deadline_order (filter (λ (j : Job). nat_le j.dl until) scene.jobs)

-- the time of an arrival and its task; arrivals are ordered as these lists are
abbrev pub arrival_order : ℕ × ℕ → List ℕ
arrival_order a = a.1 ∷ a.0 ∷ []

-- the first arrival goes before the second: by time, then by task
abbrev pub goes_before : ℕ × ℕ → ℕ × ℕ → Bool
goes_before a b = is_lt (slice_cmp nat_cmp (arrival_order a) (arrival_order b))

-- the arrival at its place among arrivals in this order
abbrev pub with_arrival : ℕ × ℕ → List (ℕ × ℕ) → List (ℕ × ℕ)
with_arrival a [] = a ∷ []
with_arrival a (b ∷ pattern) =
    if goes_before b a then b ∷ with_arrival a pattern else a ∷ b ∷ pattern

-- the arrivals in this order
abbrev pub in_time_order : List (ℕ × ℕ) → List (ℕ × ℕ)
in_time_order [] = []
in_time_order (a ∷ pattern) = with_arrival a (in_time_order pattern)

-- the densest arrivals from the time of a scene on that are due by a time, in this order
abbrev pub shown_arrivals : TaskSet → Scene → ℕ → List (ℕ × ℕ)
shown_arrivals set scene until = in_time_order (densest_until set scene until)

-- the slots of a sporadic task
abbrev pub slots_of : List Sporadic → ℕ → ℕ
slots_of sporadics index = option_map_or (λ (s : Sporadic). s.wcet) (slice_get sporadics index) 0

-- the slots that the shown jobs have left, and those of the tasks of the shown arrivals
abbrev pub shown_slots : TaskSet → Scene → ℕ → ℕ
shown_slots set scene until =
    sum_by (λ (j : Job). j.left) (shown_jobs scene until)
    + sum_by (λ (a : ℕ × ℕ). slots_of set.sporadics a.0) (shown_arrivals set scene until)

-- the line of a job: its key, the slots that it has left, and its deadline
abbrev pub job_line : TaskSet → Job → List ℕ
job_line set j = worded (worded (codes "job " ++ key_text set j.key) j.left) j.dl ++ 10 ∷ []

-- the line of an arrival: the name of its task, and its time
abbrev pub arrival_line : TaskSet → ℕ × ℕ → List ℕ
arrival_line set a = worded (codes "arrival " ++ sporadic_name set a.0) a.1 ++ 10 ∷ []

-- the line of an offer: its slots, and its deadline
abbrev pub offer_line : ℕ → ℕ → List ℕ
offer_line slots dl = worded (worded (codes "offer") slots) dl ++ 10 ∷ []

-- the lines of jobs, of arrivals and of an offer
abbrev pub lines_of : TaskSet → List Job → List (ℕ × ℕ) → ℕ → ℕ → List ℕ
lines_of set jobs arrivals slots dl =
    flat_map (job_line set) jobs ++ flat_map (arrival_line set) arrivals ++ offer_line slots dl

-- the text that tells what stands against an offer of so many slots, due at `dl`: what is due by
-- `until`, and the offer
abbrev pub explanation : TaskSet → Scene → ℕ → ℕ → ℕ → List ℕ
explanation set scene slots dl until =
    lines_of set (shown_jobs scene until) (shown_arrivals set scene until) slots dl

-- what is wrong where an explanation is not told in whole
abbrev pub fault_text : ExplainFault → List ℕ
fault_text Memory = codes "out of memory"
fault_text Failed = codes "failed"
