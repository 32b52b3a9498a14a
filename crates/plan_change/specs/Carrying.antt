-- Which remaining jobs go on at a change of plan, in which order, and as which offers. Times of the
-- offers count from the change on.
use Rattle.std.specs.Prelude.{◌≡◌, ℕ, ◌+◌, ◌-◌, Bool, false, ◌||◌, not, List, [], ◌∷◌, Contains, filter, count_by, min, nat_lt, if◌then◌else◌}
use Rattle.std.specs.Ordering.{nat_cmp, is_lt}
use Rattle.std.specs.Cmp.Lexicographic.{slice_cmp}
use Rattle.slot_core.specs.declared.jobs.Job.{Job}
use Rattle.slot_core.specs.declared.tasks.TaskSet.{TaskSet}
use Rattle.slot_core.specs.Offline.Keys.{is_offline, key_order, row_of}
use Rattle.slot_core.specs.Offline.Windows.{raw_release}
use Rattle.slot_core.specs.Keeping.Executives.{Executive}
use Rattle.plan_change.specs.declared.keep.Keep.{Keep}
use Rattle.plan_change.specs.declared.keep.Keep.TheVariants.{Drop, Started, Graphs}
use Rattle.plan_change.specs.declared.offers.Offer.{Offer}

-- whether an offline job goes on at time c: none does, those that have run a slot, or all of the
-- instances of graphs that were released before c. What would be released at c itself is left to
-- the second plan, which begins there: it releases its own instances from c on, and where it has
-- the same graph the work would stand there twice
abbrev pub is_kept : Keep → TaskSet → ℕ → Job → Bool
is_kept Drop set c job = false
is_kept Started set c job = nat_lt job.left job.declared
is_kept Graphs set c job = nat_lt (raw_release set job) c

-- whether a remaining job goes on: each firm and sporadic one does
abbrev pub goes_on : Keep → TaskSet → ℕ → Job → Bool
goes_on keep set c job = not (is_offline job.key) || is_kept keep set c job

-- the order in which jobs are carried over: firm and sporadic ones by row, then offline ones by
-- deadline; level ones by key
abbrev pub carrying_order : Job → List ℕ
carrying_order job =
    (if is_offline job.key then 1 else 0)
    ∷ (if is_offline job.key then job.dl else row_of job.key)
    ∷ key_order job.key

-- the first job is carried over before the second
abbrev pub goes_first : Job → Job → Bool
goes_first a b = is_lt (slice_cmp nat_cmp (carrying_order a) (carrying_order b))

-- the job at its place among jobs in that order
abbrev pub with_carried : Job → List Job → List Job
with_carried job [] = job ∷ []
with_carried job (other ∷ jobs) =
    if goes_first other job then other ∷ with_carried job jobs else job ∷ other ∷ jobs

-- the jobs in that order
abbrev pub in_row_order : List Job → List Job
in_row_order [] = []
in_row_order (job ∷ jobs) = with_carried job (in_row_order jobs)

-- of the remaining jobs those that are carried over at time c, in their order
abbrev pub carried_jobs : Keep → TaskSet → ℕ → List Job → List Job
carried_jobs keep set c jobs = in_row_order (filter (goes_on keep set c) jobs)

-- the row of a job that is carried over: its own, of an offline job the next one that is free
abbrev pub row_in : ℕ → Job → ℕ
row_in next job = if is_offline job.key then next else row_of job.key

-- the next one that is free then
abbrev pub next_row : ℕ → Job → ℕ
next_row next job = if is_offline job.key then next + 1 else next

-- its offer in this row: the slots that it has left, and its deadline counted from time c on, cut
-- to the second plan's cycle
abbrev pub offer_of : ℕ → ℕ → ℕ → Job → Offer
offer_of c cycle row job =
    record { row = row; slots = job.left; within = min (job.dl - c) cycle }

-- the offers of these jobs; offline ones have rows from `next` on
abbrev pub offers_of : ℕ → ℕ → ℕ → List Job → List Offer
offers_of c cycle next [] = []
offers_of c cycle next (job ∷ jobs) =
    offer_of c cycle (row_in next job) job ∷ offers_of c cycle (next_row next job) jobs

-- how many of them have a deadline that is cut
abbrev pub cut_count : ℕ → ℕ → List Job → ℕ
cut_count c cycle jobs = count_by (λ (job : Job). nat_lt cycle (job.dl - c)) jobs

-- what an executive carries over: its jobs, and their offers to a plan with this cycle
abbrev pub carried_from : Keep → Executive → List Job
carried_from keep exec = carried_jobs keep exec.plan.tasks exec.scene.time exec.scene.jobs

abbrev pub offers_from : Keep → Executive → ℕ → ℕ → List Offer
offers_from keep exec cycle first =
    offers_of exec.scene.time cycle first (carried_from keep exec)

-- no offline job goes on
abbrev pub NoOfflineJobGoesOn : Keep → Executive → Type 0
NoOfflineJobGoesOn keep exec =
    (job : Job) → Contains (carried_from keep exec) job → is_offline job.key ≡ false
