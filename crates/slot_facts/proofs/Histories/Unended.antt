-- The jobs that have not ended in a history, and what a slot changes in them.
use Rattle.std.proofs.Common.{◌≡◌, ℕ, ◌+◌, ◌-◌, ◌<◌, ◌≤◌, true, false, not, cond, List, [], ◌∷◌, filter, refl, ap, sym, inl, inr, nat_le, arith, ◌/◌, ◌++◌, append-nil, ◌∙◌}
use Rattle.std.proofs.lemmas.Bool.{not-true}
use Rattle.std.proofs.lemmas.List.Elements.{All-map, All-weaker, filter_passes, filter-append}
use Rattle.std.proofs.lemmas.List.Sums.{sum_by-cons}
use Rattle.std.proofs.lemmas.Bool.Decides.{nat_tests}
use Rattle.std.specs.Prelude.{All}
use Rattle.slot_core.specs.declared.jobs.Key.{Key}
use Rattle.slot_core.specs.declared.jobs.Job.{Job}
use Rattle.slot_core.specs.declared.events.What.TheVariants.{Run}
use Rattle.slot_core.specs.Runs.Histories.{History, executed, is_freed}
use Rattle.slot_core.specs.Runs.Scenes.{has_ended, with_left, unended, remaining}
use Rattle.slot_core.specs.Runs.Demand.{work_by}
use Rattle.slot_core.specs.Claims.Safety.{after_run, after_slot}
use Rattle.slot_facts.proofs.Lists.Members.{Has, Has-map, Has-map_cases, Has-filter, Has-filter_passes, Contains-from_Has}
use Rattle.std.proofs.Math.Nat.{zero-div}
use Rattle.slot_core.specs.declared.tasks.TaskSet.{TaskSet}
use Rattle.slot_core.specs.Sets.Cycles.{cycle_of}
use Rattle.slot_core.specs.Sets.Ranges.{is_sound}
use Rattle.slot_core.specs.Offline.OfflineJobs.{offline_jobs}
use Rattle.slot_facts.proofs.Offline.Windows.{IsOfCycle-from_offline}
use Rattle.std.proofs.lemmas.List.{map-append}
use Rattle.slot_core.specs.declared.events.Ran.{Ran}
use Rattle.slot_core.specs.declared.events.Ran.TheVariants.{Idle as RanIdle, Key as RanKey}
use Rattle.slot_core.specs.Runs.Traces.{told_of_slot}

-- a job that has not ended is among the unended ones, with its slots left
pub Has-unended : (h : History) (jobs : List Job) (job : Job) → has_ended h job ≡ false → Has jobs job → Has (unended h jobs) (with_left h job)
Has-unended h jobs job runs at =
    Has-map (with_left h) _ job (Has-filter (λ j. not (has_ended h j)) jobs job at (ap not runs))

-- the job is one of the list that has not ended, with its slots left
pub record IsUnended (h : History) (jobs : List Job) (job own : Job) : Type 0 where
  pub listed : Has jobs own
  pub runs : has_ended h own ≡ false
  pub same : job ≡ with_left h own

-- each unended job is one of the list
pub unended_own : (h : History) (jobs : List Job) (job : Job) → Has (unended h jobs) job → (own : Job) × IsUnended h jobs job own
unended_own h jobs job at =
    let m = Has-map_cases (with_left h) (filter (λ j. not (has_ended h j)) jobs) job at in
    let f = Has-filter_passes (λ j. not (has_ended h j)) jobs m.0 m.1 in
    (m.0, record { listed = f.0; runs = not-true (has_ended h m.0) f.1; same = sym m.2 })

-- a job that has not ended has a slot left
some_left : (h : History) (job : Job) → has_ended h job ≡ false → 1 ≤ job.declared - executed job.key h
some_left h job runs = grind (arith, nat_tests)

-- every unended job has a slot left
pub unended_have_left : (h : History) (jobs : List Job) → All (λ (j : Job). 1 ≤ j.left) (unended h jobs)
unended_have_left h jobs =
    let test = λ (j : Job). not (has_ended h j) in
    All-map
    (λ (j : Job). 1 ≤ j.left)
    (with_left h)
    (filter test jobs)
    (All-weaker
    (λ (j : Job). test j ≡ true)
    (λ (j : Job). 1 ≤ j.declared - executed j.key h)
    (λ j passes. some_left h j (not-true (has_ended h j) passes))
    (filter test jobs)
    (filter_passes test jobs))

-- the work that is due, one job at a time
work_by-cons : (j : Job) (js : List Job) (x : ℕ) → work_by (j ∷ js) x ≡ (cond (nat_le j.dl x) j.left 0) + work_by js x
work_by-cons j js x = sum_by-cons (λ (j : Job). cond (nat_le j.dl x) j.left 0) j js

-- where no work is due by x, each job with a slot left is due later
due_later : (dl left x rest : ℕ) → cond (nat_le dl x) left 0 + rest ≤ 0 → 1 ≤ left → x < dl
due_later dl left x rest none some = grind (arith, nat_tests)

pub later-from_no_work : (jobs : List Job) (job : Job) (x : ℕ) → work_by jobs x ≤ 0 → Has jobs job → 1 ≤ job.left → x < job.dl
later-from_no_work [] job x none at some = absurd at
later-from_no_work (j ∷ js) job x none (inl e) some =
    let split = work_by-cons j js x in
    due_later job.dl job.left x (work_by js x) (rw (sym e) (rw split at none)) some
later-from_no_work (j ∷ js) job x none (inr at) some =
    let split = work_by-cons j js x in
    later-from_no_work js job x (omega (arith, split)) at some

-- where no work that is left is due by x, a job that has not ended is due later
pub unended_due : (h : History) (jobs : List Job) (job : Job) (x : ℕ) → work_by (unended h jobs) x ≤ 0 → Has jobs job → has_ended h job ≡ false → x < job.dl
unended_due h jobs job x none at runs =
    later-from_no_work (unended h jobs) (with_left h job) x none (Has-unended h jobs job runs at) (some_left h job runs)

-- no slot of the job has run and it has not ended early, and its slots left are those that it declares
pub record IsFresh (h : History) (job : Job) : Type 0 where
  pub none : executed job.key h ≡ 0
  pub kept : is_freed job.key h ≡ false
  pub some : 1 ≤ job.declared
  pub whole : job.left ≡ job.declared

-- such a job has all its slots left
with_left-fresh : (h : History) (job : Job) → IsFresh h job → with_left h job ≡ job
with_left-fresh h job fresh =
    let e : job.declared - executed job.key h ≡ job.left = omega (arith, fresh.none, fresh.whole) in
    ap (λ n. record job { left = n }) e

-- and has not ended
unended_fresh-cons : (h : History) (j : Job) (js : List Job) → executed j.key h ≡ 0 → is_freed j.key h ≡ false → 1 ≤ j.declared → with_left h j ≡ j → unended h js ≡ js → unended h (j ∷ js) ≡ j ∷ js
unended_fresh-cons h j js none kept some same rest = grind (arith, nat_tests)

pub unended-fresh : (h : History) (jobs : List Job) → ((job : Job) → Has jobs job → IsFresh h job) → unended h jobs ≡ jobs
unended-fresh h [] fresh = refl
unended-fresh h (j ∷ js) fresh =
    let own = fresh j (inl refl) in
    unended_fresh-cons h j js own.none own.kept own.some (with_left-fresh h j own) (unended-fresh h js (λ job at. fresh job (inr at)))

-- so it is before the first entry
pub unended-start : (jobs : List Job) → ((job : Job) → Has jobs job → (1 ≤ job.declared) × (job.left ≡ job.declared)) → unended [] jobs ≡ jobs
unended-start jobs fresh =
    unended-fresh [] jobs (λ job at. let own = fresh job at in record { none = refl; kept = refl; some = own.0; whole = own.1 })

-- the jobs after a run, one job at a time
after_run-cons : (key : Key) (h : History) (job : Job) (jobs : List Job) → after_run key (unended h jobs) ≡ unended (Run key ∷ h) jobs → after_run key (unended h (job ∷ jobs)) ≡ unended (Run key ∷ h) (job ∷ jobs)
after_run-cons key h job jobs more = grind (arith, nat_tests)

-- the jobs after a run are the unended jobs of the longer history
pub after_run-unended : (key : Key) (h : History) (jobs : List Job) → after_run key (unended h jobs) ≡ unended (Run key ∷ h) jobs
after_run-unended key h [] = refl
after_run-unended key h (job ∷ jobs) = after_run-cons key h job jobs (after_run-unended key h jobs)

-- before the first slot all jobs of three cycles remain
pub remaining-start : (set : TaskSet) → is_sound set ≡ true → remaining set (cycle_of set) [] ≡ offline_jobs set (cycle_of set) 3
remaining-start set sound =
    let jobs = offline_jobs set (cycle_of set) 3 in
    let three : 0 / cycle_of set + 3 ≡ 3 = ap (λ n. n + 3) (zero-div (cycle_of set)) in
    let own = λ (job : Job) (at : Has jobs job).
    (IsOfCycle-from_offline set 3 job sound (Contains-from_Has jobs job at)).2 in
    ap (λ n. unended [] (offline_jobs set (cycle_of set) n ++ [] ++ [])) three ∙ (ap (unended []) (append-nil (jobs ++ []) ∙ append-nil jobs) ∙ unended-start jobs (λ job at. ((own job at).some, (own job at).whole)))

-- a slot changes the unended jobs as it changes a list of jobs
pub unended-after_slot : (ran : Ran) (h : History) (jobs : List Job) → unended (told_of_slot ran ∷ h) jobs ≡ after_slot ran (unended h jobs)
unended-after_slot RanIdle h jobs = refl
unended-after_slot (RanKey key) h jobs = sym (after_run-unended key h jobs)

-- the unended jobs of joined lists
pub unended-append : (h : History) (xs ys : List Job) → unended h (xs ++ ys) ≡ unended h xs ++ unended h ys
unended-append h xs ys = simp (filter-append, map-append)
