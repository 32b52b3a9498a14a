-- One slot of earliest deadline first keeps the demand bound.
use Rattle.std.proofs.Common.{◌≡◌, ℕ, ◌+◌, ◌*◌, ◌-◌, ◌<◌, ◌≤◌, Bool, true, false, cond, List, [], ◌∷◌, Option, Some, None, inl, inr, arith, refl, sym, subst}
use Rattle.std.specs.Prelude.{sum_by, All, nat_le, nat_lt, ◌&&◌, max}
use Rattle.std.specs.List.{AllByRecursion, range_with_len}
use Rattle.std.proofs.lemmas.Bool.{leb-false, ltb-false, le-leb}
use Rattle.std.specs.Option.{option_map_or}
use Rattle.std.proofs.lemmas.Bool.Decides.{nat_tests}
use Rattle.std.proofs.lemmas.List.Elements.{recursion_from_All}
use Rattle.std.proofs.lemmas.List.Sums.{sum_by-cons, sum_by-le-sum_by}
use Rattle.std.proofs.Math.Nat.{mul-le-mul_left}
use Rattle.slot_core.specs.declared.jobs.Key.{Key}
use Rattle.slot_core.specs.declared.jobs.Job.{Job}
use Rattle.slot_core.specs.declared.tasks.Sporadic.{Sporadic}
use Rattle.slot_core.specs.declared.events.Ran.TheVariants.{Idle, Key as KeyRan}
use Rattle.slot_core.specs.Offline.Keys.{same_key}
use Rattle.slot_core.specs.Feasibility.Sporadics.{arrivals_due, sporadic_demand}
use Rattle.slot_core.specs.Runs.Demand.{work_by, work_from}
use Rattle.slot_core.specs.Runs.Choice.{earliest, ready, earliest_ready}
use Rattle.slot_core.specs.Claims.Safety.{after_run, after_slot, IsSafe}
use Rattle.slot_core.specs.Runs.Scenes.{Scene}
use Rattle.slot_facts.proofs.Lists.Members.{Has, Has-filter, Has-filter_passes, AllByRecursion-from_Has}
use Rattle.slot_facts.proofs.Choice.Earliest.{equal_itself, IsEarliest-from_earliest, least_due}
use Rattle.slot_facts.proofs.Choice.SameEarliest.{earliest_of}
use Rattle.slot_facts.proofs.Lists.Sums.{cond-le}

-- the sum of the slots left of the jobs whose start and deadline pass the test
abbrev pub work_where : (ℕ → ℕ → Bool) → List Job → ℕ
work_where test jobs = sum_by (λ (j : Job). cond (test j.est j.dl) j.left 0) jobs

-- the slots left that pass, of one job
abbrev left_where : (ℕ → ℕ → Bool) → Job → ℕ
left_where test j = cond (test j.est j.dl) j.left 0

-- a job without a slot left counts for nothing
work_where-kept : (test : ℕ → ℕ → Bool) (j : Job) (jobs : List Job) → work_where test (cond (nat_lt 0 j.left) (j ∷ jobs) jobs) ≡ left_where test j + work_where test jobs
work_where-kept test j jobs = by_test (nat_lt 0 j.left) refl
  where
    by_test : (b : Bool) → nat_lt 0 j.left ≡ b → work_where test (cond b (j ∷ jobs) jobs) ≡ left_where test j + work_where test jobs
    by_test true e = sum_by-cons (left_where test) j jobs
    by_test false e = omega (arith, ltb-false 0 j.left e, cond-le (test j.est j.dl) j.left)

-- the job after a slot in which the job of this key ran
abbrev pub job_after : Key → Job → Job
job_after key j = cond (same_key j.key key) (record j { left = j.left - 1 }) j

cond-less : (b : Bool) (n : ℕ) → cond b (n - 1) 0 ≤ cond b n 0
cond-less true n = omega arith
cond-less false n = omega arith

left_where-after : (test : ℕ → ℕ → Bool) (key : Key) (j : Job) → left_where test (job_after key j) ≤ left_where test j
left_where-after test key j = by_test (same_key j.key key)
  where
    by_test : (b : Bool) → left_where test (cond b (record j { left = j.left - 1 }) j) ≤ left_where test j
    by_test true = cond-less (test j.est j.dl) j.left
    by_test false = omega arith

-- a slot leaves no more work
work_where-after : (test : ℕ → ℕ → Bool) (key : Key) (jobs : List Job) → work_where test (after_run key jobs) ≤ work_where test jobs
work_where-after test key [] = omega arith
work_where-after test key (j ∷ jobs) =
    omega (arith, work_where-kept test (job_after key j) (after_run key jobs), left_where-after test key j, work_where-after test key jobs, sum_by-cons (left_where test) j jobs)

-- where the job that ran passes the test, a slot leaves less work
left_where-ran : (test : ℕ → ℕ → Bool) (job : Job) → 1 ≤ job.left → test job.est job.dl ≡ true → left_where test (job_after job.key job) + 1 ≤ left_where test job
left_where-ran test job some passes =
    rw (equal_itself _) (rw passes (omega arith))

work_where-ran : (test : ℕ → ℕ → Bool) (job : Job) (jobs : List Job) → AllByRecursion (λ (j : Job). 1 ≤ j.left) jobs → test job.est job.dl ≡ true → Has jobs job → work_where test (after_run job.key jobs) + 1 ≤ work_where test jobs
work_where-ran test job [] some passes among = absurd among
work_where-ran test job (j ∷ jobs) some passes (inl same) =
    omega (arith, work_where-kept test (job_after job.key j) (after_run job.key jobs), here, work_where-after test job.key jobs, sum_by-cons (left_where test) j jobs)
  where
    here : left_where test (job_after job.key j) + 1 ≤ left_where test j
    here =
        subst
        (λ (k : Job). left_where test (job_after job.key k) + 1 ≤ left_where test k)
        (sym same)
        (left_where-ran test job (rw same at some.0) passes)
work_where-ran test job (j ∷ jobs) some passes (inr among) =
    omega (arith, work_where-kept test (job_after job.key j) (after_run job.key jobs), left_where-after test job.key j, work_where-ran test job jobs some.1 passes among, sum_by-cons (left_where test) j jobs)

counted : (late early x : ℕ) → early ≤ late → cond (nat_le late x) 1 0 ≤ cond (nat_le early x) 1 0
counted late early x h = grind (arith, nat_tests)

-- the arrivals that are due are no more from a later time on
pub arrivals_due-later : (s : Sporadic) (next r later x : ℕ) → r ≤ later → arrivals_due s next later x ≤ arrivals_due s next r x
arrivals_due-later s next r later x h =
    sum_by-le-sum_by _ _ (range_with_len 0 (x + 1)) (λ m. counted (max later next + m * s.separation + s.deadline) (max r next + m * s.separation + s.deadline) x (omega arith))

pub sporadic_demand-later : (sporadics : List Sporadic) (nexts : List ℕ) (r later x : ℕ) → r ≤ later → sporadic_demand sporadics nexts later x ≤ sporadic_demand sporadics nexts r x
sporadic_demand-later [] nexts r later x h = omega arith
sporadic_demand-later (s ∷ ss) [] r later x h =
    omega (arith, mul-le-mul_left s.wcet (arrivals_due-later s 0 r later x h), sporadic_demand-later ss [] r later x h)
sporadic_demand-later (s ∷ ss) (n ∷ ns) r later x h =
    omega (arith, mul-le-mul_left s.wcet (arrivals_due-later s n r later x h), sporadic_demand-later ss ns r later x h)

-- where each job that is ready is due after x, the work due by x is that of the jobs that start later
starts_later : (t x est dl left : ℕ) → (est ≤ t → x < dl) → cond (nat_le dl x) left 0 ≤ cond (nat_le (t + 1) est && nat_le dl x) left 0
starts_later t x est dl left h = grind (arith, nat_tests)

work_by-le-work_from : (t x : ℕ) (jobs : List Job) → AllByRecursion (λ (j : Job). j.est ≤ t → x < j.dl) jobs → work_by jobs x ≤ work_from jobs (t + 1) x
work_by-le-work_from t x [] h = omega arith
work_by-le-work_from t x (j ∷ jobs) h =
    let by_x = λ (j : Job). cond (nat_le j.dl x) j.left 0 in
    let from_t = λ (j : Job). cond (nat_le (t + 1) j.est && nat_le j.dl x) j.left 0 in
    omega (arith, sum_by-cons by_x j jobs, sum_by-cons from_t j jobs, starts_later t x j.est j.dl j.left h.0, work_by-le-work_from t x jobs h.1)

-- the bound at x, where each job that is ready is due after it
none_is_due : (sporadics : List Sporadic) (nexts : List ℕ) (jobs : List Job) (t end x : ℕ) → IsSafe sporadics nexts jobs t end → t + 1 ≤ x → x ≤ end → ((job : Job) → Has jobs job → job.est ≤ t → x < job.dl) → work_by jobs x + sporadic_demand sporadics nexts (t + 1) x ≤ x - (t + 1)
none_is_due sporadics nexts jobs t end x safe low high late =
    let later = work_by-le-work_from t x jobs (AllByRecursion-from_Has (λ (j : Job). j.est ≤ t → x < j.dl) jobs late) in
    omega (arith, later, safe.to_come (t + 1) x (omega arith) low high)

-- the bound at x, where a job runs that is due no later than any that is ready
one_runs : (sporadics : List Sporadic) (nexts : List ℕ) (jobs : List Job) (t end x : ℕ) (job : Job) → All (λ (j : Job). 1 ≤ j.left) jobs → IsSafe sporadics nexts jobs t end → Has jobs job → ((other : Job) → Has jobs other → other.est ≤ t → job.dl ≤ other.dl) → t + 1 ≤ x → x ≤ end → work_by (after_run job.key jobs) x + sporadic_demand sporadics nexts (t + 1) x ≤ x - (t + 1)
one_runs sporadics nexts jobs t end x job some safe at first low high = by_test (nat_le job.dl x) refl
  where
    by_test : (b : Bool) → nat_le job.dl x ≡ b → work_by (after_run job.key jobs) x + sporadic_demand sporadics nexts (t + 1) x ≤ x - (t + 1)
    by_test true is_due =
        omega (arith, work_where-ran (λ est dl. nat_le dl x) job jobs (recursion_from_All _ jobs some) is_due at, sporadic_demand-later sporadics nexts t (t + 1) x (omega arith), safe.due x (omega arith) high)
    by_test false is_due =
        let late = λ (other : Job) (among : Has jobs other) (come : other.est ≤ t).
        let after : x < other.dl = omega (arith, leb-false job.dl x is_due, first other among come) in after in
        omega (arith, work_where-after (λ est dl. nat_le dl x) job.key jobs, none_is_due sporadics nexts jobs t end x safe low high late)

-- from jobs that are safe up to `end`, a slot in which one runs that is due no later than any that is
-- ready leads to jobs that are safe up to `end`
pub run_keeps_safe : (sporadics : List Sporadic) (nexts : List ℕ) (jobs : List Job) (t end : ℕ) (job : Job) → All (λ (j : Job). 1 ≤ j.left) jobs → IsSafe sporadics nexts jobs t end → Has jobs job → ((other : Job) → Has jobs other → other.est ≤ t → job.dl ≤ other.dl) → IsSafe sporadics nexts (after_run job.key jobs) (t + 1) end
run_keeps_safe sporadics nexts jobs t end job some safe at first =
    record {
      due = λ x low high. one_runs sporadics nexts jobs t end x job some safe at first low high;
      to_come = λ a x low middle high. omega (arith, safe.to_come a x (omega arith) middle high, work_where-after (λ est dl. nat_le a est && nat_le dl x) job.key jobs);
    }

-- an idle slot, where none is ready, leaves them safe up to `end`
pub idle_keeps_safe : (sporadics : List Sporadic) (nexts : List ℕ) (jobs : List Job) (t end : ℕ) → IsSafe sporadics nexts jobs t end → ((job : Job) → Has jobs job → t < job.est) → IsSafe sporadics nexts jobs (t + 1) end
idle_keeps_safe sporadics nexts jobs t end safe late =
    record {
      due = λ x low high. none_is_due sporadics nexts jobs t end x safe low high (λ job at come. absurd (omega (arith, late job at)));
      to_come = λ a x low middle high. safe.to_come a x (omega arith) middle high;
    }

-- where none is the earliest of the ready jobs, each starts later
pub none_is_ready : (t : ℕ) (jobs : List Job) (job : Job) → earliest (ready t jobs) ≡ None → Has jobs job → t < job.est
none_is_ready t jobs job none at = by_test (nat_le job.est t) refl
  where
    by_test : (b : Bool) → nat_le job.est t ≡ b → t < job.est
    by_test true come =
        absurd (earliest_of (ready t jobs) job (Has-filter (λ (j : Job). nat_le j.est t) jobs job at come) none)
    by_test false later = leb-false job.est t later

-- from a scene that is safe up to `end`, the slot that runs the earliest ready job, or is idle where none
-- is ready, leads to one that is safe up to `end`
pub one_slot : (sporadics : List Sporadic) (scene : Scene) (end : ℕ) → All (λ (j : Job). 1 ≤ j.left) scene.jobs → scene.time < end → IsSafe sporadics scene.nexts scene.jobs scene.time end → IsSafe sporadics scene.nexts (after_slot (earliest_ready scene) scene.jobs) (scene.time + 1) end
one_slot sporadics scene end some early safe = by_chosen (earliest (ready scene.time scene.jobs)) refl
  where
    by_chosen : (c : Option Job) → earliest (ready scene.time scene.jobs) ≡ c → IsSafe sporadics scene.nexts (after_slot (option_map_or (λ (j : Job). KeyRan j.key) c Idle) scene.jobs) (scene.time + 1) end
    by_chosen None e =
        idle_keeps_safe sporadics scene.nexts scene.jobs scene.time end safe (λ job at. none_is_ready scene.time scene.jobs job e at)
    by_chosen (Some job) e =
        let come = λ (j : Job). nat_le j.est scene.time in
        let most = IsEarliest-from_earliest (ready scene.time scene.jobs) job e in
        run_keeps_safe sporadics scene.nexts scene.jobs scene.time end job some safe (Has-filter_passes come scene.jobs job most.among).0 λ other at ready_now.
        least_due (ready scene.time scene.jobs) job other most (Has-filter come scene.jobs other at (le-leb other.est scene.time ready_now))
