-- A queue of safe jobs, run slot by slot: the earliest ready job first, idle where none is ready.
use Rattle.std.proofs.Common.{◌≡◌, ℕ, zero, suc, ◌+◌, ◌-◌, ◌<◌, ◌≤◌, Bool, true, false, cond, List, [], ◌∷◌, length, map, Option, Some, None, refl, sym, ap, ◌∙◌, subst, inl, inr, ◌⊎◌, arith}
use Rattle.std.proofs.lemmas.Bool.{cases_lt, false_from_ne_true, cond-false, ltb-true, leb-true, le-leb, lt-ltb}
use Rattle.std.proofs.lemmas.Bool.Decides.{nat_tests}
use Rattle.std.proofs.lemmas.List.Elements.{All-from_recursion}
use Rattle.std.proofs.lemmas.List.Sums.{sum_by-cons}
use Rattle.std.specs.Prelude.{slice_get, count_by, nat_le, nat_lt}
use Rattle.std.specs.Option.{option_map_or}
use Rattle.slot_core.specs.declared.jobs.Key.{Key}
use Rattle.slot_core.specs.declared.jobs.Job.{Job}
use Rattle.slot_core.specs.declared.tasks.TaskSet.{TaskSet}
use Rattle.slot_core.specs.declared.events.Ran.{Ran}
use Rattle.slot_core.specs.declared.events.Ran.TheVariants.{Idle, Key as KeyRan}
use Rattle.slot_core.specs.Offline.Keys.{same_key}
use Rattle.slot_core.specs.Offline.Windows.{precedes}
use Rattle.slot_core.specs.Runs.Choice.{earliest, ready, earliest_ready}
use Rattle.slot_core.specs.Claims.Safety.{after_slot, IsSafe}
use Rattle.slot_facts.proofs.Lists.MemberSums.{term-le_sum_by}
use Rattle.slot_facts.proofs.Lists.Sums.{cond-le}
use Rattle.slot_facts.proofs.Lists.Members.{Has, Has-filter, Has-filter_passes, Has-map, Has-map_cases, AllByRecursion-from_Has}
use Rattle.slot_facts.proofs.Choice.Earliest.{same_from_key, IsEarliest-from_earliest, least_due}
use Rattle.slot_facts.proofs.Offline.Windows.{IsBefore}
use Rattle.slot_facts.proofs.Demand.OneSlot.{one_slot}

-- what runs at time t: the earliest ready job of the queue
abbrev pub ran_at : ℕ → List Job → Ran
ran_at t queue = earliest_ready (record { time = t; jobs = queue; nexts = []; soft = []; points = [] })

-- what runs in each of n slots from time t on
abbrev pub runs : ℕ → ℕ → List Job → List Ran
runs zero t queue = []
runs (suc n) t queue = ran_at t queue ∷ runs n (t + 1) (after_slot (ran_at t queue) queue)

-- what runs is the job of this key
abbrev pub is_run_of : Key → Ran → Bool
is_run_of key Idle = false
is_run_of key (KeyRan k) = same_key key k

-- the job after a slot
abbrev pub job_after : Ran → Job → Job
job_after ran job = record job { left = job.left - cond (is_run_of job.key ran) 1 0 }

-- a queue of jobs of which no deadline up to `end` is at risk, each key once, predecessors before successors
pub record IsQueue (set : TaskSet) (queue : List Job) (t end : ℕ) : Type 0 where
  pub some : (job : Job) → Has queue job → 1 ≤ job.left
  pub apart : (a b : Job) → Has queue a → Has queue b → a.key ≡ b.key → a ≡ b
  pub before : (a b : Job) → Has queue a → Has queue b → precedes set a.key b.key ≡ true → IsBefore a b
  pub safe : IsSafe [] [] queue t end

-- what a run changes in a job, in the two forms
job_after-run : (key : Key) (job : Job) → cond (same_key job.key key) (record job { left = job.left - 1 }) job ≡ job_after (KeyRan key) job
job_after-run key job = by_test (same_key job.key key)
  where
    by_test : (b : Bool) → cond b (record job { left = job.left - 1 }) job ≡ record job { left = job.left - cond b 1 0 }
    by_test true = refl
    by_test false =
        let none : job.left ≡ job.left - 0 = omega arith in
        ap (λ n. record job { left = n }) none

job_after-idle : (job : Job) → job_after Idle job ≡ job
job_after-idle job =
    let none : job.left - 0 ≡ job.left = omega arith in
    ap (λ n. record job { left = n }) none

-- the members of a queue after a slot
Has-after_slot_cases : (ran : Ran) (queue : List Job) (job : Job) → ((j : Job) → Has queue j → 1 ≤ j.left) → Has (after_slot ran queue) job → (j : Job) × Has queue j × (job_after ran j ≡ job) × (1 ≤ job.left)
Has-after_slot_cases Idle queue job some at = (job, at, job_after-idle job, some job at)
Has-after_slot_cases (KeyRan key) queue job some at =
    let f = Has-filter_passes (λ (j : Job). nat_lt 0 j.left) _ job at in
    let m = Has-map_cases (λ (j : Job). cond (same_key j.key key) (record j { left = j.left - 1 }) j) queue job f.0 in
    (m.0, m.1, sym (job_after-run key m.0) ∙ m.2, ltb-true 0 job.left f.1)

-- and each job with a slot left then is such a member
Has-after_slot : (ran : Ran) (queue : List Job) (j : Job) → Has queue j → 1 ≤ j.left - cond (is_run_of j.key ran) 1 0 → Has (after_slot ran queue) (job_after ran j)
Has-after_slot Idle queue j at some = subst (Has queue) (sym (job_after-idle j)) at
Has-after_slot (KeyRan key) queue j at some =
    let step = λ (j : Job). cond (same_key j.key key) (record j { left = j.left - 1 }) j in
    let listed = subst (Has (map step queue)) (job_after-run key j) (Has-map step queue j at) in
    Has-filter (λ (j : Job). nat_lt 0 j.left) (map step queue) (job_after (KeyRan key) j) listed (lt-ltb 0 (j.left - cond (same_key j.key key) 1 0) some)

-- where no work is due by t, a job with a slot left is due later
later-by_case : (dl left t : ℕ) → cond (nat_le dl t) left 0 ≤ 0 → 1 ≤ left → t < dl
later-by_case dl left t none some = grind (arith, nat_tests)

-- so each job of a safe queue is due later
pub due_later : (queue : List Job) (job : Job) (t end : ℕ) → IsSafe [] [] queue t end → t ≤ end → Has queue job → 1 ≤ job.left → t < job.dl
due_later queue job t end safe low at some =
    let term = term-le_sum_by (λ (j : Job). cond (nat_le j.dl t) j.left 0) queue job at in
    let none : cond (nat_le job.dl t) job.left 0 ≤ 0 = omega (arith, term, safe.due t (omega arith) low) in
    later-by_case job.dl job.left t none some

-- a slot changes no window
IsBefore-after : (ran : Ran) (a b : Job) → IsBefore a b → IsBefore (job_after ran a) (job_after ran b)
IsBefore-after ran a b h = record { starts = h.starts; due = h.due }

-- the slot keeps the queue
pub IsQueue-after : (set : TaskSet) (queue : List Job) (t end : ℕ) → IsQueue set queue t end → t < end → IsQueue set (after_slot (ran_at t queue) queue) (t + 1) end
IsQueue-after set queue t end q early =
    let ran = ran_at t queue in
    let cases = λ (job : Job) (at : Has (after_slot ran queue) job). Has-after_slot_cases ran queue job q.some at in
    let some = All-from_recursion (λ (j : Job). 1 ≤ j.left) queue (AllByRecursion-from_Has (λ (j : Job). 1 ≤ j.left) queue q.some) in
    record {
      some = λ job at. (cases job at).3;
      apart = λ a b at_a at_b same.
          let ca = cases a at_a in
          let cb = cases b at_b in
          let own = q.apart ca.0 cb.0 ca.1 cb.1 (ap (λ (j : Job). j.key) ca.2 ∙ same ∙ sym (ap (λ (j : Job). j.key) cb.2)) in
          sym ca.2 ∙ ap (job_after ran) own ∙ cb.2;
      before = λ a b at_a at_b first.
          let ca = cases a at_a in
          let cb = cases b at_b in
          rw (← ca.2, ← cb.2) (IsBefore-after ran ca.0 cb.0 (q.before ca.0 cb.0 ca.1 cb.1 (rw (← ca.2, ← cb.2) at first)));
      safe = one_slot [] (record { time = t; jobs = queue; nexts = []; soft = []; points = [] }) end some early q.safe;
    }

-- what runs is idle, or a job of the queue whose start has come, and that is due no later than any other such
pub record IsChosen (queue : List Job) (t : ℕ) (job : Job) : Type 0 where
  pub among : Has queue job
  pub started : job.est ≤ t
  pub first : (other : Job) → Has queue other → other.est ≤ t → job.dl ≤ other.dl
  pub ran : ran_at t queue ≡ KeyRan job.key

-- in each slot either holds
pub ran_cases : (queue : List Job) (t : ℕ) → (ran_at t queue ≡ Idle) ⊎ ((job : Job) × IsChosen queue t job)
ran_cases queue t = go (earliest (ready t queue)) refl
  where
    go : (o : Option Job) → earliest (ready t queue) ≡ o → (ran_at t queue ≡ Idle) ⊎ ((job : Job) × IsChosen queue t job)
    go None e = inl (ap (λ (o : Option Job). option_map_or (λ (j : Job). KeyRan j.key) o Idle) e)
    go (Some job) e =
        let most = IsEarliest-from_earliest (ready t queue) job e in
        let own = Has-filter_passes (λ (j : Job). nat_le j.est t) queue job most.among in
        inr (
          job,
          record {
            among = own.0;
            started = leb-true job.est t own.1;
            first = λ other at late. least_due (ready t queue) job other most (Has-filter (λ (j : Job). nat_le j.est t) queue other at (le-leb other.est t late));
            ran = ap (λ (o : Option Job). option_map_or (λ (j : Job). KeyRan j.key) o Idle) e;
          },
        )

-- there is one run for each slot
pub length-runs : (n t : ℕ) (queue : List Job) → length (runs n t queue) ≡ n
length-runs zero t queue = refl
length-runs (suc n) t queue = ap suc (length-runs n (t + 1) (after_slot (ran_at t queue) queue))

-- the run at u is of this job of the queue, inside its window
pub record RunsInside (queue : List Job) (t u : ℕ) (key : Key) (job : Job) : Type 0 where
  pub among : Has queue job
  pub same : job.key ≡ key
  pub started : job.est ≤ t + u
  pub early : t + u < job.dl

-- a run after a slot is one of the queue before it
RunsInside-before : (queue later : List Job) (ran : Ran) (t u : ℕ) (key : Key) (j job : Job) → Has queue j → job_after ran j ≡ job → RunsInside later (t + 1) u key job → RunsInside queue t (suc u) key j
RunsInside-before queue later ran t u key j job at after r =
    record {
      among = at;
      same = ap (λ (k : Job). k.key) after ∙ r.same;
      started = omega (arith, r.started, ap (λ (k : Job). k.est) after);
      early = omega (arith, r.early, ap (λ (k : Job). k.dl) after);
    }

-- so is each run
pub runs_inside : (set : TaskSet) (n t end : ℕ) (queue : List Job) (u : ℕ) (key : Key) → IsQueue set queue t end → t + n ≡ end → slice_get (runs n t queue) u ≡ Some (KeyRan key) → (job : Job) × RunsInside queue t u key job
runs_inside set zero t end queue u key q e at = absurd (cc at)
runs_inside set (suc n) t end queue zero key q e at =
    elim (ran_cases queue t) [
      | inl idle ↦ absurd (cc (at, idle))
      | inr c ↦
          let job = c.0 in
          let same : KeyRan job.key ≡ KeyRan key = cc (at, c.1.ran) in
          (job, record { among = c.1.among; same = cc same; started = omega (arith, c.1.started); early = omega (arith, due_later queue job t end q.safe (omega arith) c.1.among (q.some job c.1.among)) })
    ]
runs_inside set (suc n) t end queue (suc u) key q e at =
    let later = IsQueue-after set queue t end q (omega arith) in
    let r = runs_inside set n (t + 1) end (after_slot (ran_at t queue) queue) u key later (omega arith) at in
    let c = Has-after_slot_cases (ran_at t queue) queue r.0 q.some r.1.among in
    (c.0, RunsInside-before queue (after_slot (ran_at t queue) queue) (ran_at t queue) t u key c.0 r.0 c.1 c.2 r.1)

-- each run of a job lies after every run of its predecessors
pub runs_in_order : (set : TaskSet) (n t end : ℕ) (queue : List Job) (u v : ℕ) (first second : Key) → IsQueue set queue t end → t + n ≡ end → slice_get (runs n t queue) u ≡ Some (KeyRan first) → slice_get (runs n t queue) v ≡ Some (KeyRan second) → precedes set first second ≡ true → u < v
runs_in_order set zero t end queue u v first second q e at_u at_v before = absurd (cc at_u)
runs_in_order set (suc n) t end queue (suc u) (suc v) first second q e at_u at_v before =
    let later = IsQueue-after set queue t end q (omega arith) in
    let r = runs_in_order set n (t + 1) end (after_slot (ran_at t queue) queue) u v first second later (omega arith) at_u at_v before in
    omega arith
runs_in_order set (suc n) t end queue zero (suc v) first second q e at_u at_v before = omega arith
runs_in_order set (suc n) t end queue u zero first second q e at_u at_v before =
    let a = runs_inside set (suc n) t end queue u first q e at_u in
    elim (ran_cases queue t) [
      | inl idle ↦ absurd (cc (at_v, idle))
      | inr c ↦
          let job = c.0 in
          let same : job.key ≡ second = cc (at_v, c.1.ran) in
          let order = q.before a.0 job a.1.among c.1.among (rw (a.1.same, same) before) in
          let early = due_later queue job t end q.safe (omega arith) c.1.among (q.some job c.1.among) in
          absurd (omega (arith, order.starts, order.due (omega arith), c.1.started, c.1.first a.0 a.1.among (omega (arith, order.starts, c.1.started)), early))
    ]

-- a job that is not in the queue does not run
pub runs_none : (n t : ℕ) (queue : List Job) (key : Key) → ((job : Job) → Has queue job → job.key ≡ key → ⊥) → ((job : Job) → Has queue job → 1 ≤ job.left) → count_by (is_run_of key) (runs n t queue) ≡ 0
runs_none zero t queue key none some = refl
runs_none (suc n) t queue key none some =
    let ran = ran_at t queue in
    let cases = λ (job : Job) (at : Has (after_slot ran queue) job). Has-after_slot_cases ran queue job some at in
    let later = runs_none n (t + 1) (after_slot ran queue) key (λ job at same. none (cases job at).0 (cases job at).1 (ap (λ (j : Job). j.key) (cases job at).2 ∙ same)) (λ job at. (cases job at).3) in
    let other : is_run_of key ran ≡ false = elim (ran_cases queue t) [
      | inl idle ↦ ap (is_run_of key) idle
      | inr c ↦ ap (is_run_of key) c.1.ran ∙ false_from_ne_true (same_key key c.0.key) (λ same. none c.0 c.1.among (sym (same_from_key key c.0.key same)))
    ] in
    omega (arith, later, sum_by-cons (λ r. cond (is_run_of key r) 1 0) ran (runs n (t + 1) (after_slot ran queue)), cond-false {A = ℕ} (is_run_of key ran) 1 0 other)

-- each job of the queue that is due by the end runs its slots left
pub runs_served : (set : TaskSet) (n t end : ℕ) (queue : List Job) (job : Job) → IsQueue set queue t end → t + n ≡ end → Has queue job → job.dl ≤ end → count_by (is_run_of job.key) (runs n t queue) ≡ job.left
runs_served set zero t end queue job q e at due =
    absurd (omega (arith, due_later queue job t end q.safe (omega arith) at (q.some job at)))
runs_served set (suc n) t end queue job q e at due =
    go (cases_lt 0 left_after) (λ more. runs_served set n (t + 1) end (after_slot ran queue) (job_after ran job) later (omega arith) (Has-after_slot ran queue job at more) due)
  where
    ran : Ran
    ran = ran_at t queue

    left_after : ℕ
    left_after = job.left - cond (is_run_of job.key ran) 1 0

    one : cond (is_run_of job.key ran) 1 0 ≤ 1
    one = cond-le (is_run_of job.key ran) 1

    later : IsQueue set (after_slot ran queue) (t + 1) end
    later = IsQueue-after set queue t end q (omega arith)

    none : left_after ≤ 0 → (other : Job) → Has (after_slot ran queue) other → other.key ≡ job.key → ⊥
    none zeros other there same =
        let c = Has-after_slot_cases ran queue other q.some there in
        let own : c.0 ≡ job = q.apart c.0 job c.1 at (ap (λ (j : Job). j.key) c.2 ∙ same) in
        let left : (job_after ran job).left ≡ other.left = ap (λ (j : Job). j.left) (ap (job_after ran) (sym own) ∙ c.2) in
        absurd (omega (arith, left, c.3))

    go : (0 < left_after) ⊎ (left_after ≤ 0) → (0 < left_after → count_by (is_run_of job.key) (runs n (t + 1) (after_slot ran queue)) ≡ left_after) → count_by (is_run_of job.key) (runs (suc n) t queue) ≡ job.left
    go (inl more) rest =
        omega (arith, rest more, one, sum_by-cons (λ r. cond (is_run_of job.key r) 1 0) ran (runs n (t + 1) (after_slot ran queue)))
    go (inr zeros) _ =
        let rest = runs_none n (t + 1) (after_slot ran queue) job.key (none zeros) later.some in
        omega (arith, rest, one, q.some job at, sum_by-cons (λ r. cond (is_run_of job.key r) 1 0) ran (runs n (t + 1) (after_slot ran queue)))
