-- The sums of a table of what is due at each time, and the work that they add up to.
use Rattle.std.proofs.Common.{◌≡◌, ℕ, zero, suc, ◌+◌, ◌-◌, ◌*◌, ◌<◌, ◌≤◌, add-one, cond, List, [], ◌∷◌, ◌++◌, length, take, map, set, get_or, replicate, refl, sym, ap, ◌∙◌, inl, inr, arith}
use Rattle.std.specs.Prelude.{nat_le, sum, slice_get, IfSome}
use Rattle.std.proofs.Math.Seq.{take-set-lt}
use Rattle.std.proofs.lemmas.Bool.{cases_lt}
use Rattle.std.proofs.lemmas.Bool.Decides.{nat_tests}
use Rattle.std.proofs.lemmas.List.{get_or-take, length-take, map_more, take-set-le}
use Rattle.std.proofs.lemmas.List.Sums.{sum_by-set, sum_by_push, sum_by-cons}
use Rattle.slot_core.specs.declared.jobs.Job.{Job}
use Rattle.slot_core.specs.declared.tasks.Sporadic.{Sporadic}
use Rattle.slot_core.specs.declared.tasks.TaskSet.{TaskSet}
use Rattle.slot_core.specs.Keeping.Plans.{PlanParts, IsPlan}
use Rattle.slot_core.specs.Offline.OfflineJobs.{cycle_jobs, offline_jobs, later_job}
use Rattle.slot_core.specs.Feasibility.Sporadics.{sporadic_demand, arrivals_due}
use Rattle.slot_core.specs.Runs.Demand.{work_by}
use Rattle.slot_facts.proofs.Plans.Items.{one_more_job}
use Rattle.slot_facts.proofs.Scheduling.Beside.{work_by-both}
use Rattle.scene_steps.proofs.Slots.NewParts.{cycle_jobs-same}
use Rattle.change_laws.specs.Carried.{since}
use Rattle.mode_switch.specs.DueTables.{sum_to}

-- a time at or after which a number counts, and one before it
counts : (k x by : ℕ) → k ≤ x → cond (nat_le k x) by 0 ≡ by
counts k x by low = grind (arith, nat_tests)

counts_not : (k x by : ℕ) → x < k → cond (nat_le k x) by 0 ≡ 0
counts_not k x by high = grind (arith, nat_tests)

-- the sum up to x, where one number is another
pub sum_to-set : (due : List ℕ) (k v by x : ℕ) → k < length due → v ≡ get_or due k 0 + by → x < length due → sum_to (set due k v) x ≡ sum_to due x + cond (nat_le k x) by 0
sum_to-set due k v by x inside raised short =
    elim (cases_lt x k) [
      | inl before ↦
          omega (arith, ap sum (take-set-le (x + 1) due k v (omega arith)), counts_not k x by before)
      | inr after ↦
          let front = take (x + 1) due in
          let low : k < x + 1 = omega arith in
          let there : k < length front = omega (arith, length-take (x + 1) due) in
          omega (
            arith,
            ap sum (take-set-lt (x + 1) due k v low),
            sum_by-set (λ n. n) front k v 0 there,
            get_or-take (x + 1) due k 0 low,
            counts k x by after,
          )
    ]

-- a time past the table counts nothing in it
pub past_table : (k x n by : ℕ) → n ≤ k → x < n → cond (nat_le k x) by 0 ≡ 0
past_table k x n by past short = counts_not k x by (omega arith)

-- a table of zeros
pub sum-zeros : (n m : ℕ) → sum (take n (replicate m 0)) ≡ 0
sum-zeros zero m = refl
sum-zeros (suc n) zero = refl
sum-zeros (suc n) (suc m) =
    omega (arith, sum_by-cons (λ k. k) 0 (take n (replicate m 0)), sum-zeros n m)

-- the work of one job more
pub work_by-push : (jobs : List Job) (job : Job) (x : ℕ) → work_by (jobs ++ job ∷ []) x ≡ work_by jobs x + cond (nat_le job.dl x) job.left 0
work_by-push jobs job x = sum_by_push (λ (j : Job). cond (nat_le j.dl x) j.left 0) jobs job

-- and of one more that is changed
pub work_by-next : (f : Job → Job) (jobs : List Job) (i x : ℕ) (d : Job) → i < length jobs → work_by (map f (take (i + 1) jobs)) x ≡ work_by (map f (take i jobs)) x + cond (nat_le (f (get_or jobs i d)).dl x) (f (get_or jobs i d)).left 0
work_by-next f jobs i x d inside =
    ap (λ js. work_by js x) (map_more f jobs i d inside) ∙ work_by-push (map f (take i jobs)) (f (get_or jobs i d)) x

-- next arrivals at 0 are as none
pub sporadic_demand-zeros : (ss : List Sporadic) (r x : ℕ) → sporadic_demand ss (map (λ (s : Sporadic). 0) ss) r x ≡ sporadic_demand ss [] r x
sporadic_demand-zeros [] r x = refl
sporadic_demand-zeros (s ∷ ss) r x =
    ap (λ n. s.wcet * arrivals_due s 0 r x + n) (sporadic_demand-zeros ss r x)

-- of one more carried job
pub work_by-since : (c : ℕ) (jobs : List Job) (i x : ℕ) (d : Job) (time : ℕ) → i < length jobs → time ≡ (get_or jobs i d).dl - c → work_by (map (since c) (take (i + 1) jobs)) x ≡ work_by (map (since c) (take i jobs)) x + cond (nat_le time x) (get_or jobs i d).left 0
work_by-since c jobs i x d time inside is =
    work_by-next (since c) jobs i x d inside
    ∙ ap (λ t. work_by (map (since c) (take i jobs)) x + cond (nat_le t x) (get_or jobs i d).left 0) (sym is)

-- of one more job of a cycle
pub work_by-one_more : (f : Job → Job) (jobs : List Job) (i x : ℕ) (made : Job) → i < length jobs → IfSome (slice_get jobs i) (λ job. made ≡ f job) → work_by (map f (take (i + 1) jobs)) x ≡ work_by (map f (take i jobs)) x + cond (nat_le made.dl x) made.left 0
work_by-one_more f jobs i x made inside is =
    ap (λ js. work_by js x) (one_more_job f jobs i made inside is) ∙ work_by-push (map f (take i jobs)) made x

-- of the jobs of a plan in a cycle
pub work_by-cycle : (plan : PlanParts) (n x : ℕ) → IsPlan plan → work_by (map (later_job plan.tasks plan.cycle n) plan.jobs) x ≡ work_by (cycle_jobs plan.tasks plan.cycle n) x
work_by-cycle plan n x is_plan = cycle_jobs-same plan n is_plan (λ (j : Job). cond (nat_le j.dl x) j.left 0)

-- and of one more cycle
pub work_by-cycles : (set : TaskSet) (cycle n x : ℕ) → work_by (offline_jobs set cycle (n + 1)) x ≡ work_by (offline_jobs set cycle n) x + work_by (cycle_jobs set cycle n) x
work_by-cycles set cycle n x =
    ap (λ m. work_by (offline_jobs set cycle m) x) (add-one n) ∙ work_by-both (offline_jobs set cycle n) (cycle_jobs set cycle n) x
