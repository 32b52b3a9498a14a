-- The verdict on offers beside that of a switch that carries firm and sporadic jobs alone.
use Rattle.std.proofs.Common.{◌≡◌, ℕ, ◌+◌, ◌-◌, ◌≤◌, min, Bool, true, false, cond, ◌||◌, not, List, [], ◌∷◌, map, refl, ap, arith}
use Rattle.std.specs.Prelude.{Contains, filter, nat_le, sum_by}
use Rattle.std.proofs.lemmas.Bool.Decides.{nat_tests}
use Rattle.std.proofs.lemmas.List.Sorted.{Contains-permutation}
use Rattle.std.proofs.lemmas.List.Sums.{sum_by-cons}
use Rattle.slot_core.specs.declared.jobs.Job.{Job}
use Rattle.slot_core.specs.Offline.Keys.{is_offline}
use Rattle.slot_core.specs.Sets.Cycles.{cycle_of}
use Rattle.slot_core.specs.Keeping.Executives.{Executive}
use Rattle.slot_core.specs.Runs.Demand.{work_by}
use Rattle.slot_core.specs.Runs.Matches.{HaveSameItems}
use Rattle.slot_facts.proofs.Lists.Members.{AllByRecursion-from_Has, Contains-from_Has, Has, Has-filter}
use Rattle.slot_facts.proofs.Lists.Permuted.{Has-permuted}
use Rattle.slot_facts.proofs.Lists.SameItems.{jobs-same_items, same-from_permutation, same-sym}
use Rattle.slot_facts.proofs.Lists.Sums.{sum_by-filter, sum_by-le-where, sum_by-map}
use Rattle.scene_steps.proofs.Slots.Places.{AreApart-same}
use Rattle.change_laws.specs.Carried.{AreCarried, carried_of, since}
use Rattle.change_laws.proofs.GrantJobs.{what_remains_is_carried}
use Rattle.plan_change.specs.declared.keep.Keep.{Keep}
use Rattle.plan_change.specs.Carrying.{carried_from, goes_on, in_row_order, is_kept, next_row, offer_of, offers_from, offers_of, row_in}
use Rattle.plan_change.specs.Laws.{AgreesWithTheSwitch, CarryingMoreIsHarder}
use Rattle.plan_change.specs.Offers.{first_jobs, row_after}
use Rattle.plan_change.proofs.FirstOffers.{AreCarried-first, less_work_can_change, since-zero}
use Rattle.plan_change.proofs.RowOrder.{IsPermutation-in_row_order}
use Rattle.plan_change.proofs.Together.{work_by-offers}

-- what a job counts by x: with a deadline that is cut to the cycle, and with its own
abbrev cut_work : ℕ → ℕ → ℕ → Job → ℕ
cut_work c cycle x job = cond (nat_le (min (job.dl - c) cycle) x) job.left 0

abbrev own_work : ℕ → ℕ → Job → ℕ
own_work c x job = cond (nat_le (job.dl - c) x) job.left 0

due-now : (dl left x : ℕ) → cond (nat_le (0 + dl) x) left 0 ≡ cond (nat_le dl x) left 0
due-now dl left x =
    let same : 0 + dl ≡ dl = omega arith in
    ap {B = ℕ} (λ (d : ℕ). cond (nat_le d x) left 0) same

-- the work of the offers of jobs, whatever their rows
work-offers : (c cycle next : ℕ) (jobs : List Job) (x : ℕ) → work_by (first_jobs (offers_of c cycle next jobs)) x ≡ sum_by (cut_work c cycle x) jobs
work-offers c cycle next [] x = refl
work-offers c cycle next (job ∷ jobs) x =
    let more : work_by (first_jobs (offers_of c cycle next (job ∷ jobs))) x ≡ cond (nat_le (0 + min (job.dl - c) cycle) x) job.left 0 + work_by (first_jobs (offers_of c cycle (next_row next job) jobs)) x = work_by-offers 0 (offer_of c cycle (row_in next job) job) (offers_of c cycle (next_row next job) jobs) x in
    let here : cond (nat_le (0 + min (job.dl - c) cycle) x) job.left 0 ≡ cut_work c cycle x job = due-now (min (job.dl - c) cycle) job.left x in
    omega (
      arith,
      more,
      here,
      sum_by-cons (cut_work c cycle x) job jobs,
      work-offers c cycle (next_row next job) jobs x,
    )

-- so that of what an executive carries over is a sum over its jobs
work-carried : (exec : Executive) (keep : Keep) (cycle first x : ℕ) → work_by (map (since 0) (first_jobs (offers_from keep exec cycle first))) x ≡ sum_by (λ (j : Job). cond (goes_on keep exec.plan.tasks exec.scene.time j) (cut_work exec.scene.time cycle x j) 0) exec.scene.jobs
work-carried exec keep cycle first x =
    let c = exec.scene.time in
    let test = goes_on keep exec.plan.tasks c in
    let going = filter test exec.scene.jobs in
    omega (
      arith,
      since-zero (first_jobs (offers_from keep exec cycle first)) x,
      work-offers c cycle first (in_row_order going) x,
      same-from_permutation going (in_row_order going) (IsPermutation-in_row_order going) (cut_work c cycle x),
      sum_by-filter (cut_work c cycle x) test exec.scene.jobs,
    )

-- that of a switch too
work-switched : (exec : Executive) (carried : List Job) (x : ℕ) → HaveSameItems carried (carried_of exec.scene.jobs) → work_by (map (since exec.scene.time) carried) x ≡ sum_by (λ (j : Job). cond (not (is_offline j.key)) (own_work exec.scene.time x j) 0) exec.scene.jobs
work-switched exec carried x same =
    let c = exec.scene.time in
    omega (
      arith,
      sum_by-map (λ (j : Job). cond (nat_le j.dl x) j.left 0) (since c) carried,
      same (own_work c x),
      sum_by-filter (own_work c x) (λ (j : Job). not (is_offline j.key)) exec.scene.jobs,
    )

-- a job of a switch goes on too, and counts no later
no_less : (off kept : Bool) (dl cycle x left : ℕ) → cond (not off) (cond (nat_le dl x) left 0) 0 ≤ cond (not off || kept) (cond (nat_le (min dl cycle) x) left 0) 0
no_less true kept dl cycle x left = omega arith
no_less false kept dl cycle x left = grind (arith, nat_tests)

less-work : (exec : Executive) (keep : Keep) (cycle first x : ℕ) (carried : List Job) → HaveSameItems carried (carried_of exec.scene.jobs) → work_by (map (since exec.scene.time) carried) x ≤ work_by (map (since 0) (first_jobs (offers_from keep exec cycle first))) x
less-work exec keep cycle first x carried same =
    let c = exec.scene.time in
    let set = exec.plan.tasks in
    let all = AllByRecursion-from_Has (λ (j : Job). j ≡ j) exec.scene.jobs (λ j at. refl) in
    omega (
      arith,
      work-switched exec carried x same,
      work-carried exec keep cycle first x,
      sum_by-le-where
          (λ (j : Job). cond (not (is_offline j.key)) (own_work c x j) 0)
          (λ (j : Job). cond (goes_on keep set c j) (cut_work c cycle x j) 0)
          (λ (j : Job). j ≡ j)
          exec.scene.jobs
          all
          (λ j here. no_less (is_offline j.key) (is_kept keep set c j) (j.dl - c) cycle x j.left),
    )

-- where no offline job goes on and no deadline is cut, the work is the same
no_more : (off kept : Bool) (dl cycle x left : ℕ) → ((not off || kept) ≡ true → off ≡ false) → (off ≡ false → dl ≤ cycle) → cond (not off || kept) (cond (nat_le (min dl cycle) x) left 0) 0 ≤ cond (not off) (cond (nat_le dl x) left 0) 0
no_more true true dl cycle x left none near = absurd (cc (none refl))
no_more true false dl cycle x left none near = omega arith
no_more false kept dl cycle x left none near =
    let low = near refl in
    let same : min dl cycle ≡ dl = omega arith in
    rw same (omega arith)

-- a job that goes on is then no offline one, and is due within the cycle
record IsNear (exec : Executive) (keep : Keep) (cycle : ℕ) (job : Job) : Type 0 where
  pub none : goes_on keep exec.plan.tasks exec.scene.time job ≡ true → is_offline job.key ≡ false
  pub near : is_offline job.key ≡ false → job.dl - exec.scene.time ≤ cycle

more-work : (exec : Executive) (keep : Keep) (cycle first x : ℕ) (carried : List Job) → HaveSameItems carried (carried_of exec.scene.jobs) → ((job : Job) → Has exec.scene.jobs job → IsNear exec keep cycle job) → work_by (map (since 0) (first_jobs (offers_from keep exec cycle first))) x ≤ work_by (map (since exec.scene.time) carried) x
more-work exec keep cycle first x carried same near =
    let c = exec.scene.time in
    let set = exec.plan.tasks in
    omega (
      arith,
      work-switched exec carried x same,
      work-carried exec keep cycle first x,
      sum_by-le-where
          (λ (j : Job). cond (goes_on keep set c j) (cut_work c cycle x j) 0)
          (λ (j : Job). cond (not (is_offline j.key)) (own_work c x j) 0)
          (IsNear exec keep cycle)
          exec.scene.jobs
          (AllByRecursion-from_Has (IsNear exec keep cycle) exec.scene.jobs near)
          (λ j is. no_more (is_offline j.key) (is_kept keep set c j) (j.dl - c) cycle x j.left is.none is.near),
    )

-- each job that goes on is carried over
Has-carried : (keep : Keep) (exec : Executive) (job : Job) → Has exec.scene.jobs job → goes_on keep exec.plan.tasks exec.scene.time job ≡ true → Has (carried_from keep exec) job
Has-carried keep exec job at goes =
    let test = goes_on keep exec.plan.tasks exec.scene.time in
    let going = filter test exec.scene.jobs in
    Has-permuted going (in_row_order going) job (IsPermutation-in_row_order going) (Has-filter test exec.scene.jobs job at goes)

-- the jobs of a switch may be carried over, in whatever order
AreCarried-same : (c row : ℕ) (xs ys : List Job) → HaveSameItems xs ys → AreCarried c row ys → AreCarried c row xs
AreCarried-same c row xs ys same may =
    let listed = λ (job : Job) (at : Contains xs job). Contains-permutation xs ys job ((jobs-same_items xs ys).0 same) at in
    record {
      other = λ job at. may.other job (listed job at);
      hard = λ job at. may.hard job (listed job at);
      come = λ job at. may.come job (listed job at);
      due_later = λ job at. may.due_later job (listed job at);
      some = λ job at. may.some job (listed job at);
      rows = λ job at. may.rows job (listed job at);
      apart = AreApart-same xs ys same may.apart;
    }

pub carrying_more_is_harder : CarryingMoreIsHarder
carrying_more_is_harder exec set keep first carried kept sound feasible may same can =
    let cycle = cycle_of set in
    let offers = offers_from keep exec cycle first in
    let own = AreCarried-same exec.scene.time exec.last_row carried (carried_of exec.scene.jobs) same (what_remains_is_carried exec kept) in
    less_work_can_change set 0 exec.scene.time (row_after 0 offers) exec.last_row (first_jobs offers) carried sound feasible (AreCarried-first cycle offers may) own (λ x. less-work exec keep cycle first x carried same) can

pub agrees_with_the_switch : AgreesWithTheSwitch
agrees_with_the_switch exec set keep first carried kept sound feasible may same near none =
    let cycle = cycle_of set in
    let offers = offers_from keep exec cycle first in
    let jobs = exec.scene.jobs in
    let beside = λ (j : Job). not (is_offline j.key) in
    let own = AreCarried-same exec.scene.time exec.last_row carried (carried_of jobs) same (what_remains_is_carried exec kept) in
    let low = λ (job : Job) (at : Has jobs job) (other : is_offline job.key ≡ false).
    let listed = Contains-from_Has (carried_of jobs) job (Has-filter beside jobs job at (ap not other)) in
    near job (Contains-permutation (carried_of jobs) carried job ((jobs-same_items (carried_of jobs) carried).0 (same-sym carried (carried_of jobs) same)) listed) in
    let each : (job : Job) → Has jobs job → IsNear exec keep cycle job = λ job at. record {
      none = λ goes. none job (Contains-from_Has (carried_from keep exec) job (Has-carried keep exec job at goes));
      near = λ other. omega (arith, low job at other);
    } in (
      carrying_more_is_harder exec set keep first carried kept sound feasible may same,
      λ can. less_work_can_change set exec.scene.time 0 exec.last_row (row_after 0 offers) carried (first_jobs offers) sound feasible own (AreCarried-first cycle offers may) (λ x. more-work exec keep cycle first x carried same each) can,
    )
