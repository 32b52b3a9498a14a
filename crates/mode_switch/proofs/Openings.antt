-- The jobs that an executive carries over, and what a refusal or a grant of its change means.
use Rattle.std.proofs.Common.{◌≡◌, ℕ, ◌+◌, ◌*◌, ◌≤◌, ◌^◌, true, false, not, List, length, sym, ap, subst, ◌∙◌, arith}
use Rattle.std.specs.Prelude.{All, Contains, None, Some}
use Rattle.std.proofs.lemmas.Bool.{not-true}
use Rattle.std.proofs.lemmas.List.Elements.{All-from_recursion}
use Rattle.std.proofs.lemmas.List.Sums.{count_by-le-length, length-filter}
use Rattle.std.proofs.lemmas.List.Sorted.{IsPermutation-sym, IsPermutation-trans, length_permutation}
use Rattle.std.proofs.lemmas.Option.{slice_get-get_or}
use Rattle.slot_core.specs.declared.TheConstants.{SLOT_LIMIT}
use Rattle.slot_core.specs.declared.jobs.Evidence.{Evidence}
use Rattle.slot_core.specs.declared.jobs.Job.{Job}
use Rattle.slot_core.specs.Feasibility.Feasible.{IsFeasible}
use Rattle.slot_core.specs.Keeping.Executives.{Executive, IsKept, StandsFor, StandsForSome}
use Rattle.slot_core.specs.Keeping.Kept.{AreApart}
use Rattle.slot_core.specs.Keeping.Plans.{AreInDeadlineOrder, IsPlan, PlanParts, in_deadline_order}
use Rattle.slot_core.specs.Offline.Keys.{is_offline}
use Rattle.slot_core.specs.Runs.Arrivals.{key_in_set}
use Rattle.slot_core.specs.Runs.Histories.{History}
use Rattle.slot_core.specs.Runs.Matches.{HaveSameItems}
use Rattle.slot_core.specs.Runs.Scenes.{remaining}
use Rattle.slot_core.specs.Sets.Cycles.{cycle_of}
use Rattle.slot_facts.proofs.Lists.Members.{Has, AllByRecursion-from_Has, Contains-from_Has, Has-filter_passes, Has-from_Contains}
use Rattle.slot_facts.proofs.Lists.Permuted.{Contains-from_permuted}
use Rattle.slot_facts.proofs.Lists.SameItems.{jobs-same_items, same-filter, same-from_permutation, same-sym}
use Rattle.slot_facts.proofs.Plans.InOrder.{AreInDeadlineOrder-in_order, AreInDeadlineOrder-one, IsPermutation-in_order}
use Rattle.slot_facts.proofs.Plans.Items.{plan_cycle-bounds}
use Rattle.scene_steps.proofs.Slots.Places.{AreApart-same}
use Rattle.slot_exec.proofs.ShownExecutives.{job-named}
use Rattle.change_laws.specs.Carried.{AreCarried, carried_of, cycles_of_change}
use Rattle.change_laws.specs.Demand.{FitsFor, ShowsNoRoom, refusal_of}
use Rattle.change_laws.specs.Grants.{CanChange}
use Rattle.mode_switch.specs.Keeping.{carried_from}
use Rattle.mode_switch.proofs.CarriedJobs.{carried_of-apart}
use Rattle.change_laws.proofs.GrantExact.{changes_are_exact}
use Rattle.change_laws.proofs.GrantJobs.{what_remains_is_carried}
use Rattle.change_laws.proofs.GrantRefusals.{refusals_are_exact}

-- a carried job is one of the jobs, and is not offline
carried-one : (jobs : List Job) (job : Job) → Contains (carried_from jobs) job → Has jobs job × (is_offline job.key ≡ false)
carried-one jobs job at =
    let carried = carried_of jobs in
    let listed = Contains-from_permuted carried (in_deadline_order carried) job (IsPermutation-in_order carried) (Has-from_Contains (in_deadline_order carried) job at) in
    let passes = Has-filter_passes (λ (j : Job). not (is_offline j.key)) jobs job (Has-from_Contains carried job listed) in
    (passes.0, not-true (is_offline job.key) passes.1)

-- they may be carried over in deadline order too
AreCarried-in_order : (c row : ℕ) (jobs : List Job) → AreCarried c row (carried_of jobs) → AreCarried c row (carried_from jobs)
AreCarried-in_order c row jobs may =
    let carried = carried_of jobs in
    let permuted = IsPermutation-in_order carried in
    let listed : (job : Job) → Contains (carried_from jobs) job → Contains carried job = λ job at. Contains-from_permuted carried (in_deadline_order carried) job permuted (Has-from_Contains (in_deadline_order carried) job at) in
    record {
      other = λ job at. may.other job (listed job at);
      hard = λ job at. may.hard job (listed job at);
      come = λ job at. may.come job (listed job at);
      due_later = λ job at. may.due_later job (listed job at);
      some = λ job at. may.some job (listed job at);
      rows = λ job at. may.rows job (listed job at);
      apart = AreApart-same (in_deadline_order carried) carried (same-sym carried (in_deadline_order carried) (same-from_permutation carried (in_deadline_order carried) permuted)) may.apart;
    }

-- they stand in that order
pub carried_from-ordered : (jobs : List Job) → AreApart jobs → AreInDeadlineOrder (carried_from jobs)
carried_from-ordered jobs apart =
    AreInDeadlineOrder-in_order (carried_of jobs) (carried_of-apart jobs apart)

-- and are no more than the jobs
pub carried_from-few : (jobs : List Job) → length (carried_from jobs) ≤ length jobs
carried_from-few jobs =
    let carried = carried_of jobs in
    omega (
      arith,
      length_permutation carried (in_deadline_order carried) (IsPermutation-in_order carried),
      length-filter (λ (j : Job). not (is_offline j.key)) jobs,
      count_by-le-length (λ (j : Job). not (is_offline j.key)) jobs,
    )

-- however the jobs are listed, they are one list
pub carried_from-same : (xs ys : List Job) → HaveSameItems xs ys → AreApart ys → carried_from xs ≡ carried_from ys
carried_from-same xs ys same apart =
    let test = λ (j : Job). not (is_offline j.key) in
    let listed = (jobs-same_items (carried_of xs) (carried_of ys)).0 (same-filter test xs ys same) in
    let first = IsPermutation-in_order (carried_of xs) in
    let second = IsPermutation-in_order (carried_of ys) in
    let permuted = IsPermutation-trans (carried_from xs) (carried_of xs) (carried_from ys) (IsPermutation-sym (carried_of xs) (carried_from xs) first) (IsPermutation-trans (carried_of xs) (carried_of ys) (carried_from ys) listed second) in
    AreInDeadlineOrder-one (carried_from xs) (carried_from ys) (carried_from-ordered xs (AreApart-same xs ys same apart)) (carried_from-ordered ys apart) permuted

-- what holds of each carried job holds of all
all-carried : (P : Job → Type 0) (jobs : List Job) → ((job : Job) → Contains (carried_from jobs) job → P job) → All P (carried_from jobs)
all-carried P jobs each =
    All-from_recursion P (carried_from jobs) (AllByRecursion-from_Has P (carried_from jobs) (λ job at. each job (Contains-from_Has (carried_from jobs) job at)))

module _ (exec : Executive) (kept : IsKept exec) where
  -- each is due within the longest cycle
  pub carried-near : All (λ (j : Job). j.dl ≤ exec.scene.time + SLOT_LIMIT) (carried_from exec.scene.jobs)
  carried-near =
      all-carried (λ (j : Job). j.dl ≤ exec.scene.time + SLOT_LIMIT) exec.scene.jobs λ job at.
      let one = carried-one exec.scene.jobs job at in
      let come = kept.bounds.come job (Contains-from_Has exec.scene.jobs job one.0) one.1 in
      omega (arith, come.2, plan_cycle-bounds exec.plan kept.plan)

  pub carried-may : AreCarried exec.scene.time exec.last_row (carried_from exec.scene.jobs)
  carried-may =
      AreCarried-in_order exec.scene.time exec.last_row exec.scene.jobs (what_remains_is_carried exec kept)

  -- each has a key of the set
  pub carried-named : StandsForSome exec → All (λ (j : Job). key_in_set exec.plan.tasks j.key ≡ true) (carried_from exec.scene.jobs)
  carried-named stands =
      all-carried (λ (j : Job). key_in_set exec.plan.tasks j.key ≡ true) exec.scene.jobs λ job at.
      let (k, below, is) = Contains-from_Has exec.scene.jobs job (carried-one exec.scene.jobs job at).0 in
      job-named exec k job kept.plan stands (slice_get-get_or exec.scene.jobs k job below ∙ ap (λ (j : Job). Some j) is)

  -- they are those of each history for which the executive stands
  pub carried-of_history : (h : History) → StandsFor exec h → carried_from exec.scene.jobs ≡ carried_from (remaining exec.plan.tasks exec.plan.cycle h)
  carried-of_history h stands =
      let own = remaining exec.plan.tasks exec.plan.cycle h in
      carried_from-same exec.scene.jobs own stands.same.jobs (AreApart-same own exec.scene.jobs (same-sym exec.scene.jobs own stands.same.jobs) kept.bounds.apart)

  -- what fits can be served, and what does not cannot
  module _ (plan : PlanParts) (is_plan : IsPlan plan) where
    feasible : IsFeasible plan.tasks (cycle_of plan.tasks)
    feasible = subst (λ n. IsFeasible plan.tasks n) is_plan.cycle is_plan.feasible

    pub can-from_fits : FitsFor plan.tasks exec.scene.time (carried_from exec.scene.jobs) (cycles_of_change (cycle_of plan.tasks) exec.scene.time (carried_from exec.scene.jobs)) → CanChange plan.tasks exec.scene.time (carried_from exec.scene.jobs) (exec.last_row + 1)
    can-from_fits fits =
        (changes_are_exact plan.tasks exec.scene.time exec.last_row (cycles_of_change (cycle_of plan.tasks) exec.scene.time (carried_from exec.scene.jobs)) (carried_from exec.scene.jobs) is_plan.sound feasible carried-may).1 fits

    pub none-from_can : CanChange plan.tasks exec.scene.time (carried_from exec.scene.jobs) (exec.last_row + 1) → refusal_of plan.tasks exec.scene.time (carried_from exec.scene.jobs) ≡ None
    none-from_can can =
        (refusals_are_exact plan.tasks exec.scene.time exec.last_row (carried_from exec.scene.jobs) is_plan.sound feasible carried-may).0.1 can

    pub evidence-from_shows : (e : Evidence) → ShowsNoRoom plan.tasks exec.scene.time (carried_from exec.scene.jobs) e → refusal_of plan.tasks exec.scene.time (carried_from exec.scene.jobs) ≡ Some e
    evidence-from_shows e shows =
        ((refusals_are_exact plan.tasks exec.scene.time exec.last_row (carried_from exec.scene.jobs) is_plan.sound feasible carried-may).1 e).1 shows

    pub cannot-from_shows : (e : Evidence) → ShowsNoRoom plan.tasks exec.scene.time (carried_from exec.scene.jobs) e → CanChange plan.tasks exec.scene.time (carried_from exec.scene.jobs) (exec.last_row + 1) → ⊥
    cannot-from_shows e shows can = cc (sym (none-from_can can) ∙ evidence-from_shows e shows)

    -- the same by parts that are equal to these
    module _ (at : ℕ) (lent items : List Job) (now : at ≡ exec.scene.time) (same : lent ≡ items) (all : items ≡ carried_from exec.scene.jobs) where
      fits-parts : FitsFor plan.tasks at lent (cycles_of_change (cycle_of plan.tasks) at lent) → FitsFor plan.tasks exec.scene.time (carried_from exec.scene.jobs) (cycles_of_change (cycle_of plan.tasks) exec.scene.time (carried_from exec.scene.jobs))
      fits-parts fits =
          subst (λ (t : ℕ). FitsFor plan.tasks t (carried_from exec.scene.jobs) (cycles_of_change (cycle_of plan.tasks) t (carried_from exec.scene.jobs))) now (subst (λ (js : List Job). FitsFor plan.tasks at js (cycles_of_change (cycle_of plan.tasks) at js)) (same ∙ all) fits)

      pub shows-parts : (e : Evidence) → ShowsNoRoom plan.tasks at lent e → ShowsNoRoom plan.tasks exec.scene.time (carried_from exec.scene.jobs) e
      shows-parts e shows =
          subst (λ (t : ℕ). ShowsNoRoom plan.tasks t (carried_from exec.scene.jobs) e) now (subst (λ (js : List Job). ShowsNoRoom plan.tasks at js e) (same ∙ all) shows)

      pub can-parts : FitsFor plan.tasks at lent (cycles_of_change (cycle_of plan.tasks) at lent) → CanChange plan.tasks exec.scene.time (carried_from exec.scene.jobs) (exec.last_row + 1)
      can-parts fits = can-from_fits (fits-parts fits)

      pub grant-parts : FitsFor plan.tasks at lent (cycles_of_change (cycle_of plan.tasks) at lent) → (row : ℕ) × AreCarried at row items × CanChange plan.tasks at items (row + 1)
      grant-parts fits =
          let Granted : ℕ → List Job → Type 0 = λ t js. (row : ℕ) × AreCarried t row js × CanChange plan.tasks t js (row + 1) in
          let own : Granted exec.scene.time (carried_from exec.scene.jobs) = (exec.last_row, carried-may, can-parts fits) in
          subst (λ (js : List Job). Granted at js) (sym all) (subst (λ (t : ℕ). Granted t (carried_from exec.scene.jobs)) (sym now) own)

-- the lent jobs are in order, few and due in time
pub ordered-parts : (exec : Executive) (items : List Job) → IsKept exec → items ≡ carried_from exec.scene.jobs → AreInDeadlineOrder items
ordered-parts exec items kept all =
    subst AreInDeadlineOrder (sym all) (carried_from-ordered exec.scene.jobs kept.bounds.apart)

pub few-parts : (exec : Executive) (lent items : List Job) → IsKept exec → length exec.scene.jobs ≤ 3 * exec.plan.cycle → lent ≡ items → items ≡ carried_from exec.scene.jobs → length lent ≤ 2 ^ 15
few-parts exec lent items kept few same all =
    omega (arith, ap length (same ∙ all), carried_from-few exec.scene.jobs, few, plan_cycle-bounds exec.plan kept.plan)

pub near-parts : (exec : Executive) (at : ℕ) (lent items : List Job) → IsKept exec → at ≡ exec.scene.time → lent ≡ items → items ≡ carried_from exec.scene.jobs → All (λ (j : Job). j.dl ≤ at + SLOT_LIMIT) lent
near-parts exec at lent items kept now same all =
    subst (λ (js : List Job). All (λ (j : Job). j.dl ≤ at + SLOT_LIMIT) js) (sym (same ∙ all)) (subst (λ (t : ℕ). All (λ (j : Job). j.dl ≤ t + SLOT_LIMIT) (carried_from exec.scene.jobs)) (sym now) (carried-near exec kept))
