-- Offline jobs that go on: their instances were released before, they are due at most a cycle ahead, and none of them
-- remains where a cycle ends.
use Rattle.std.proofs.Common.{◌≡◌, ℕ, zero, suc, ◌+◌, ◌*◌, ◌/◌, ◌<◌, ◌≤◌, Bool, true, false, cond, [], ◌∷◌, Option, Some, length, refl, sym, ap, ◌∙◌, subst, inl, inr, arith}
use Rattle.std.specs.Prelude.{◌%◌, ◌^◌, not, ◌||◌, Contains, filter, nat_le, nat_lt, slice_get}
use Rattle.std.specs.Option.{option_map_or}
use Rattle.std.proofs.Math.Nat.{mul-le-mul_right}
use Rattle.std.proofs.lemmas.Bool.{cases_Bool, cases_lt, cond-false, false≢true}
use Rattle.std.proofs.lemmas.Bool.Decides.{nat_tests}
use Rattle.std.proofs.lemmas.List.Sums.{length-filter}
use Rattle.std.proofs.lemmas.Nat.{div-add-mod'}
use Rattle.slot_core.specs.declared.jobs.Key.{Key}
use Rattle.slot_core.specs.declared.jobs.Job.{Job}
use Rattle.slot_core.specs.declared.tasks.Graph.{Graph}
use Rattle.slot_core.specs.declared.tasks.Task.{Task}
use Rattle.slot_core.specs.declared.tasks.TaskSet.{TaskSet}
use Rattle.slot_core.specs.declared.events.What.TheVariants.{Run}
use Rattle.slot_core.specs.Offline.Keys.{is_offline, same_key}
use Rattle.slot_core.specs.Offline.OfflineJobs.{deadline_of, derived_job, offline_jobs, raw_job, release_of}
use Rattle.slot_core.specs.Offline.Windows.{raw_deadline, raw_release}
use Rattle.slot_core.specs.Sets.Cycles.{cycle_of}
use Rattle.slot_core.specs.Sets.Ranges.{is_sound}
use Rattle.slot_core.specs.Feasibility.Feasible.{IsFeasible}
use Rattle.slot_core.specs.Keeping.Kept.{ArePlanned}
use Rattle.slot_core.specs.Keeping.Executives.{Executive, IsKept, StandsFor}
use Rattle.slot_core.specs.Runs.Histories.{executed, Follows, History, time_of}
use Rattle.slot_core.specs.Runs.Matches.{MatchesHistory}
use Rattle.slot_core.specs.Runs.Scenes.{guaranteed, remaining}
use Rattle.slot_facts.proofs.Choice.Earliest.{same_from_key}
use Rattle.slot_facts.proofs.Histories.Unended.{unended_own}
use Rattle.slot_facts.proofs.Legal.Known.{time-earlier}
use Rattle.slot_facts.proofs.Legal.Served.{every_legal_history_is_served}
use Rattle.slot_facts.proofs.Lists.Members.{AllByRecursion-from_Has, Contains-from_Has, Has, Has-from_Contains}
use Rattle.slot_facts.proofs.Lists.Permuted.{Has-permuted}
use Rattle.slot_facts.proofs.Lists.SameItems.{jobs-same_items}
use Rattle.slot_facts.proofs.Lists.Sums.{sum_by-le-where}
use Rattle.slot_facts.proofs.Plans.Items.{plan_cycle-bounds}
use Rattle.slot_facts.proofs.Offline.Jobs.{cycle-multiple, cycle-positive, offline_from_cycles}
use Rattle.slot_facts.proofs.Offline.LaterCycles.{GraphFits-from_sound}
use Rattle.slot_facts.proofs.Sets.Ranges.{GraphFits}
use Rattle.slot_facts.proofs.Scheduling.Raw.{IsInRaw-from_planned}
use Rattle.plan_change.specs.declared.keep.Keep.{Keep}
use Rattle.plan_change.specs.declared.keep.Keep.TheVariants.{Drop, Graphs, Started}
use Rattle.plan_change.specs.Carrying.{carried_from, goes_on, NoOfflineJobGoesOn}
use Rattle.plan_change.specs.Laws.{FewJobsAreCarried, NoOfflineJobGoesOnWhereACycleEnds, StartedJobsAreReleased}
use Rattle.plan_change.proofs.CarriedRows.{ahead-in_reach, carried-length, carried-one, none-dropped, none-kept}

-- the raw window of an instance lies in one period, of which a cycle has a whole number
pub record IsOfPeriod (set : TaskSet) (job : Job) : Type 0 where
  pub instance : ℕ
  pub period : ℕ
  pub count : ℕ
  pub whole : count * period ≡ cycle_of set
  pub low : instance * period ≤ raw_release set job
  pub high : raw_deadline set job ≤ instance * period + period

option_map_or-some : {A : Type 0} (f : A → ℕ) (o : Option A) (x : A) (d : ℕ) → o ≡ Some x → option_map_or f o d ≡ f x
option_map_or-some f o x d e = rw e

IsOfPeriod-from_instance : (set : TaskSet) (g t k : ℕ) (graph : Graph) (task : Task) → is_sound set ≡ true → slice_get set.graphs g ≡ Some graph → IsOfPeriod set (derived_job set (raw_job g graph k (t, task)))
IsOfPeriod-from_instance set g t k graph task sound graph_at =
    let fits : GraphFits graph = GraphFits-from_sound set g graph sound graph_at in
    let job = derived_job set (raw_job g graph k (t, task)) in
    record {
      instance = k;
      period = graph.period;
      count = cycle_of set / graph.period;
      whole = cycle-multiple set g graph sound graph_at;
      low = omega (arith, option_map_or-some (λ (gr : Graph). release_of gr k) (slice_get set.graphs g) graph job.est graph_at);
      high = omega (arith, fits.within, option_map_or-some (λ (gr : Graph). deadline_of gr k) (slice_get set.graphs g) graph job.dl graph_at);
    }

IsOfPeriod-from_offline : (set : TaskSet) (cycles : ℕ) (job : Job) → is_sound set ≡ true → Contains (offline_jobs set (cycle_of set) cycles) job → IsOfPeriod set job
IsOfPeriod-from_offline set cycles job sound at =
    let o = offline_from_cycles set (cycle_of set) cycles job at in
    subst (IsOfPeriod set) (sym o.instance_of.derived)
    (IsOfPeriod-from_instance set o.g o.t o.k o.graph o.task sound o.instance_of.graph_at)

-- a period is at most a cycle
period-low : (count period cycle : ℕ) → count * period ≡ cycle → 1 ≤ cycle → period ≤ cycle
period-low zero period cycle whole some = absurd (omega (arith, whole, some))
period-low (suc count) period cycle whole some =
    let more : 1 ≤ suc count = omega arith in
    omega (arith, whole, mul-le-mul_right period more)

-- one that begins before a whole number of cycles ends by then
period-ends : (k period count cycle q r d : ℕ) → count * period ≡ cycle → k * period ≤ r → d ≤ k * period + period → r < q * cycle → d ≤ q * cycle
period-ends k period count cycle q r d whole low high before =
    let cycles : q * (count * period) ≡ q * cycle = ap (λ c. q * c) whole in
    elim (cases_lt k (q * count)) [
      | inl lower ↦
          let next : k + 1 ≤ q * count = omega (arith, lower) in
          omega (arith, high, cycles, mul-le-mul_right period next)
      | inr above ↦
          let most : q * count ≤ k = omega (arith, above) in
          absurd (omega (arith, low, before, cycles, mul-le-mul_right period most))
    ]

-- a job that has run a slot ran one before now
ran-before : (key : Key) (h : History) → 1 ≤ executed key h → (earlier : History) × Follows h (Run key) earlier
ran-before key [] some = absurd (omega (arith, some))
ran-before key (Run k ∷ h) some =
    elim (cases_Bool (same_key key k)) [
      | inl same ↦ (h, ([], ap (λ x. Run x ∷ h) (sym (same_from_key key k same))))
      | inr other ↦
          let ran = cond-false (same_key key k) (suc (executed key h)) (executed key h) other in
          let (earlier, (later, at)) = ran-before key h (omega (arith, ran, some)) in
          (earlier, (Run k ∷ later, ap (λ x. Run k ∷ x) at))
    ]
ran-before key (what ∷ h) some =
    let (earlier, (later, at)) = ran-before key h some in
    (earlier, (what ∷ later, ap (λ x. what ∷ x) at))

run-earlier : (key : Key) (h earlier : History) → Follows h (Run key) earlier → time_of earlier < time_of h
run-earlier key h earlier (later, same) = omega (arith, ap time_of same, time-earlier later (Run key ∷ earlier))

module _ (exec : Executive) (kept : IsKept exec) (job : Job) (at : Has exec.scene.jobs job) where
  abbrev set : TaskSet
  set = exec.plan.tasks

  abbrev cycles : ℕ
  cycles = exec.scene.time / exec.plan.cycle + 3

  planned : ArePlanned exec.plan.tasks (cycle_of exec.plan.tasks) cycles exec.scene.jobs
  planned = subst (λ n. ArePlanned exec.plan.tasks n cycles exec.scene.jobs) kept.plan.cycle kept.bounds.planned

  inside : Contains exec.scene.jobs job
  inside = Contains-from_Has exec.scene.jobs job at

  of_period : is_offline job.key ≡ true → IsOfPeriod set (record job { left = job.declared })
  of_period offline = IsOfPeriod-from_offline set cycles (record job { left = job.declared }) kept.plan.sound (planned job inside offline)

  -- an offline job of an instance that was released is due within a cycle
  pub due-near : is_offline job.key ≡ true → raw_release set job ≤ exec.scene.time → job.dl ≤ exec.scene.time + exec.plan.cycle
  due-near offline released =
      let own = of_period offline in
      let raw = IsInRaw-from_planned set cycles exec.scene.jobs job kept.plan.sound planned inside in
      omega (arith, raw.ends, own.high, own.low, released, period-low own.count own.period (cycle_of set) own.whole (cycle-positive set kept.plan.sound), kept.plan.cycle)

  -- and where a cycle ends it was released at that time at the earliest
  pub released-later : is_offline job.key ≡ true → exec.scene.time % exec.plan.cycle ≡ 0 → exec.scene.time ≤ raw_release set job
  released-later offline ends =
      let own = of_period offline in
      let raw = IsInRaw-from_planned set cycles exec.scene.jobs job kept.plan.sound planned inside in
      let q = exec.scene.time / exec.plan.cycle in
      let now : q * cycle_of set ≡ exec.scene.time = omega (arith, div-add-mod' exec.scene.time exec.plan.cycle, ends, ap (λ n. q * n) kept.plan.cycle) in
      elim (cases_lt (raw_release set job) (q * cycle_of set)) [
        | inl before ↦
            let due = period-ends own.instance own.period own.count (cycle_of set) q (raw_release set job) (raw_deadline set job) own.whole own.low own.high before in
            absurd (omega (arith, due, raw.ends, now, (kept.bounds.left job inside).0))
        | inr after ↦ omega (arith, after, now)
      ]

  -- a job that has run a slot was released before
  pub released-before : (h : History) → StandsFor exec h → job.left < job.declared → raw_release set job < exec.scene.time
  released-before h stands started =
      let Released : ℕ → Type 0 = λ n. MatchesHistory set n exec.scene exec.last_row h → IsFeasible set n → raw_release set job < exec.scene.time in
      subst Released (sym kept.plan.cycle) (λ m feasible.
      let cycle = cycle_of set in
      let listed = Has-permuted exec.scene.jobs (remaining set cycle h) job ((jobs-same_items exec.scene.jobs (remaining set cycle h)).0 m.same.jobs) at in
      let (own, is) = unended_own h (guaranteed set cycle h) job listed in
      let left = ap (λ (j : Job). j.left) is.same in
      let declared = ap (λ (j : Job). j.declared) is.same in
      let (earlier, ran) = ran-before own.key h (omega (arith, left, declared, started)) in
      let window = (every_legal_history_is_served set h kept.plan.sound feasible m.legal).0.inside own earlier (Contains-from_Has (guaranteed set cycle h) own is.listed) ran in
      let same : raw_release set job ≡ raw_release set own = ap (raw_release set) is.same in
      omega (arith, same, window.0, window.1, run-earlier own.key h earlier ran, m.same.time)) stands kept.plan.feasible

-- what the test of a job that goes on says of an offline one
started-first : (left declared : ℕ) (off : Bool) → off ≡ true → (not off || nat_lt left declared) ≡ true → left < declared
started-first left declared off is goes = grind (arith, nat_tests)

-- a job that passes counts no more than it has left
counts-one : (test : Bool) (dl left x : ℕ) → (test ≡ true → dl ≤ x) → 1 ≤ left → cond test 1 0 ≤ cond (nat_le dl x) left 0
counts-one true dl left x due some =
    let low = due refl in
    grind (arith, nat_tests)
counts-one false dl left x due some = omega arith

module _ (exec : Executive) (kept : IsKept exec) (h : History) (stands : StandsFor exec h) where
  -- an offline job that goes on was released before
  pub going-released : (keep : Keep) (job : Job) → Has exec.scene.jobs job → is_offline job.key ≡ true → goes_on keep exec.plan.tasks exec.scene.time job ≡ true → raw_release exec.plan.tasks job < exec.scene.time
  going-released Drop job at offline goes = absurd (none-kept (is_offline job.key) offline goes)
  going-released Started job at offline goes =
      released-before exec kept job at h stands (started-first job.left job.declared (is_offline job.key) offline goes)
  going-released Graphs job at offline goes =
      started-first (raw_release exec.plan.tasks job) exec.scene.time (is_offline job.key) offline goes

  -- each job that goes on is due within a cycle
  pub going-near : (keep : Keep) (job : Job) → Has exec.scene.jobs job → goes_on keep exec.plan.tasks exec.scene.time job ≡ true → job.dl ≤ exec.scene.time + exec.plan.cycle
  going-near keep job at goes =
      elim (cases_Bool (is_offline job.key)) [
        | inl offline ↦ due-near exec kept job at offline (omega (arith, going-released keep job at offline goes))
        | inr other ↦ (kept.bounds.come job (Contains-from_Has exec.scene.jobs job at) other).2
      ]

  -- no more of them than a cycle has slots, since each has a slot left, and all of them fit
  pub going-few : (keep : Keep) → length (filter (goes_on keep exec.plan.tasks exec.scene.time) exec.scene.jobs) ≤ exec.plan.cycle
  going-few keep =
      let scene = exec.scene in
      let test = goes_on keep exec.plan.tasks scene.time in
      let x = scene.time + exec.plan.cycle in
      let Fit : Job → Type 0 = λ j. cond (test j) 1 0 ≤ cond (nat_le j.dl x) j.left 0 in
      let each = λ (j : Job) (at : Has scene.jobs j).
      counts-one (test j) j.dl j.left x (going-near keep j at) (kept.bounds.left j (Contains-from_Has scene.jobs j at)).1 in
      let fits = kept.bounds.fits x (omega arith) (ahead-in_reach scene.time exec.plan.cycle (plan_cycle-bounds exec.plan kept.plan).0) in
      omega (
        arith,
        length-filter test scene.jobs,
        sum_by-le-where (λ (j : Job). cond (test j) 1 0) (λ (j : Job). cond (nat_le j.dl x) j.left 0) Fit scene.jobs (AllByRecursion-from_Has Fit scene.jobs each) (λ j low. low),
        fits,
      )

  -- so are those that are carried over
  pub carried-few : (keep : Keep) → length (carried_from keep exec) ≤ exec.plan.cycle
  carried-few keep = omega (arith, carried-length keep exec, going-few keep)

  -- where a cycle ends, none of them is an offline one
  pub none-at_end : (keep : Keep) → exec.scene.time % exec.plan.cycle ≡ 0 → NoOfflineJobGoesOn keep exec
  none-at_end keep ends = λ job at.
      let (listed, goes) = carried-one exec kept keep job (Has-from_Contains (carried_from keep exec) job at) in
      elim (cases_Bool (is_offline job.key)) [
        | inl offline ↦ absurd (omega (arith, going-released keep job listed offline goes, released-later exec kept job listed offline ends))
        | inr other ↦ other
      ]

-- so there are rows enough, where an offline job needs one
pub rows-fit : (keep : Keep) (exec : Executive) (first n : ℕ) (job : Job) → IsKept exec → ((keep ≡ Drop → ⊥) → first + exec.plan.cycle < 2 ^ 32) → n ≤ exec.plan.cycle → Has (carried_from keep exec) job → is_offline job.key ≡ true → first + n < 2 ^ 32
rows-fit Drop exec first n job kept rows few at offline = absurd (false≢true (sym (none-dropped exec kept job at) ∙ offline))
rows-fit Started exec first n job kept rows few at offline = omega (arith, few, rows (λ e. absurd (cc e)))
rows-fit Graphs exec first n job kept rows few at offline = omega (arith, few, rows (λ e. absurd (cc e)))

pub few_jobs_are_carried : FewJobsAreCarried
few_jobs_are_carried exec h keep kept stands = carried-few exec kept h stands keep

pub started_jobs_are_released : StartedJobsAreReleased
started_jobs_are_released exec h job kept stands at started =
    released-before exec kept job (Has-from_Contains exec.scene.jobs job at) h stands started

-- nor with Drop at any time
none-with_drop : (exec : Executive) → IsKept exec → NoOfflineJobGoesOn Drop exec
none-with_drop exec kept = λ job at. none-dropped exec kept job (Has-from_Contains (carried_from Drop exec) job at)

pub no_offline_job_goes_on_where_a_cycle_ends : NoOfflineJobGoesOnWhereACycleEnds
no_offline_job_goes_on_where_a_cycle_ends exec h keep kept stands (inl dropped) =
    subst (λ k. NoOfflineJobGoesOn k exec) (sym dropped) (none-with_drop exec kept)
no_offline_job_goes_on_where_a_cycle_ends exec h keep kept stands (inr ends) = none-at_end exec kept h stands keep ends
