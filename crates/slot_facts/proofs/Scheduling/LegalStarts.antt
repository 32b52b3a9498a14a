-- At every legal history the slots of a schedule lie at or after derived starts, where no job of a chain before was ended early.
use Rattle.std.proofs.Common.{◌≡◌, ℕ, zero, suc, ◌+◌, ◌-◌, ◌/◌, ◌≤◌, true, false, List, [], ◌∷◌, ◌++◌, Option, Some, sym, ap, ◌∙◌, subst, inl, inr, arith}
use Rattle.std.specs.Prelude.{Contains, slice_get, nat_le}
use Rattle.std.proofs.lemmas.Bool.{cases_Bool, or_cases, both_ways, leb-true, cond-true, cond-false}
use Rattle.slot_core.specs.declared.jobs.Key.{Key}
use Rattle.slot_core.specs.declared.jobs.Key.TheVariants.{Offline}
use Rattle.slot_core.specs.declared.jobs.Job.{Job}
use Rattle.slot_core.specs.declared.tasks.TaskSet.{TaskSet}
use Rattle.slot_core.specs.declared.events.What.TheVariants.{Run, Idle}
use Rattle.slot_core.specs.Offline.Keys.{same_key, is_offline}
use Rattle.slot_core.specs.Sets.Cycles.{cycle_of}
use Rattle.slot_core.specs.Sets.Ranges.{is_sound}
use Rattle.slot_core.specs.Offline.Precedence.{wcet_of, longest_before}
use Rattle.slot_core.specs.Offline.OfflineJobs.{offline_jobs, release_of, derived_job, raw_job}
use Rattle.slot_core.specs.Offline.Windows.{raw_release, precedes}
use Rattle.slot_core.specs.Runs.Histories.{History, Follows, time_of, executed, is_freed}
use Rattle.slot_core.specs.Runs.Scenes.{horizon, guaranteed, guaranteed_in, has_ended, with_left, remaining}
use Rattle.slot_core.specs.Runs.Choice.{ready}
use Rattle.slot_core.specs.Keeping.Kept.{ArePlanned}
use Rattle.slot_core.specs.Claims.Schedules.{holds, IsSchedule}
use Rattle.slot_facts.specs.Schedules.{directly, further, NoneBeforeEndedEarly, SlotsLieAfterDerivedStartsAtLegalHistories}
use Rattle.slot_facts.proofs.Choice.Earliest.{IsEarliest-from_earliest, same_from_key}
use Rattle.slot_facts.proofs.Histories.Unended.{Has-unended, unended_own}
use Rattle.slot_facts.proofs.Legal.Bounds.{Reaches, unended-planned}
use Rattle.slot_facts.proofs.Legal.Carried.{reaches-tail}
use Rattle.slot_facts.proofs.Legal.Cycles.{guaranteed-more}
use Rattle.slot_facts.proofs.Legal.Data.{LegalEntries, legal-as_data}
use Rattle.slot_facts.proofs.Legal.Jobs.{guaranteed-offline, job-from_key, offline-key}
use Rattle.slot_facts.proofs.Legal.Rows.{entries-before, entries-earlier, run-says}
use Rattle.slot_facts.proofs.Legal.Served.{reaches-earlier}
use Rattle.slot_facts.proofs.Lists.Members.{Has, Has-from_Contains, Contains-from_Has, Has-from_slice_get, Has-filter_passes}
use Rattle.slot_facts.proofs.Lists.MemberSums.{place_of_member}
use Rattle.slot_facts.proofs.Lists.Tests.{slice_get-append}
use Rattle.slot_facts.proofs.Offline.Chains.{longest_before-le}
use Rattle.slot_facts.proofs.Offline.Windows.{IsOfCycle-from_offline, IsBefore-from_precedes, precedes-offline}
use Rattle.slot_facts.proofs.Scheduling.Beside.{planned_due}
use Rattle.slot_facts.proofs.Scheduling.Chains.{precedes-from_after, raw_release-offline}
use Rattle.slot_facts.proofs.Scheduling.Counts.{count_in_window, held_number}
use Rattle.slot_facts.proofs.Scheduling.Fits.{listed-from_planned, job_of_task}
use Rattle.slot_facts.proofs.Scheduling.Raw.{release_or-other}
use Rattle.slot_facts.proofs.Sets.Tasks.{tasks_at, wcet_at, slice_get-within}

-- where each run of a key comes at a time or later, it has run at most the slots since then
executed-since : (key : Key) (a : ℕ) (h : History) → ((earlier : History) → Follows h (Run key) earlier → a ≤ time_of earlier) → executed key h ≤ time_of h - a
executed-since key a [] each = omega arith
executed-since key a (Run k ∷ h) each =
    let rest = executed-since key a h (λ earlier (later, same). each earlier (Run k ∷ later, ap (λ xs. Run k ∷ xs) same)) in
    elim (cases_Bool (same_key key k)) [
      | inl same ↦
          let late = each h ([], ap (λ x. Run x ∷ h) (sym (same_from_key key k same))) in
          omega (arith, rest, late, cond-true (same_key key k) (suc (executed key h)) (executed key h) same)
      | inr other ↦ omega (arith, rest, cond-false (same_key key k) (suc (executed key h)) (executed key h) other)
    ]
executed-since key a (Idle ∷ h) each =
    omega (arith, executed-since key a h (λ earlier (later, same). each earlier (Idle ∷ later, ap (λ xs. Idle ∷ xs) same)))
executed-since key a (what ∷ h) each =
    executed-since key a h (λ earlier (later, same). each earlier (what ∷ later, ap (λ xs. what ∷ xs) same))

-- in a legal history an offline job runs from its derived start on, since a slot runs a job that is ready
run-since_start : (set : TaskSet) (cycles : ℕ) (h : History) (job : Job) → is_sound set ≡ true → LegalEntries set (cycle_of set) (Run job.key ∷ h) → Reaches set (Run job.key ∷ h) cycles → Has (offline_jobs set (cycle_of set) cycles) job → job.est ≤ time_of h
run-since_start set cycles h job sound told reaches at =
    elim (run-says told) [
      | inl soft ↦ absurd (both_ways (is_offline job.key) (ap is_offline soft.keyed) (offline-key set (cycle_of set) cycles job at))
      | inr chosen ↦
          let few = time_of h / cycle_of set + 3 in
          let jobs = remaining set (cycle_of set) h in
          let first = IsEarliest-from_earliest (ready (time_of h) jobs) chosen.job chosen.first in
          let begun = Has-filter_passes (λ (j : Job). nat_le j.est (time_of h)) jobs chosen.job first.among in
          let own = unended_own h (guaranteed_in set (cycle_of set) few h) chosen.job begun.0 in
          let listed = guaranteed-more set few cycles h own.0 (reaches-tail set (Run job.key) h cycles sound reaches) own.1.listed in
          let keyed : own.0.key ≡ job.key = sym (chosen.keyed ∙ ap (λ (j : Job). j.key) own.1.same) in
          let same = job-from_key set cycles h own.0 job sound (entries-before told) listed (guaranteed-offline set cycles h job at) keyed in
          let starts : chosen.job.est ≡ job.est = ap (λ (j : Job). j.est) own.1.same ∙ ap (λ (j : Job). j.est) same in
          omega (arith, leb-true chosen.job.est (time_of h) begun.1, starts)
    ]

-- a legal history, and a slot schedule of its remaining jobs and others beside them
module _ (set : TaskSet) (h : History) (beside : List Job) (slots : List (Option ℕ)) (sound : is_sound set ≡ true) (told : LegalEntries set (cycle_of set) h) (schedule : IsSchedule set (remaining set (cycle_of set) h ++ beside) (time_of h) (horizon (cycle_of set) (time_of h)) slots) where
  abbrev cycle : ℕ
  cycle = cycle_of set

  abbrev cycles : ℕ
  cycles = time_of h / cycle + 3

  abbrev jobs : List Job
  jobs = remaining set cycle h

  -- the slot holds this number
  abbrev Holds : ℕ → ℕ → Type 0
  Holds u n = slice_get slots u ≡ Some (Some n)

  -- the offline ones are jobs of the set
  planned : ArePlanned set cycle cycles jobs
  planned = unended-planned set cycles h sound told

  -- an offline job has run only since its derived start
  ran-since : (job : Job) → Contains (offline_jobs set cycle cycles) job → executed job.key h ≤ time_of h - job.est
  ran-since job at =
      let listed = Has-from_Contains (offline_jobs set cycle cycles) job at in
      executed-since job.key job.est h (λ earlier (later, same).
      let own = entries-earlier later (Run job.key ∷ earlier) (subst (LegalEntries set cycle) same told) in
      let reaches : Reaches set h cycles = omega arith in
      run-since_start set cycles earlier job sound own (reaches-earlier set cycles later (Run job.key ∷ earlier) sound (subst (λ k. Reaches set k cycles) same reaches)) listed)

  -- one that has ended, and not early, has run its declared slots since then
  ended-since : (job : Job) → Contains (offline_jobs set cycle cycles) job → has_ended h job ≡ true → is_freed job.key h ≡ false → job.declared ≤ time_of h - job.est
  ended-since job at ended kept =
      elim (or_cases (nat_le job.declared (executed job.key h)) (is_freed job.key h) ended) [
        | inl all ↦ omega (arith, leb-true job.declared (executed job.key h) all, ran-since job at)
        | inr freed ↦ absurd (both_ways (is_freed job.key h) kept freed)
      ]

  -- one that remains has its other slots from then on, before each slot of a job that it precedes
  remaining-since : (u n m : ℕ) (job before : Job) → Holds u n → slice_get jobs n ≡ Some job → Contains (offline_jobs set cycle cycles) before → slice_get jobs m ≡ Some (with_left h before) → precedes set before.key job.key ≡ true → ((v : ℕ) → Holds v m → before.est ≤ time_of h + v) → before.est + before.declared ≤ time_of h + u
  remaining-since u n m job before slot at known at_m first since =
      let listed = Contains-from_Has jobs (with_left h before) (Has-from_slice_get jobs m (with_left h before) at_m) in
      let own = slice_get-append jobs beside m (with_left h before) at_m in
      let due = planned_due set cycles jobs (with_left h before) sound planned listed (precedes-offline set before.key job.key first).0 in
      let left = schedule.served m (with_left h before) own due in
      let count = count_in_window (holds m) slots (time_of h) before.est (time_of h + u) (λ v held_slot there held.
      let held_there = there ∙ ap Some (held_number m held_slot held) in
      let order = schedule.ordered v u m n (with_left h before) job held_there slot own (slice_get-append jobs beside n job at) first in
      (since v held_there, omega (arith, order))) in
      omega (arith, left, count, (IsOfCycle-from_offline set cycles before sound known).2.some, ran-since before known)

  -- so a predecessor has all its slots from then on, before each slot of the job
  predecessor-since : (u n : ℕ) (job before : Job) → Holds u n → slice_get jobs n ≡ Some job → Contains (offline_jobs set cycle cycles) before → precedes set before.key job.key ≡ true → is_freed before.key h ≡ false → ((v m : ℕ) → Holds v m → slice_get jobs m ≡ Some (with_left h before) → before.est ≤ time_of h + v) → before.est + before.declared ≤ time_of h + u
  predecessor-since u n job before slot at known first kept since =
      elim (cases_Bool (has_ended h before)) [
        | inl ended ↦ omega (arith, ended-since before known ended kept, (IsOfCycle-from_offline set cycles before sound known).2.some)
        | inr runs ↦
            let listed = guaranteed-offline set cycles h before (Has-from_Contains (offline_jobs set cycle cycles) before known) in
            let (m, at_m) = place_of_member jobs (with_left h before) (Has-unended h (guaranteed set cycle h) before runs listed) in
            remaining-since u n m job before slot at known at_m first (λ v there. since v m there at_m)
      ]

  -- where each predecessor has, so has the longest chain of them
  starts_by : (time : ℕ) (job : Job) → Contains jobs job → is_offline job.key ≡ true → raw_release set job ≤ time → ((before : Job) → Contains (offline_jobs set cycle cycles) before → precedes set before.key job.key ≡ true → before.est + before.declared ≤ time) → job.est ≤ time
  starts_by time job listed offline released each =
      let (g, t, k, graph, own) = listed-from_planned set cycles jobs job planned listed offline in
      let release = raw_release-offline set job g t k graph own.graph_at own.key in
      let chain = longest_before-le graph.tasks t (time - release_of graph k) λ p after below.
      let (task, task_at) = slice_get-within graph.tasks p below in
      let before = derived_job set (raw_job g graph k (p, task)) in
      let first : precedes set before.key job.key ≡ true = ap (λ (q : Key). precedes set (Offline g p k) q) own.key ∙ precedes-from_after set g k t p graph own.graph_at after in
      let fit = each before (job_of_task set cycles g k p graph task own.graph_at task_at own.below) first in
      let starts : before.est ≡ release_of graph k + longest_before graph.tasks p = ap (λ ts. release_of graph k + longest_before ts p) (tasks_at set g graph own.graph_at) in
      let declared : before.declared ≡ wcet_of graph.tasks p = sym (wcet_at graph.tasks p task task_at) in
      let le : longest_before graph.tasks p + wcet_of graph.tasks p ≤ time - release_of graph k = omega (arith, fit, starts, declared) in
      le in
      omega (arith, own.starts, chain, released, release)

  -- each slot of a remaining job lies at or after its derived start: those of its predecessors do, which start before it
  lies_after : (most u n : ℕ) (job : Job) → job.est ≤ most → Holds u n → slice_get jobs n ≡ Some job → NoneBeforeEndedEarly set h job.key → job.est ≤ time_of h + u
  lies_after zero u n job low slot at none = omega (arith, low)
  lies_after (suc most) u n job low slot at none =
      let inside = schedule.within u n job slot (slice_get-append jobs beside n job at) in
      let listed = Contains-from_Has jobs job (Has-from_slice_get jobs n job at) in
      elim (cases_Bool (is_offline job.key)) [
        | inl offline ↦ starts_by (time_of h + u) job listed offline inside.0 λ before known first.
            let earlier = IsBefore-from_precedes set cycles before (record job { left = job.declared }) sound known (planned job listed offline) first in
            predecessor-since u n job before slot at known first (none before.key (directly first)) λ v m there at_m.
            lies_after most v m (with_left h before) (omega (arith, earlier.starts, low)) there at_m (λ key comes. none key (further comes first))
        | inr other ↦ omega (arith, inside.0, release_or-other set job.key job.est other)
      ]

-- the slots of remaining jobs lie at or after their derived starts
pub slots_lie_after_derived_starts_at_legal_histories : SlotsLieAfterDerivedStartsAtLegalHistories
slots_lie_after_derived_starts_at_legal_histories set h beside u n slots job sound legal schedule slot at none =
    lies_after set h beside slots sound (legal-as_data set (cycle_of set) h legal) schedule job.est u n job (omega arith) slot at none
