-- A history whose runs and early ends are owned, and in which no job was ever late, is served and ordered; so every legal
-- history of a feasible set is.
use Rattle.std.proofs.Common.{◌≡◌, ℕ, suc, ◌+◌, ◌/◌, ◌≤◌, ◌<◌, Bool, true, false, ◌||◌, List, [], ◌∷◌, ◌++◌, length, take, Some, refl, sym, ap, ◌∙◌, subst, inl, inr, arith}
use Rattle.std.specs.Prelude.{nat_le}
use Rattle.std.proofs.lemmas.Bool.{both_ways, cases_Bool, or_left, or_right, or_parts, leb-false, cond-true, cond-false}
use Rattle.slot_core.specs.declared.jobs.Key.{Key}
use Rattle.slot_core.specs.declared.jobs.Key.TheVariants.{Offline, Sporadic as SporadicKey, Soft as SoftKey, Firm as FirmKey}
use Rattle.slot_core.specs.declared.jobs.Job.{Job}
use Rattle.slot_core.specs.declared.tasks.TaskSet.{TaskSet}
use Rattle.slot_core.specs.declared.events.What.{What}
use Rattle.slot_core.specs.declared.events.What.TheVariants.{Done, Withdraw, Run}
use Rattle.slot_core.specs.declared.events.Done.TheVariants.{Freed}
use Rattle.slot_core.specs.declared.events.Gone.TheVariants.{Freed as GoneFreed}
use Rattle.slot_core.specs.Offline.Keys.{same_key, is_offline, is_soft}
use Rattle.slot_core.specs.Sets.Cycles.{cycle_of}
use Rattle.slot_core.specs.Sets.Ranges.{is_sound}
use Rattle.slot_core.specs.Feasibility.Feasible.{IsFeasible}
use Rattle.slot_core.specs.Offline.OfflineJobs.{offline_jobs}
use Rattle.slot_core.specs.Offline.Windows.{release_or, deadline_or, raw_release, raw_deadline, precedes}
use Rattle.slot_core.specs.Runs.Histories.{History, Follows, time_of, executed, freed_by, is_freed, is_over}
use Rattle.slot_core.specs.Runs.Scenes.{guaranteed_in, has_ended}
use Rattle.slot_core.specs.Runs.Traces.{IsLegal, trace, history_of}
use Rattle.slot_core.specs.Claims.Service.{all_jobs, IsInside, IsServed, IsOrdered}
use Rattle.slot_facts.proofs.Offline.Windows.{precedes-offline}
use Rattle.slot_facts.specs.Service.{EveryLegalHistoryIsServed, EveryTraceIsServed}
use Rattle.slot_facts.proofs.Choice.Earliest.{same_from_key}
use Rattle.slot_facts.proofs.Lists.ApartKeys.{same_key-itself}
use Rattle.slot_facts.proofs.Lists.Members.{Has, Has-from_Contains, Contains-from_Has}
use Rattle.slot_facts.proofs.Offline.Jobs.{cycle-positive}
use Rattle.slot_facts.proofs.Offline.Windows.{IsOfCycle-from_offline}
use Rattle.slot_facts.proofs.Legal.Bounds.{Reaches, reaches-before, due-later}
use Rattle.slot_facts.proofs.Legal.Carried.{carried-legal}
use Rattle.slot_facts.proofs.Legal.Data.{Slots, Entries, LegalEntries, legal-as_data}
use Rattle.slot_facts.proofs.Legal.Jobs.{IsGuaranteed-from_listed, guaranteed-cases, guaranteed-earlier, all_jobs_in, all_jobs-of_job, all_jobs-of_soft, all_jobs-earlier, declared-from_key, job-from_key}
use Rattle.slot_facts.proofs.Legal.Known.{time-earlier, NoneIsLate, ended-in_time, concerned-known}
use Rattle.slot_facts.proofs.Legal.Rows.{entries-earlier}
use Rattle.slot_facts.proofs.Legal.Owned.{JobMayRun, IsOwned, run-owned, freed-owned, over-later}
use Rattle.slot_facts.proofs.Legal.Traces.{every_trace_is_legal}

-- where no run of a key comes after its end, it runs no more than its declared slots
run_once : (declared ran : ℕ) (freed : Bool) → (nat_le declared ran || freed) ≡ false → ran < declared
run_once declared ran freed runs = leb-false declared ran (or_parts (nat_le declared ran) freed runs).0

runs-at_most : (key : Key) (declared : ℕ) (h : History) → ((earlier : History) → Follows h (Run key) earlier → is_over earlier key declared ≡ false) → executed key h ≤ declared
runs-at_most key declared [] each = omega arith
runs-at_most key declared (Run k ∷ h) each =
    let rest = runs-at_most key declared h (λ earlier (later, same). each earlier (Run k ∷ later, ap (λ xs. Run k ∷ xs) same)) in
    elim (cases_Bool (same_key key k)) [
      | inl same ↦
          let runs = each h ([], ap (λ x. Run x ∷ h) (sym (same_from_key key k same))) in
          omega (arith, cond-true (same_key key k) (suc (executed key h)) (executed key h) same, run_once declared (executed key h) (is_freed key h) runs)
      | inr other ↦ omega (arith, rest, cond-false (same_key key k) (suc (executed key h)) (executed key h) other)
    ]
runs-at_most key declared (what ∷ h) each =
    runs-at_most key declared h (λ earlier (later, same). each earlier (what ∷ later, ap (λ xs. what ∷ xs) same))

-- once it has ended it does not run
stands-still : (key : Key) (declared : ℕ) (later h : History) → is_over h key declared ≡ true → ((earlier : History) → Follows (later ++ h) (Run key) earlier → is_over earlier key declared ≡ false) → executed key (later ++ h) ≡ executed key h
stands-still key declared [] h over each = refl
stands-still key declared (Run k ∷ later) h over each =
    let rest = stands-still key declared later h over (λ earlier (more, same). each earlier (Run k ∷ more, ap (λ xs. Run k ∷ xs) same)) in
    elim (cases_Bool (same_key key k)) [
      | inl same ↦
          let runs = each (later ++ h) ([], ap (λ x. Run x ∷ (later ++ h)) (sym (same_from_key key k same))) in
          absurd (both_ways (is_over (later ++ h) key declared) runs (over-later later h key declared over))
      | inr other ↦ cond-false (same_key key k) (suc (executed key (later ++ h))) (executed key (later ++ h)) other ∙ rest
    ]
stands-still key declared (what ∷ later) h over each =
    stands-still key declared later h over (λ earlier (more, same). each earlier (what ∷ more, ap (λ xs. what ∷ xs) same))

-- an early end ends its job, which runs nothing in it
over-freed : (what : What) (key : Key) (declared n : ℕ) (h : History) → freed_by what ≡ Some (key, n) → (is_over (what ∷ h) key declared ≡ true) × (executed key (what ∷ h) ≡ executed key h)
over-freed (Done row k (Freed m)) key declared n h e =
    let found : Key × ℕ = (k, m) in
    let asked : Key × ℕ = (key, n) in
    let pairs : found ≡ asked = cc in
    let same : k ≡ key = ap (λ (p : Key × ℕ). p.0) pairs in
    let own : same_key key k ≡ true = ap (same_key key) same ∙ same_key-itself key key refl in
    (or_right (nat_le declared (executed key h)) (same_key key k || is_freed key h) (or_left (same_key key k) (is_freed key h) own), refl)
over-freed (Withdraw row firm (GoneFreed m)) key declared n h e =
    let found : Key × ℕ = (FirmKey firm, m) in
    let asked : Key × ℕ = (key, n) in
    let pairs : found ≡ asked = cc in
    let same : FirmKey firm ≡ key = ap (λ (p : Key × ℕ). p.0) pairs in
    let own : same_key key (FirmKey firm) ≡ true = ap (same_key key) same ∙ same_key-itself key key refl in
    (or_right (nat_le declared (executed key h)) (same_key key (FirmKey firm) || is_freed key h) (or_left (same_key key (FirmKey firm)) (is_freed key h) own), refl)
over-freed what key declared n h e = absurd (cc e)

-- with the offline jobs of so many cycles, no job was ever late
abbrev pub NoneWasLate : TaskSet → ℕ → History → Type 0
NoneWasLate set cycles h = (later earlier : History) → h ≡ later ++ earlier → NoneIsLate set cycles earlier

module _ {S : Slots} (set : TaskSet) (h : History) (sound : is_sound set ≡ true) (told : Entries S set (cycle_of set) h) (owned : IsOwned set (time_of h / cycle_of set + 3) h) (none_late : NoneWasLate set (time_of h / cycle_of set + 3) h) where
  abbrev cycles : ℕ
  cycles = time_of h / cycle_of set + 3

  abbrev jobs : List Job
  jobs = guaranteed_in set (cycle_of set) cycles h

  abbrev Told : Key → ℕ → Type 0
  Told key declared = Has (all_jobs_in set (cycle_of set) cycles h) (key, declared)

  -- the jobs of an earlier history are told
  told-follow : (what : What) (key : Key) (declared : ℕ) (earlier : History) → Follows h what earlier → Has (all_jobs_in set (cycle_of set) cycles earlier) (key, declared) → Told key declared
  told-follow what key declared earlier (later, same) at =
      let next = all_jobs-earlier set cycles (what ∷ []) earlier (key, declared) at in
      let last = all_jobs-earlier set cycles later (what ∷ earlier) (key, declared) next in
      subst (λ k. Has (all_jobs_in set (cycle_of set) cycles k) (key, declared)) (sym same) last

  job-follow : (what : What) (job : Job) (earlier : History) → Follows h what earlier → Has (guaranteed_in set (cycle_of set) cycles earlier) job → Has jobs job
  job-follow what job earlier (later, same) at =
      let next = guaranteed-earlier set cycles (what ∷ []) earlier job at in
      let last = guaranteed-earlier set cycles later (what ∷ earlier) job next in
      subst (λ k. Has (guaranteed_in set (cycle_of set) cycles k) job) (sym same) last

  -- each run is of a job that is told, and that has not ended
  run-told : (key : Key) (earlier : History) → Follows h (Run key) earlier → (declared : ℕ) × Told key declared × (is_over earlier key declared ≡ false)
  run-told key earlier follows =
      elim (run-owned set cycles h key earlier owned follows) [
        | inl may ↦
            let at = told-follow (Run key) may.job.key may.job.declared earlier follows (all_jobs-of_job set cycles earlier may.job may.listed) in
            subst (λ k. (declared : ℕ) × Told k declared × (is_over earlier k declared ≡ false)) may.keyed (may.job.declared, at, may.runs)
        | inr may ↦
            let at = told-follow (Run key) (SoftKey may.soft.row) may.soft.declared earlier follows (all_jobs-of_soft set cycles earlier may.soft may.listed) in
            subst (λ k. (declared : ℕ) × Told k declared × (is_over earlier k declared ≡ false)) may.keyed (may.soft.declared, at, may.runs)
      ]

  -- so no job runs after it has ended
  not-after_end : (key : Key) (declared : ℕ) (earlier : History) → Told key declared → Follows h (Run key) earlier → is_over earlier key declared ≡ false
  not-after_end key declared earlier at follows =
      let r = run-told key earlier follows in
      let same = declared-from_key set cycles h key r.0 declared sound told r.1 at in
      subst (λ d. is_over earlier key d ≡ false) same r.2

  -- nor after an early end
  stands-from : (what : What) (key : Key) (declared n : ℕ) (earlier : History) → Told key declared → Follows h what earlier → freed_by what ≡ Some (key, n) → executed key h ≡ executed key earlier
  stands-from what key declared n earlier at (later, same) e =
      let over = over-freed what key declared n earlier e in
      let each = λ (before : History) (follows : Follows (later ++ what ∷ earlier) (Run key) before).
      not-after_end key declared before at (subst (λ k. Follows k (Run key) before) (sym same) follows) in
      ap (executed key) same ∙ stands-still key declared later (what ∷ earlier) over.0 each ∙ over.1

  -- an early end frees what its job does not run
  freed-slots : (what : What) (key : Key) (declared n : ℕ) (earlier : History) → Told key declared → Follows h what earlier → freed_by what ≡ Some (key, n) → (1 ≤ n) × (executed key h + n ≡ declared)
  freed-slots what key declared n earlier at follows e =
      let m = freed-owned set cycles h what key n earlier owned follows e in
      let same = declared-from_key set cycles h key m.declared declared sound told (told-follow what key m.declared earlier follows m.listed) at in
      let short = run_once m.declared (executed key earlier) (is_freed key earlier) m.runs in
      let still = stands-from what key declared n earlier at follows e in
      (omega (arith, m.slots), omega (arith, m.slots))

  -- the derived window of a guaranteed job lies in its raw one
  raw-other : (key : Key) (n : ℕ) → is_offline key ≡ false → (release_or set key n ≡ n) × (deadline_or set key n ≡ n)
  raw-other (Offline g i k) n other = absurd (cc other)
  raw-other (SporadicKey i r) n other = (refl, refl)
  raw-other (FirmKey r) n other = (refl, refl)
  raw-other (SoftKey r) n other = (refl, refl)

  in_raw : (job : Job) → Has jobs job → (raw_release set job ≤ job.est) × (job.dl ≤ raw_deadline set job)
  in_raw job at =
      elim (guaranteed-cases set cycles h job sound told at) [
        | inl planned ↦
            let of_cycle = IsOfCycle-from_offline set cycles job sound (Contains-from_Has (offline_jobs set (cycle_of set) cycles) job planned) in
            (of_cycle.2.released, of_cycle.2.due)
        | inr come ↦
            let starts = (raw-other job.key job.est come.not_offline).0 in
            let ends = (raw-other job.key job.dl come.not_offline).1 in
            (omega arith, omega arith)
      ]

  -- a run of a guaranteed job is owned by that job
  own-job : (job : Job) (earlier : History) → Has jobs job → Follows h (Run job.key) earlier → (may : JobMayRun set cycles earlier job.key) × (may.job ≡ job)
  own-job job earlier at follows =
      elim (run-owned set cycles h job.key earlier owned follows) [
        | inl may ↦ (may, job-from_key set cycles h may.job job sound told (job-follow (Run job.key) may.job earlier follows may.listed) at may.keyed)
        | inr may ↦
            absurd (both_ways (is_soft job.key) (IsGuaranteed-from_listed set cycles h job sound told at).not_soft (ap is_soft (sym may.keyed)))
      ]

  run-inside : (job : Job) (earlier : History) → Has jobs job → Follows h (Run job.key) earlier → IsInside set (time_of earlier) job
  run-inside job earlier at follows =
      let own = own-job job earlier at follows in
      let raw = in_raw job at in
      (raw.0, subst (λ (j : Job). j.est ≤ time_of earlier) own.1 own.0.started, subst (λ (j : Job). time_of earlier < j.dl) own.1 own.0.early, raw.1)

  run-ordered : (before after : Job) (earlier : History) → Has jobs before → Has jobs after → precedes set before.key after.key ≡ true → Follows h (Run after.key) earlier → has_ended earlier before ≡ true
  run-ordered before after earlier at_before at_after first follows =
      let own = own-job after earlier at_after follows in
      elim (guaranteed-cases set cycles h before sound told at_before) [
        | inl planned ↦ own.0.ordered before planned first
        | inr come ↦ absurd (both_ways (is_offline before.key) come.not_offline (precedes-offline set before.key after.key first).0)
      ]

  pub served : IsServed set (cycle_of set) h
  served = record {
    inside = λ job earlier at follows. run-inside job earlier (Has-from_Contains jobs job at) follows;
    in_time = λ job later earlier at same due.
        let listed = subst (λ k. Has (guaranteed_in set (cycle_of set) cycles k) job) same (Has-from_Contains jobs job at) in
        ended-in_time set cycles later earlier job sound (subst (Entries S set (cycle_of set)) same told) (none_late later earlier same) listed due;
    known = λ what key earlier (later, same) concerns.
        let own = entries-earlier later (what ∷ earlier) (subst (Entries S set (cycle_of set)) same told) in
        let (declared, at) = concerned-known set what key earlier own concerns in
        (declared, Contains-from_Has (all_jobs set (cycle_of set) earlier) (key, declared) at);
    not_after_end = λ key declared earlier at follows.
        not-after_end key declared earlier (Has-from_Contains (all_jobs_in set (cycle_of set) cycles h) (key, declared) at) follows;
    at_most_declared = λ key declared at.
        runs-at_most key declared h (λ earlier follows. not-after_end key declared earlier (Has-from_Contains (all_jobs_in set (cycle_of set) cycles h) (key, declared) at) follows);
    freed = λ what key declared n earlier at follows e.
        freed-slots what key declared n earlier (Has-from_Contains (all_jobs_in set (cycle_of set) cycles h) (key, declared) at) follows e;
  }

  pub ordered : IsOrdered set (cycle_of set) h
  ordered = λ before after earlier at_before at_after first follows.
      run-ordered before after earlier (Has-from_Contains jobs before at_before) (Has-from_Contains jobs after at_after) first follows

-- what reaches past a history reaches past an earlier one
pub reaches-earlier : (set : TaskSet) (cycles : ℕ) (later h : History) → is_sound set ≡ true → Reaches set (later ++ h) cycles → Reaches set h cycles
reaches-earlier set cycles later h sound reaches =
    reaches-before (time_of h) (time_of (later ++ h)) (cycle_of set) cycles (cycle-positive set sound) (time-earlier later h) reaches

-- in a legal history of a feasible set no job was ever late
legal-none_late : (set : TaskSet) (cycles : ℕ) (h : History) → is_sound set ≡ true → IsFeasible set (cycle_of set) → LegalEntries set (cycle_of set) h → Reaches set h cycles → NoneWasLate set cycles h
legal-none_late set cycles h sound feasible legal reaches later earlier same job at runs =
    let own = entries-earlier later earlier (subst (LegalEntries set (cycle_of set)) same legal) in
    let near = reaches-earlier set cycles later earlier sound (subst (λ k. Reaches set k cycles) same reaches) in
    due-later set cycles earlier sound own near (carried-legal set sound feasible own cycles near) job at runs

-- so it is served and ordered
pub every_legal_history_is_served : EveryLegalHistoryIsServed
every_legal_history_is_served set h sound feasible legal =
    let told = legal-as_data set (cycle_of set) h legal in
    let cycles = time_of h / cycle_of set + 3 in
    let reaches : Reaches set h cycles = omega arith in
    let owned = (carried-legal set sound feasible told cycles reaches).owned in
    let none_late : NoneWasLate set cycles h = legal-none_late set cycles h sound feasible told reaches in
    (served set h sound told owned none_late, ordered set h sound told owned none_late)

-- so every trace of a feasible set and fitting arrivals is
take-whole : {X : Type 0} (xs : List X) → take (length xs) xs ≡ xs
take-whole [] = refl
take-whole (x ∷ xs) = ap (λ ys. x ∷ ys) (take-whole xs)

pub every_trace_is_served : EveryTraceIsServed
every_trace_is_served set arrivals n sound feasible fits =
    let told = trace set arrivals n in
    let legal = every_trace_is_legal set arrivals n (length told) fits in
    every_legal_history_is_served set (history_of told) sound feasible (subst (λ es. IsLegal set (cycle_of set) (history_of es)) (take-whole told) legal)
