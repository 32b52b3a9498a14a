-- What windows leave free stays so through every legal history, but for the slots that requested jobs ran.
use Rattle.std.proofs.Common.{◌≡◌, ℕ, suc, ◌+◌, ◌-◌, ◌/◌, ◌<◌, ◌≤◌, true, false, cond, ◌&&◌, List, [], ◌∷◌, ◌++◌, length, Some, None, refl, sym, ap, ◌∙◌, subst, inl, inr, arith}
use Rattle.std.specs.Prelude.{nat_le, slice_set}
use Rattle.std.proofs.lemmas.Bool.{cases_Bool, cases_lt, le-leb}
use Rattle.std.proofs.lemmas.Bool.Decides.{nat_tests}
use Rattle.slot_core.specs.declared.jobs.Key.{Key}
use Rattle.slot_core.specs.declared.jobs.Key.TheVariants.{Sporadic as SporadicKey}
use Rattle.slot_core.specs.declared.jobs.Job.{Job}
use Rattle.slot_core.specs.declared.tasks.TaskSet.{TaskSet}
use Rattle.slot_core.specs.declared.events.What.{What}
use Rattle.slot_core.specs.declared.events.What.TheVariants.{Sporadic as SporadicEntry, Done, Withdraw, Run, Idle}
use Rattle.slot_core.specs.declared.events.Spo.TheVariants.{Taken as SporadicTaken}
use Rattle.slot_core.specs.declared.events.Done.TheVariants.{Freed}
use Rattle.slot_core.specs.declared.events.Gone.TheVariants.{Freed as GoneFreed}
use Rattle.slot_core.specs.Sets.Cycles.{cycle_of}
use Rattle.slot_core.specs.Sets.Ranges.{is_sound}
use Rattle.slot_core.specs.Offline.OfflineJobs.{offline_jobs}
use Rattle.slot_core.specs.Feasibility.Sporadics.{sporadic_demand}
use Rattle.slot_core.specs.Runs.Histories.{History, time_of, sporadic_jobs}
use Rattle.slot_core.specs.Runs.Scenes.{has_ended, with_left, unended, remaining, guaranteed_in, next_arrivals}
use Rattle.slot_core.specs.Runs.Demand.{work_from}
use Rattle.slot_core.specs.Runs.Choice.{ready, earliest}
use Rattle.slot_facts.proofs.Bounds.CycleDemand.{FitsCycle-from_Has}
use Rattle.slot_facts.proofs.Bounds.SafeStart.{sporadic_demand-fewer}
use Rattle.slot_facts.proofs.Bounds.TakenArrival.{sporadic_demand-taken}
use Rattle.slot_facts.proofs.Choice.Earliest.{IsEarliest-from_earliest, least_due}
use Rattle.slot_facts.proofs.Demand.OneSlot.{sporadic_demand-later, none_is_ready}
use Rattle.slot_facts.proofs.Histories.Unended.{Has-unended, unended_own}
use Rattle.slot_facts.proofs.Legal.Bounds.{Reaches, below_end}
use Rattle.slot_facts.proofs.Legal.Carried.{reaches-tail}
use Rattle.slot_facts.proofs.Legal.Cycles.{ready-guaranteed}
use Rattle.slot_facts.proofs.Legal.Data.{RunsJob, TakesSporadic, LegalEntries, empty, at_start, at_end, slot_runs, idles, soft_taken, soft_full, accepted, late, far, no_room, sporadic_taken, soon, job_freed, soft_freed, not_running, withdrawn, no_job}
use Rattle.slot_facts.proofs.Legal.Jobs.{IsGuaranteed-from_listed, guaranteed-offline}
use Rattle.slot_facts.proofs.Legal.Left.{left_in, left_in-append, left_in-cons, left_in-further, left_in-none, left_of-le, due_by, from_by}
use Rattle.slot_facts.proofs.Legal.NextArrivals.{next_arrivals-set, length-next_arrivals}
use Rattle.slot_facts.proofs.Legal.Owned.{is_further}
use Rattle.slot_facts.proofs.Legal.Rows.{sporadic_job-at, sporadic-come}
use Rattle.slot_facts.proofs.Lists.Members.{Has, Has-filter, Has-filter_passes, Has-from_slice_get}
use Rattle.slot_facts.proofs.Offline.Jobs.{cycle-positive}
use Rattle.slot_facts.proofs.Sets.Tasks.{slice_get-within}
use Rattle.supply_laws.specs.Requests.{is_requested, used}
use Rattle.supply_laws.specs.Windows.{AreFree}
use Rattle.supply_laws.proofs.Lefts.{own_in, left_in-ran, left_in-later, left_in-whole, work_from-wider, own-from_guaranteed, guaranteed-from_own}

module _ (set : TaskSet) (within slots cycles : ℕ) (sound : is_sound set ≡ true) (free : AreFree set within slots) where
  abbrev cycle : ℕ
  cycle = cycle_of set

  -- what the set's own jobs have left that is due by x, and the arrivals that may come
  abbrev needs : History → ℕ → ℕ
  needs h x =
      left_in (due_by x) h (own_in set cycle cycles h)
      + sporadic_demand set.sporadics (next_arrivals set.sporadics h) (time_of h) x

  -- so many slots stay free up to each time that is ahead enough ahead, but for those that were used
  abbrev pub IsSupplied : History → Type 0
  IsSupplied h =
      (used h ≤ time_of h)
      × ((x : ℕ) → time_of h + within ≤ x + used h → time_of h + slots + needs h x ≤ x + used h)

  -- offline jobs are whole at first
  whole : (h : History) → LegalEntries set cycle h → (job : Job) → Has (offline_jobs set cycle cycles) job → job.left ≡ job.declared
  whole h legal job at =
      (IsGuaranteed-from_listed set cycles h job sound legal (guaranteed-offline set cycles h job at)).whole

  -- a job that starts before a is not to come
  not_from_before : (a x est dl : ℕ) → est < a → (nat_le a est && nat_le dl x) ≡ false
  not_from_before a x est dl early = grind (arith, nat_tests)

  -- where each of the set's own jobs that may start before a is due after x, what is due by x is to come from a on
  later-left : (h : History) (a x : ℕ) → LegalEntries set cycle h → ((job : Job) → Has (sporadic_jobs set.sporadics h) job → job.est < a) → ((job : Job) → Has (own_in set cycle cycles h) job → has_ended h job ≡ false → job.est < a → x < job.dl) → left_in (due_by x) h (own_in set cycle cycles h) ≤ work_from (offline_jobs set cycle cycles) a x
  later-left h a x legal come waits_past =
      let planned = offline_jobs set cycle cycles in
      let sporadic = sporadic_jobs set.sporadics h in
      omega (
        arith,
        left_in-later h a x (own_in set cycle cycles h) waits_past,
        left_in-append (from_by a x) h planned sporadic,
        left_in-whole (from_by a x) h planned (whole h legal),
        left_in-none (from_by a x) h sporadic (λ job at. not_from_before a x job.est job.dl (come job at)),
      )

  -- before the first slot
  supplied-empty : IsSupplied []
  supplied-empty = (
    omega arith,
    λ x ahead.
        let left = later-left [] 0 x empty (λ job at. absurd at) (λ job at runs early. absurd (omega arith)) in
        omega (
          arith,
          left,
          free cycles 0 x (omega arith),
          sporadic_demand-fewer set.sporadics (next_arrivals set.sporadics []) 0 x,
        ),
  )

  module _ (h : History) (legal : LegalEntries set cycle h) (supplied : IsSupplied h) where
    abbrev t : ℕ
    t = time_of h

    abbrev own : List Job
    own = own_in set cycle cycles h

    abbrev nexts : List ℕ
    nexts = next_arrivals set.sporadics h

    -- an end that a run or an idle slot leaves no more work
    less : (what : What) (x : ℕ) → left_in (due_by x) (what ∷ h) own ≤ left_in (due_by x) h own
    less what x = left_in-further (due_by x) h (what ∷ h) own (is_further what h)

    -- a slot that a requested job runs is one more that is used
    pub supplied-requested : (key : Key) → is_requested key ≡ true → IsSupplied (Run key ∷ h)
    supplied-requested key is =
        let more : used (Run key ∷ h) ≡ suc (used h) = ap {B = ℕ} (λ b. cond b (suc (used h)) (used h)) is in
        rw more (
          omega (arith, supplied.0),
          λ x ahead.
              omega (arith, supplied.1 x (omega arith), less (Run key) x, sporadic_demand-later set.sporadics nexts t (suc t) x (omega arith)),
        )

    -- where the own jobs that are ready are due after x, they leave as much free as the windows from the next slot on
    to_come : (what : What) (u x : ℕ) → u ≤ t → suc t + within ≤ x + u → ((job : Job) → Has own job → has_ended h job ≡ false → job.est ≤ t → x < job.dl) → suc t + slots + (left_in (due_by x) (what ∷ h) own + sporadic_demand set.sporadics nexts (suc t) x) ≤ x + u
    to_come what u x few ahead waits_past =
        let a : ℕ = suc t - u in
        let low : a ≤ suc t = omega arith in
        let left = later-left h (suc t) x legal (λ job at. omega (arith, (sporadic-come set h job sound legal at).starts)) (λ job at runs early. waits_past job at runs (omega arith)) in
        omega (
          arith,
          less what x,
          left,
          work_from-wider (offline_jobs set cycle cycles) a (suc t) x low,
          sporadic_demand-fewer set.sporadics nexts (suc t) x,
          sporadic_demand-later set.sporadics [] a (suc t) x low,
          free cycles a x (omega arith),
        )

    -- an idle slot
    pub supplied-idle : Reaches set h cycles → earliest (ready t (remaining set cycle h)) ≡ None → IsSupplied (Idle ∷ h)
    supplied-idle reaches none = (
      omega arith,
      λ x ahead.
          let past = below_end t cycle (t / cycle + 3) (cycle-positive set sound) (omega arith) in
          let same = ready-guaranteed set h (t / cycle + 3) cycles sound (omega (arith, past)) reaches in
          let jobs = unended h (guaranteed_in set cycle cycles h) in
          to_come Idle 0 x (omega arith) ahead (λ job at runs come.
          absurd (omega (arith, none_is_ready t jobs (with_left h job) (ap earliest same ∙ none) (Has-unended h (guaranteed_in set cycle cycles h) job runs (guaranteed-from_own set cycles h job at))))),
    )

    -- a slot that runs one of the set's own jobs, the earliest of all that are ready
    pub supplied-own : Reaches set h cycles → (best : Job) → earliest (ready t (remaining set cycle h)) ≡ Some best → is_requested best.key ≡ false → IsSupplied (Run best.key ∷ h)
    supplied-own reaches best is not_requested =
        let jobs = guaranteed_in set cycle cycles h in
        let past = below_end t cycle (t / cycle + 3) (cycle-positive set sound) (omega arith) in
        let same = ready-guaranteed set h (t / cycle + 3) cycles sound (omega (arith, past)) reaches in
        let first = IsEarliest-from_earliest (ready t (unended h jobs)) best (ap earliest same ∙ is) in
        let among = Has-filter_passes (λ (j : Job). nat_le j.est t) (unended h jobs) best first.among in
        let mine = unended_own h jobs best among.0 in
        let key_is : best.key ≡ mine.0.key = ap (λ (j : Job). j.key) mine.1.same in
        let due_is : best.dl ≡ mine.0.dl = ap (λ (j : Job). j.dl) mine.1.same in
        let listed = own-from_guaranteed set cycles h mine.0 (ap is_requested (sym key_is) ∙ not_requested) mine.1.listed in
        let stays : used (Run best.key ∷ h) ≡ used h = ap {B = ℕ} (λ b. cond b (suc (used h)) (used h)) not_requested in
        rw stays (
          omega (arith, supplied.0),
          λ x ahead.
              elim (cases_lt x best.dl) [
                | inl waits_past ↦ to_come (Run best.key) (used h) x supplied.0 ahead (λ job at runs come.
                    let waits = Has-filter (λ (j : Job). nat_le j.est t) (unended h jobs) (with_left h job) (Has-unended h jobs job runs (guaranteed-from_own set cycles h job at)) (le-leb job.est t come) in
                    omega (arith, least_due (ready t (unended h jobs)) best (with_left h job) first waits))
                | inr due ↦
                    let ran : left_in (due_by x) (Run best.key ∷ h) own + 1 ≤ left_in (due_by x) h own = subst (λ k. left_in (due_by x) (Run k ∷ h) own + 1 ≤ left_in (due_by x) h own) (sym key_is) (left_in-ran (due_by x) h own mine.0 listed mine.1.runs (le-leb mine.0.dl x (omega arith))) in
                    omega (arith, ran, supplied.1 x (omega arith), sporadic_demand-later set.sporadics nexts t (suc t) x (omega arith))
              ],
        )

    -- the slot runs the earliest job that is ready
    pub supplied-run : Reaches set h cycles → (key : Key) → RunsJob set cycle h key → IsSupplied (Run key ∷ h)
    supplied-run reaches key r =
        elim (cases_Bool (is_requested key)) [
          | inl requested ↦ supplied-requested key requested
          | inr mine ↦ subst (λ k. IsSupplied (Run k ∷ h)) (sym r.keyed) (supplied-own reaches r.job r.first (ap is_requested (sym r.keyed) ∙ mine))
        ]

    -- an early end or a withdrawal
    pub supplied-freed : (row n : ℕ) (key : Key) → IsSupplied (Done row key (Freed n) ∷ h)
    supplied-freed row n key =
        (supplied.0, λ x ahead. omega (arith, supplied.1 x ahead, less (Done row key (Freed n)) x))

    pub supplied-withdrawn : (row firm n : ℕ) → IsSupplied (Withdraw row firm (GoneFreed n) ∷ h)
    supplied-withdrawn row firm n =
        (supplied.0, λ x ahead. omega (arith, supplied.1 x ahead, less (Withdraw row firm (GoneFreed n)) x))

    -- a sporadic arrival
    pub supplied-sporadic : (row index due : ℕ) → TakesSporadic set h row index due → IsSupplied (SporadicEntry row index (SporadicTaken due) ∷ h)
    supplied-sporadic row index due r =
        let what = SporadicEntry row index (SporadicTaken due) in
        let after = what ∷ h in
        let planned = offline_jobs set cycle cycles in
        let sporadic = sporadic_jobs set.sporadics h in
        let (s, at) = slice_get-within set.sporadics index r.named in
        let fits = FitsCycle-from_Has set s sound (Has-from_slice_get set.sporadics index s at) in
        let count : length nexts ≡ length set.sporadics = length-next_arrivals set.sporadics h 0 in
        let nexts_after = next_arrivals-set set.sporadics h row index due 0 index index s at (omega arith) refl in
        let taken : Job = record { key = SporadicKey index row; est = t; dl = t + s.deadline; left = s.wcet; declared = s.wcet } in
        let bound : (x : ℕ) → t + within ≤ x + used h → t + slots + (left_in (due_by x) after (planned ++ taken ∷ sporadic) + sporadic_demand set.sporadics (slice_set nexts index (t + s.separation)) t x) ≤ x + used h = λ x ahead.
        omega (
          arith,
          supplied.1 x ahead,
          left_in-append (due_by x) after planned (taken ∷ sporadic),
          left_in-cons (due_by x) after taken sporadic,
          left_of-le (due_by x) after taken,
          left_in-append (due_by x) after planned sporadic,
          less what x,
          sporadic_demand-taken set.sporadics nexts index s t x at count fits.apart r.not_soon,
        ) in
        let job_is = sporadic_job-at set.sporadics index row t s at in (
          supplied.0,
          subst (λ (j : Job). (x : ℕ) → t + within ≤ x + used h → t + slots + (left_in (due_by x) after (planned ++ j ∷ sporadic) + sporadic_demand set.sporadics (next_arrivals set.sporadics after) t x) ≤ x + used h) (sym job_is)
              (subst (λ ns. (x : ℕ) → t + within ≤ x + used h → t + slots + (left_in (due_by x) after (planned ++ taken ∷ sporadic) + sporadic_demand set.sporadics ns t x) ≤ x + used h) (sym nexts_after) bound),
        )

  -- so at every legal history
  pub supplied-legal : {h : History} → LegalEntries set cycle h → Reaches set h cycles → IsSupplied h
  supplied-legal empty reaches = supplied-empty
  supplied-legal (at_start l) reaches = supplied-legal l reaches
  supplied-legal (at_end l) reaches = supplied-legal l reaches
  supplied-legal {h = what ∷ h} (slot_runs {key = key} known (inl r) l) reaches =
      supplied-requested h l (supplied-legal l (reaches-tail set what h cycles sound reaches)) key (ap is_requested r.keyed)
  supplied-legal {h = what ∷ h} (slot_runs {key = key} known (inr r) l) reaches =
      let before = reaches-tail set what h cycles sound reaches in
      supplied-run h l (supplied-legal l before) before key r
  supplied-legal {h = what ∷ h} (idles none l) reaches =
      let before = reaches-tail set what h cycles sound reaches in
      supplied-idle h l (supplied-legal l before) before none
  supplied-legal (soft_taken r l) reaches = supplied-legal l reaches
  supplied-legal (soft_full above l) reaches = supplied-legal l reaches
  supplied-legal (accepted r l) reaches = supplied-legal l reaches
  supplied-legal (late above l) reaches = supplied-legal l reaches
  supplied-legal (far above l) reaches = supplied-legal l reaches
  supplied-legal (no_room above l) reaches = supplied-legal l reaches
  supplied-legal {h = what ∷ h} (sporadic_taken {row = row} {index = index} {due = due} r l) reaches =
      supplied-sporadic h l (supplied-legal l reaches) row index due r
  supplied-legal (soon above l) reaches = supplied-legal l reaches
  supplied-legal {h = what ∷ h} (job_freed {row = row} {n = n} {key = key} above j started l) reaches =
      supplied-freed h l (supplied-legal l reaches) row n key
  supplied-legal {h = what ∷ h} (soft_freed {row = row} {n = n} {key = key} above r l) reaches =
      supplied-freed h l (supplied-legal l reaches) row n key
  supplied-legal (not_running above l) reaches = supplied-legal l reaches
  supplied-legal {h = what ∷ h} (withdrawn {row = row} {firm = firm} {n = n} above j l) reaches =
      supplied-withdrawn h l (supplied-legal l reaches) row firm n
  supplied-legal (no_job above l) reaches = supplied-legal l reaches
