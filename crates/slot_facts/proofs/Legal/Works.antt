-- What the jobs of a history have left, whatever ran: few slots, due by the end of its cycles.
use Rattle.std.proofs.Common.{◌≡◌, ℕ, ◌+◌, ◌*◌, ◌/◌, ◌<◌, ◌≤◌, true, List, [], ◌∷◌, ◌++◌, mul-le-mul_right, ap, inl, inr, arith}
use Rattle.std.specs.Prelude.{sum_by, length, nat_le, ◌&&◌, if◌then◌else◌}
use Rattle.std.proofs.lemmas.Bool.{le-leb, and_from, cond-true}
use Rattle.std.proofs.lemmas.List.Sums.{sum_by-cons, sum_by-append, sum_by-le-sum_by}
use Rattle.slot_core.specs.declared.TheConstants.{OFFER_LIMIT, SLOT_LIMIT}
use Rattle.slot_core.specs.declared.jobs.Job.{Job}
use Rattle.slot_core.specs.declared.tasks.TaskSet.{TaskSet}
use Rattle.slot_core.specs.declared.events.What.TheVariants.{Firm, Sporadic as SporadicEntry}
use Rattle.slot_core.specs.declared.events.Firm.TheVariants.{Accepted}
use Rattle.slot_core.specs.declared.events.Spo.TheVariants.{Taken as SporadicTaken}
use Rattle.slot_core.specs.Sets.Cycles.{cycle_of}
use Rattle.slot_core.specs.Sets.Ranges.{is_sound, sporadic_in_range}
use Rattle.slot_core.specs.Feasibility.Feasible.{IsFeasible}
use Rattle.slot_core.specs.Offline.OfflineJobs.{offline_jobs}
use Rattle.slot_core.specs.Runs.Histories.{History, time_of, last_row, offered_job, firm_jobs, sporadic_job, sporadic_jobs}
use Rattle.slot_core.specs.Runs.Scenes.{guaranteed_in, unended}
use Rattle.slot_facts.proofs.Bounds.SafeStart.{offline_jobs-fit}
use Rattle.slot_facts.proofs.Legal.Bounds.{below_end}
use Rattle.slot_facts.proofs.Legal.Data.{Slots, Entries}
use Rattle.slot_facts.proofs.Legal.Jobs.{guaranteed-cases}
use Rattle.slot_facts.proofs.Legal.Left.{left_in, left_of, left_in-unended, left_of-le}
use Rattle.slot_facts.proofs.Legal.Rows.{entries-before, rows-rise, accepted-says, sporadic_taken-says, sporadic_job-at}
use Rattle.slot_facts.proofs.Lists.Members.{Has, Contains-from_Has, Has-from_slice_get, AllByRecursion-from_Has, passes_from_list_all}
use Rattle.slot_facts.proofs.Lists.Sums.{sum_by-le-where}
use Rattle.slot_facts.proofs.Offline.Jobs.{cycle-positive}
use Rattle.slot_facts.proofs.Offline.Windows.{IsOfCycle-from_offline}
use Rattle.slot_facts.proofs.Sets.Ranges.{bounds, SetRanges-from_sound, SporadicRanges-from_test}
use Rattle.slot_facts.proofs.Sets.Tasks.{slice_get-within}

-- the slots that the jobs of a list declare
abbrev slots_of : List Job → ℕ
slots_of jobs = sum_by (λ (j : Job). j.declared) jobs

-- an offline job lies in its cycles
offline-end : (set : TaskSet) (n : ℕ) (job : Job) → is_sound set ≡ true → Has (offline_jobs set (cycle_of set) n) job → (job.dl ≤ n * cycle_of set) × (job.left ≡ job.declared)
offline-end set n job sound at =
    let (k, below, own) = IsOfCycle-from_offline set n job sound (Contains-from_Has (offline_jobs set (cycle_of set) n) job at) in
    let most : (k + 1) * cycle_of set ≤ n * cycle_of set = mul-le-mul_right (cycle_of set) (omega arith) in
    (omega (arith, own.ends), own.whole)

-- a job that ends by then counts with all its slots
whole-counts : (est dl left declared end : ℕ) → dl ≤ end → left ≡ declared → declared ≤ (if nat_le 0 est && nat_le dl end then left else 0)
whole-counts est dl left declared end ends whole =
    let passes = and_from (nat_le 0 est) (nat_le dl end) (le-leb 0 est (omega arith)) (le-leb dl end ends) in
    omega (arith, cond-true (nat_le 0 est && nat_le dl end) left 0 passes)

-- the offline jobs of some cycles fit them
offline-slots : (set : TaskSet) (n : ℕ) → is_sound set ≡ true → IsFeasible set (cycle_of set) → slots_of (offline_jobs set (cycle_of set) n) ≤ n * cycle_of set
offline-slots set n sound feasible =
    let jobs = offline_jobs set (cycle_of set) n in
    let end = n * cycle_of set in
    let inside = AllByRecursion-from_Has (λ (j : Job). (j.dl ≤ end) × (j.left ≡ j.declared)) jobs (λ j at. offline-end set n j sound at) in
    let all = sum_by-le-where (λ (j : Job). j.declared) (λ (j : Job). if nat_le 0 j.est && nat_le j.dl end then j.left else 0) (λ (j : Job). (j.dl ≤ end) × (j.left ≡ j.declared)) jobs inside (λ j own. whole-counts j.est j.dl j.left j.declared end own.0 own.1) in
    omega (arith, all, offline_jobs-fit set n [] 0 end sound feasible (omega arith))

-- a sporadic job declares no more than a slot limit
sporadic_job-few : (set : TaskSet) (index row t : ℕ) → is_sound set ≡ true → index < length set.sporadics → (sporadic_job set.sporadics index row t).declared ≤ SLOT_LIMIT
sporadic_job-few set index row t sound named =
    let (s, at) = slice_get-within set.sporadics index named in
    let test = passes_from_list_all sporadic_in_range set.sporadics s (SetRanges-from_sound set sound).sporadics (Has-from_slice_get set.sporadics index s at) in
    let few = (bounds 1 SLOT_LIMIT s.wcet (SporadicRanges-from_test s test).wcet).1 in
    let same = ap (λ (j : Job). j.declared) (sporadic_job-at set.sporadics index row t s at) in
    omega (arith, same)

-- the jobs that came declare no more than the limit of an offer a row
came-slots : {S : Slots} (set : TaskSet) (h : History) → is_sound set ≡ true → Entries S set (cycle_of set) h → slots_of (firm_jobs h) + slots_of (sporadic_jobs set.sporadics h) ≤ OFFER_LIMIT * last_row h
came-slots set [] sound told = omega arith
came-slots set (Firm row slots within Accepted ∷ h) sound told =
    let a = accepted-says told in
    let one = sum_by-cons (λ (j : Job). j.declared) (offered_job row (time_of h) slots within) (firm_jobs h) in
    omega (arith, one, a.above, a.few, came-slots set h sound (entries-before told))
came-slots set (SporadicEntry row index (SporadicTaken due) ∷ h) sound told =
    let a = sporadic_taken-says told in
    let one = sum_by-cons (λ (j : Job). j.declared) (sporadic_job set.sporadics index row (time_of h)) (sporadic_jobs set.sporadics h) in
    omega (arith, one, a.above, sporadic_job-few set index row (time_of h) sound a.named, came-slots set h sound (entries-before told))
came-slots set (what ∷ h) sound told =
    omega (arith, came-slots set h sound (entries-before told), rows-rise told)

-- the jobs that have not ended have no more slots left than all declare
left-declared : (h : History) (jobs : List Job) → sum_by (λ (j : Job). j.left) (unended h jobs) ≤ slots_of jobs
left-declared h jobs =
    let all = λ (a b : ℕ). true in
    let left : sum_by (λ (j : Job). j.left) (unended h jobs) ≡ left_in all h jobs = left_in-unended all h jobs in
    omega (arith, left, sum_by-le-sum_by (left_of all h) (λ (j : Job). j.declared) jobs (λ j. left_of-le all h j))

-- so they have no more left than their cycles and their rows allow
pub left-few : {S : Slots} (set : TaskSet) (cycles : ℕ) (h : History) → is_sound set ≡ true → IsFeasible set (cycle_of set) → Entries S set (cycle_of set) h → sum_by (λ (j : Job). j.left) (unended h (guaranteed_in set (cycle_of set) cycles h)) ≤ cycles * cycle_of set + OFFER_LIMIT * last_row h
left-few set cycles h sound feasible told =
    let slots = λ (j : Job). j.declared in
    let offline = offline_jobs set (cycle_of set) cycles in
    let firm = firm_jobs h in
    let sporadic = sporadic_jobs set.sporadics h in
    omega (
      arith,
      left-declared h (guaranteed_in set (cycle_of set) cycles h),
      sum_by-append slots (offline ++ firm) sporadic,
      sum_by-append slots offline firm,
      offline-slots set cycles sound feasible,
      came-slots set h sound told,
    )

-- each guaranteed job is due by the end of cycles that reach past the time
pub guaranteed-end : {S : Slots} (set : TaskSet) (cycles : ℕ) (h : History) (job : Job) → is_sound set ≡ true → Entries S set (cycle_of set) h → time_of h / cycle_of set + 3 ≤ cycles → Has (guaranteed_in set (cycle_of set) cycles h) job → job.dl ≤ cycles * cycle_of set
guaranteed-end set cycles h job sound told reaches at =
    elim (guaranteed-cases set cycles h job sound told at) [
      | inl planned ↦ (offline-end set cycles job sound planned).0
      | inr come ↦ omega (arith, come.due, below_end (time_of h) (cycle_of set) cycles (cycle-positive set sound) reaches)
    ]
