-- What a legal history carries, and the bounds of its scene that follow.
use Rattle.std.proofs.Common.{◌≡◌, ℕ, ◌+◌, ◌-◌, ◌*◌, ◌/◌, ◌<◌, ◌≤◌, true, false, not, List, div-lt_iff_lt-mul, div-mul-le_self, mul-le-mul_right, filter, sym, ap, ◌∙◌, subst, inl, inr, arith}
use Rattle.std.specs.Prelude.{Contains, nat_le}
use Rattle.std.proofs.lemmas.Nat.{le-div}
use Rattle.std.proofs.lemmas.Bool.{both_ways, lt-leb, or_from}
use Rattle.std.proofs.lemmas.List.Elements.{All-contains}
use Rattle.slot_core.specs.declared.jobs.Job.{Job}
use Rattle.slot_core.specs.declared.tasks.TaskSet.{TaskSet}
use Rattle.slot_core.specs.Offline.Keys.{same_key, is_offline, is_soft}
use Rattle.slot_core.specs.Sets.Cycles.{cycle_of}
use Rattle.slot_core.specs.Sets.Ranges.{is_sound}
use Rattle.slot_core.specs.Offline.OfflineJobs.{offline_jobs}
use Rattle.slot_core.specs.Offline.Windows.{precedes}
use Rattle.slot_core.specs.Runs.Histories.{History, time_of, executed, is_freed}
use Rattle.slot_core.specs.Runs.Scenes.{guaranteed_in, has_ended, with_left, unended, next_arrivals, scene_in}
use Rattle.slot_core.specs.Claims.Safety.{IsSafe}
use Rattle.slot_core.specs.Keeping.Kept.{ArePlanned, SuccessorsWait, AreApart, KeepsBounds}
use Rattle.slot_facts.proofs.Offline.Windows.{precedes-offline}
use Rattle.slot_facts.proofs.Choice.Earliest.{same_from_key}
use Rattle.slot_facts.proofs.Histories.Unended.{Has-unended, unended_own, unended_have_left, unended_due}
use Rattle.slot_facts.proofs.Lists.Apart.{IsApart-filter, count_by-apart}
use Rattle.slot_facts.proofs.Lists.Members.{Has, Has-from_Contains, Contains-from_Has}
use Rattle.slot_facts.proofs.Offline.DistinctKeys.{IsApart-map}
use Rattle.slot_facts.proofs.Offline.Jobs.{cycle-positive}
use Rattle.slot_facts.proofs.Legal.Data.{Slots, Entries, LegalEntries}
use Rattle.slot_facts.proofs.Legal.Rows.{next_arrivals-reach}
use Rattle.slot_facts.proofs.Legal.Jobs.{IsGuaranteed-from_listed, guaranteed-cases, guaranteed-offline, guaranteed-apart, offline-key}
use Rattle.slot_facts.proofs.Legal.NextArrivals.{length-next_arrivals}
use Rattle.slot_facts.proofs.Legal.Owned.{IsOwned, not_run-early, not_run-waiting, not_freed}

-- the cycles reach past the time
abbrev pub Reaches : TaskSet → History → ℕ → Type 0
Reaches set h cycles = time_of h / cycle_of set + 3 ≤ cycles

-- then the time is below their end, by two cycles and more
pub below_end : (t cycle cycles : ℕ) → 1 ≤ cycle → t / cycle + 3 ≤ cycles → t + 2 * cycle < cycles * cycle
below_end t cycle cycles some reaches =
    let below : t < (t / cycle + 1) * cycle = (div-lt_iff_lt-mul some).0 (omega arith) in
    let most : (t / cycle + 3) * cycle ≤ cycles * cycle = mul-le-mul_right cycle reaches in
    omega arith

-- what reaches past a later time reaches past this one
pub reaches-before : (t u cycle cycles : ℕ) → 1 ≤ cycle → t ≤ u → u / cycle + 3 ≤ cycles → t / cycle + 3 ≤ cycles
reaches-before t u cycle cycles some le reaches =
    let started : t / cycle * cycle ≤ u = omega (arith, div-mul-le_self t cycle) in
    omega (arith, le-div (t / cycle) u cycle some started)

-- what a legal history carries, with the offline jobs of so many cycles: no deadline is at risk, and each run
-- and early end is owned
pub record IsCarried (set : TaskSet) (cycles : ℕ) (h : History) : Type 0 where
  pub safe : IsSafe set.sporadics (next_arrivals set.sporadics h) (unended h (guaranteed_in set (cycle_of set) cycles h)) (time_of h) (cycles * cycle_of set)
  pub owned : IsOwned set cycles h

-- a job without a run or an early end remains with all its slots
pub fresh-remains : (h : History) (jobs : List Job) (job : Job) → Has jobs job → 1 ≤ job.declared → job.left ≡ job.declared → executed job.key h ≡ 0 → is_freed job.key h ≡ false → Has (unended h jobs) job
fresh-remains h jobs job at some whole none kept =
    let runs = or_from (nat_le job.declared (executed job.key h)) (is_freed job.key h) (lt-leb job.declared (executed job.key h) (omega arith)) kept in
    let left : job.declared - executed job.key h ≡ job.left = omega arith in
    let same : with_left h job ≡ job = ap (λ n. record job { left = n }) left in
    subst (Has (unended h jobs)) same (Has-unended h jobs job runs at)

whole-job : (job : Job) → job.left ≡ job.declared → record job { left = job.declared } ≡ job
whole-job job e = ap (λ n. record job { left = n }) (sym e)

-- an offline job of a history that has not ended is one of the set
pub unended-planned : {S : Slots} (set : TaskSet) (cycles : ℕ) (h : History) → is_sound set ≡ true → Entries S set (cycle_of set) h → ArePlanned set (cycle_of set) cycles (unended h (guaranteed_in set (cycle_of set) cycles h))
unended-planned set cycles h sound told job at is =
    let planned = offline_jobs set (cycle_of set) cycles in
    let guaranteed = guaranteed_in set (cycle_of set) cycles h in
    let own = unended_own h guaranteed job (Has-from_Contains (unended h guaranteed) job at) in
    let same = own.1.same in
    elim (guaranteed-cases set cycles h own.0 sound told own.1.listed) [
      | inl p ↦
          let whole = (IsGuaranteed-from_listed set cycles h own.0 sound told own.1.listed).whole in
          subst (λ (j : Job). Contains planned (record j { left = j.declared })) (sym same) (subst (Contains planned) (sym (whole-job own.0 whole)) (Contains-from_Has planned own.0 p))
      | inr come ↦ absurd (both_ways (is_offline job.key) (ap (λ (j : Job). is_offline j.key) same ∙ come.not_offline) is)
    ]

-- no key stands twice among the jobs of a history that have not ended
pub unended-apart : {S : Slots} (set : TaskSet) (cycles : ℕ) (h : History) → is_sound set ≡ true → Entries S set (cycle_of set) h → AreApart (unended h (guaranteed_in set (cycle_of set) cycles h))
unended-apart set cycles h sound told key =
    let guaranteed = guaranteed_in set (cycle_of set) cycles h in
    let running = filter (λ (j : Job). not (has_ended h j)) guaranteed in
    let keys = IsApart-filter (λ (j : Job). j.key) (λ (j : Job). not (has_ended h j)) guaranteed (guaranteed-apart set cycles h sound told) in
    count_by-apart (λ (j : Job). j.key) (λ (j : Job). same_key j.key key) key (unended h guaranteed) (λ j same. same_from_key j.key key same) (IsApart-map (with_left h) (λ (j : Job). j.key) running keys)

module _ (set : TaskSet) (cycles : ℕ) (h : History) (sound : is_sound set ≡ true) (legal : LegalEntries set (cycle_of set) h) (reaches : Reaches set h cycles) (carried : IsCarried set cycles h) where
  abbrev planned : List Job
  planned = offline_jobs set (cycle_of set) cycles

  abbrev guaranteed : List Job
  guaranteed = guaranteed_in set (cycle_of set) cycles h

  abbrev jobs : List Job
  jobs = unended h guaranteed

  -- a job that has not ended is due later
  pub due-later : (own : Job) → Has guaranteed own → has_ended h own ≡ false → time_of h < own.dl
  due-later own at runs =
      let early = below_end (time_of h) (cycle_of set) cycles (cycle-positive set sound) reaches in
      let none = carried.safe.due (time_of h) (omega arith) (omega arith) in
      unended_due h guaranteed own (time_of h) (omega arith) at runs

  remaining-left : (job : Job) → Has jobs job → (time_of h < job.dl) × (1 ≤ job.left) × (job.left ≤ job.declared)
  remaining-left job at =
      let own = unended_own h guaranteed job at in
      let due = due-later own.0 own.1.listed own.1.runs in
      let some = All-contains (λ (j : Job). 1 ≤ j.left) jobs job (unended_have_left h guaranteed) (Contains-from_Has jobs job at) in
      let due_is : job.dl ≡ own.0.dl = ap (λ (j : Job). j.dl) own.1.same in
      let left_is : job.left ≡ own.0.declared - executed own.0.key h = ap (λ (j : Job). j.left) own.1.same in
      let declared_is : job.declared ≡ own.0.declared = ap (λ (j : Job). j.declared) own.1.same in
      (omega arith, some, omega arith)

  remaining-come : (job : Job) → Contains jobs job → is_offline job.key ≡ false → (is_soft job.key ≡ false) × (job.est ≤ time_of h) × (job.dl ≤ time_of h + cycle_of set)
  remaining-come job at other =
      let own = unended_own h guaranteed job (Has-from_Contains jobs job at) in
      let same = own.1.same in
      elim (guaranteed-cases set cycles h own.0 sound legal own.1.listed) [
        | inl p ↦ absurd (both_ways (is_offline job.key) other (ap (λ (j : Job). is_offline j.key) same ∙ offline-key set (cycle_of set) cycles own.0 p))
        | inr come ↦
            let est_is : job.est ≡ own.0.est = ap (λ (j : Job). j.est) same in
            let due_is : job.dl ≡ own.0.dl = ap (λ (j : Job). j.dl) same in
            (ap (λ (j : Job). is_soft j.key) same ∙ come.not_soft, omega (arith, come.starts), omega (arith, come.due))
      ]

  not_run-remains : (job : Job) → Has planned job → executed job.key h ≡ 0 → Contains jobs job
  not_run-remains job at none =
      let listed = guaranteed-offline set cycles h job at in
      let own = IsGuaranteed-from_listed set cycles h job sound legal listed in
      Contains-from_Has jobs job (fresh-remains h guaranteed job listed own.some own.whole none (not_freed set cycles sound h job legal carried.owned at none))

  remaining-untouched : (job : Job) → Contains planned job → time_of h < job.est → Contains jobs job
  remaining-untouched job at late =
      let p = Has-from_Contains planned job at in
      not_run-remains job p (not_run-early set cycles sound h job legal carried.owned p (omega arith))

  remaining-waiting : SuccessorsWait set (cycle_of set) cycles jobs
  remaining-waiting before after first second listed =
      let own = unended_own h guaranteed before (Has-from_Contains jobs before first) in
      let same = own.1.same in
      let p = Has-from_Contains planned after second in
      elim (guaranteed-cases set cycles h own.0 sound legal own.1.listed) [
        | inl q ↦
            let own_listed = subst (λ (j : Job). precedes set j.key after.key ≡ true) same listed in
            not_run-remains after p (not_run-waiting set cycles sound h own.0 after legal carried.owned q p own_listed own.1.runs)
        | inr come ↦
            absurd (both_ways (is_offline before.key) (ap (λ (j : Job). is_offline j.key) same ∙ come.not_offline) (precedes-offline set before.key after.key listed).0)
      ]

  -- so the scene keeps its bounds
  pub bounds-carried : KeepsBounds set (cycle_of set) cycles (scene_in set (cycle_of set) cycles h)
  bounds-carried = record {
    fits = λ x low high. carried.safe.due x low high;
    left = λ job at. remaining-left job (Has-from_Contains jobs job at);
    planned = unended-planned set cycles h sound legal;
    come = remaining-come;
    untouched = remaining-untouched;
    waiting = remaining-waiting;
    apart = unended-apart set cycles h sound legal;
    one_each = length-next_arrivals set.sporadics h 0;
    reach = next_arrivals-reach set h sound;
  }
