-- The jobs of a history: no key stands twice, and later entries keep them.
use Rattle.std.proofs.Common.{◌≡◌, ℕ, ◌<◌, ◌≤◌, ◌⊎◌, true, false, List, [], ◌∷◌, ◌++◌, map, refl, sym, ap, ◌∙◌, subst, inl, inr, arith}
use Rattle.std.proofs.lemmas.Bool.{both_ways}
use Rattle.std.proofs.lemmas.List.{map-append}
use Rattle.slot_core.specs.declared.jobs.Key.{Key}
use Rattle.slot_core.specs.declared.jobs.Key.TheVariants.{Offline, Sporadic as SporadicKey, Firm as FirmKey, Soft as SoftKey}
use Rattle.slot_core.specs.declared.jobs.Job.{Job}
use Rattle.slot_core.specs.declared.jobs.SoftJob.{SoftJob}
use Rattle.slot_core.specs.declared.tasks.Sporadic.{Sporadic}
use Rattle.slot_core.specs.declared.tasks.TaskSet.{TaskSet}
use Rattle.slot_core.specs.declared.events.What.{What}
use Rattle.slot_core.specs.declared.events.What.TheVariants.{Soft, Firm, Sporadic as SporadicEntry}
use Rattle.slot_core.specs.declared.events.Soft.TheVariants.{Taken as SoftTaken}
use Rattle.slot_core.specs.declared.events.Firm.TheVariants.{Accepted}
use Rattle.slot_core.specs.declared.events.Spo.TheVariants.{Taken as SporadicTaken}
use Rattle.slot_core.specs.Offline.Keys.{is_offline, is_soft, row_of}
use Rattle.slot_core.specs.Runs.Rising.{AreRising}
use Rattle.slot_core.specs.Sets.Cycles.{cycle_of}
use Rattle.slot_core.specs.Sets.Ranges.{is_sound}
use Rattle.slot_core.specs.Offline.OfflineJobs.{offline_jobs}
use Rattle.slot_core.specs.Runs.Histories.{History, time_of, last_row, firm_jobs, sporadic_jobs, soft_jobs}
use Rattle.slot_core.specs.Runs.Scenes.{guaranteed_in}
use Rattle.slot_facts.proofs.Lists.Apart.{AreRising-push, apart-from_rising}
use Rattle.slot_facts.proofs.Lists.ApartKeys.{same_member-from_apart}
use Rattle.slot_facts.proofs.Lists.Members.{Has, Contains-from_Has, Has-append_left, Has-append_right, Has-append_cases, Has-map, Has-map_cases}
use Rattle.slot_facts.proofs.Offline.DistinctKeys.{IsApart, IsApart-append, IsApart-map, IsApart-weaker, offline_jobs-apart}
use Rattle.slot_facts.proofs.Offline.Jobs.{offline_from_cycles}
use Rattle.slot_facts.proofs.Offline.Windows.{IsOfCycle-from_offline}
use Rattle.slot_facts.proofs.Legal.Data.{Slots, Entries}
use Rattle.slot_facts.proofs.Legal.Rows.{entries-before, rows-rise, accepted-says, sporadic_taken-says, soft_taken-says, HasCome, firm-come, sporadic-come}

-- an offline job has the key of one
pub offline-key : (set : TaskSet) (cycle cycles : ℕ) (job : Job) → Has (offline_jobs set cycle cycles) job → is_offline job.key ≡ true
offline-key set cycle cycles job at =
    let o = offline_from_cycles set cycle cycles job (Contains-from_Has (offline_jobs set cycle cycles) job at) in
    ap is_offline (ap (λ (j : Job). j.key) o.instance_of.derived)

-- a firm job the key of one, and a sporadic job
pub firm-key : (h : History) (job : Job) → Has (firm_jobs h) job → job.key ≡ FirmKey (row_of job.key)
firm-key [] job at = absurd at
firm-key (Firm row slots within Accepted ∷ h) job (inl e) = subst (λ (j : Job). j.key ≡ FirmKey (row_of j.key)) e refl
firm-key (Firm row slots within Accepted ∷ h) job (inr at) = firm-key h job at
firm-key (what ∷ h) job at = firm-key h job at

pub sporadic-key : (ss : List Sporadic) (h : History) (job : Job) → Has (sporadic_jobs ss h) job → (index : ℕ) × (job.key ≡ SporadicKey index (row_of job.key))
sporadic-key ss [] job at = absurd at
sporadic-key ss (SporadicEntry row index (SporadicTaken due) ∷ h) job (inl e) = subst (λ (j : Job). (i : ℕ) × (j.key ≡ SporadicKey i (row_of j.key))) e (index, refl)
sporadic-key ss (SporadicEntry row index (SporadicTaken due) ∷ h) job (inr at) = sporadic-key ss h job at
sporadic-key ss (what ∷ h) job at = sporadic-key ss h job at

-- no key stands twice among the firm jobs, nor among the sporadic ones
firm-apart : {S : Slots} (set : TaskSet) (cycle : ℕ) (h : History) → Entries S set cycle h → IsApart (λ (j : Job). j.key) (firm_jobs h)
firm-apart set cycle [] l = tt
firm-apart set cycle (Firm row slots within Accepted ∷ h) l = (
  λ y at e.
      let same : row ≡ row_of y.key = ap row_of e in
      let come = firm-come set cycle h y (entries-before l) at in
      absurd (omega (arith, come.row_at_most, (accepted-says l).above)),
  firm-apart set cycle h (entries-before l),
)
firm-apart set cycle (what ∷ h) l = firm-apart set cycle h (entries-before l)

sporadic-apart : {S : Slots} (set : TaskSet) (h : History) → is_sound set ≡ true → Entries S set (cycle_of set) h → IsApart (λ (j : Job). j.key) (sporadic_jobs set.sporadics h)
sporadic-apart set [] sound l = tt
sporadic-apart set (SporadicEntry row index (SporadicTaken due) ∷ h) sound l = (
  λ y at e.
      let same : row ≡ row_of y.key = ap row_of e in
      let come = sporadic-come set h y sound (entries-before l) at in
      absurd (omega (arith, come.row_at_most, (sporadic_taken-says l).above)),
  sporadic-apart set h sound (entries-before l),
)
sporadic-apart set (what ∷ h) sound l = sporadic-apart set h sound (entries-before l)

-- where a guaranteed job stands
pub guaranteed-cases : {S : Slots} (set : TaskSet) (cycles : ℕ) (h : History) (job : Job) → is_sound set ≡ true → Entries S set (cycle_of set) h → Has (guaranteed_in set (cycle_of set) cycles h) job → Has (offline_jobs set (cycle_of set) cycles) job ⊎ HasCome (time_of h) (cycle_of set) (last_row h) job
guaranteed-cases set cycles h job sound l at =
    let planned = offline_jobs set (cycle_of set) cycles in
    elim (Has-append_cases (planned ++ firm_jobs h) (sporadic_jobs set.sporadics h) job at) [
      | inl a ↦ elim (Has-append_cases planned (firm_jobs h) job a) [
        | inl b ↦ inl b
        | inr b ↦ inr (firm-come set (cycle_of set) h job l b)
      ]
      | inr a ↦ inr (sporadic-come set h job sound l a)
    ]

-- one with the key of an offline job is one
pub planned-from_offline : {S : Slots} (set : TaskSet) (cycles : ℕ) (h : History) (job : Job) → is_sound set ≡ true → Entries S set (cycle_of set) h → Has (guaranteed_in set (cycle_of set) cycles h) job → is_offline job.key ≡ true → Has (offline_jobs set (cycle_of set) cycles) job
planned-from_offline set cycles h job sound l at planned =
    elim (guaranteed-cases set cycles h job sound l at) [
      | inl a ↦ a
      | inr come ↦ absurd (both_ways (is_offline job.key) come.not_offline planned)
    ]

pub guaranteed-offline : (set : TaskSet) (cycles : ℕ) (h : History) (job : Job) → Has (offline_jobs set (cycle_of set) cycles) job → Has (guaranteed_in set (cycle_of set) cycles h) job
guaranteed-offline set cycles h job at =
    let planned = offline_jobs set (cycle_of set) cycles in
    Has-append_left (planned ++ firm_jobs h) (sporadic_jobs set.sporadics h) job (Has-append_left planned (firm_jobs h) job at)

-- each has a slot to run, all of them left at first, and is none of the soft jobs
pub record IsGuaranteed (job : Job) : Type 0 where
  pub some : 1 ≤ job.declared
  pub whole : job.left ≡ job.declared
  pub not_soft : is_soft job.key ≡ false

-- the key of an offline job is not that of a soft one
pub not_soft-from_offline : (key : Key) → is_offline key ≡ true → is_soft key ≡ false
not_soft-from_offline (Offline g t k) e = refl
not_soft-from_offline (SporadicKey i r) e = refl
not_soft-from_offline (FirmKey r) e = refl
not_soft-from_offline (SoftKey r) e = cc

pub IsGuaranteed-from_listed : {S : Slots} (set : TaskSet) (cycles : ℕ) (h : History) (job : Job) → is_sound set ≡ true → Entries S set (cycle_of set) h → Has (guaranteed_in set (cycle_of set) cycles h) job → IsGuaranteed job
IsGuaranteed-from_listed set cycles h job sound l at =
    elim (guaranteed-cases set cycles h job sound l at) [
      | inl a ↦
          let planned = offline_jobs set (cycle_of set) cycles in
          let of_cycle = IsOfCycle-from_offline set cycles job sound (Contains-from_Has planned job a) in
          record { some = of_cycle.2.some; whole = of_cycle.2.whole; not_soft = not_soft-from_offline job.key (offline-key set (cycle_of set) cycles job a) }
      | inr come ↦ record { some = come.some; whole = come.whole; not_soft = come.not_soft }
    ]

-- no key stands twice among the guaranteed jobs
firm_is_not_sporadic : (set : TaskSet) (h : History) (a b : Job) → Has (firm_jobs h) a → Has (sporadic_jobs set.sporadics h) b → a.key ≡ b.key → ⊥
firm_is_not_sporadic set h a b at_a at_b e =
    let fa = firm-key h a at_a in
    let sb = sporadic-key set.sporadics h b at_b in
    let is = sb.1 in
    cc

pub guaranteed-apart : {S : Slots} (set : TaskSet) (cycles : ℕ) (h : History) → is_sound set ≡ true → Entries S set (cycle_of set) h → IsApart (λ (j : Job). j.key) (guaranteed_in set (cycle_of set) cycles h)
guaranteed-apart set cycles h sound l =
    let key = λ (j : Job). j.key in
    let cycle = cycle_of set in
    let planned = offline_jobs set cycle cycles in
    let differs = λ (a b : Job) (at : Has planned a) (other : is_offline b.key ≡ false) (e : a.key ≡ b.key).
    both_ways (is_offline b.key) other (sym (ap is_offline e) ∙ offline-key set cycle cycles a at) in
    IsApart-append
    key
    (planned ++ firm_jobs h)
    (sporadic_jobs set.sporadics h)
    (IsApart-append
    key
    planned
    (firm_jobs h)
    (offline_jobs-apart set cycle cycles)
    (firm-apart set cycle h l)
    (λ a b at_a at_b. differs a b at_a (firm-come set cycle h b l at_b).not_offline))
    (sporadic-apart set h sound l)
    (λ a b at_a at_b e. elim (Has-append_cases planned (firm_jobs h) a at_a) [
      | inl p ↦ differs a b p (sporadic-come set h b sound l at_b).not_offline e
      | inr f ↦ firm_is_not_sporadic set h a b f at_b e
    ])

-- the soft jobs: their rows rise, and each has a slot to run
pub record SoftHasCome (row : ℕ) (soft : SoftJob) : Type 0 where
  pub some : 1 ≤ soft.declared
  pub whole : soft.left ≡ soft.declared
  pub row_at_most : soft.row ≤ row
  pub row_some : 1 ≤ soft.row

pub soft-come : {S : Slots} (set : TaskSet) (cycle : ℕ) (h : History) (soft : SoftJob) → Entries S set cycle h → Has (soft_jobs h) soft → SoftHasCome (last_row h) soft
soft-come set cycle [] soft l at = absurd at
soft-come set cycle (Soft row slots SoftTaken ∷ h) soft l at =
    let taken = soft_taken-says l in
    let own : SoftJob = record { row = row; left = slots; declared = slots } in
    elim (Has-append_cases (soft_jobs h) (own ∷ []) soft at) [
      | inl a ↦
          let come = soft-come set cycle h soft (entries-before l) a in
          record { some = come.some; whole = come.whole; row_at_most = omega (arith, come.row_at_most, taken.above); row_some = come.row_some }
      | inr b ↦ elim b [
        | inl e ↦ subst (SoftHasCome row) e (record { some = taken.some; whole = refl; row_at_most = omega arith; row_some = omega (arith, taken.above) })
        | inr none ↦ absurd none
      ]
    ]
soft-come set cycle (what ∷ h) soft l at =
    let come = soft-come set cycle h soft (entries-before l) at in
    record { some = come.some; whole = come.whole; row_at_most = omega (arith, come.row_at_most, rows-rise l); row_some = come.row_some }

pub soft-rising : {S : Slots} (set : TaskSet) (cycle : ℕ) (h : History) → Entries S set cycle h → AreRising 0 (map (λ (s : SoftJob). s.row) (soft_jobs h))
soft-rising set cycle [] l = tt
soft-rising set cycle (Soft row slots SoftTaken ∷ h) l =
    let taken = soft_taken-says l in
    let rows = map (λ (s : SoftJob). s.row) (soft_jobs h) in
    let own : SoftJob = record { row = row; left = slots; declared = slots } in
    let below = λ (x : ℕ) (at : Has rows x).
    let m = Has-map_cases (λ (s : SoftJob). s.row) (soft_jobs h) x at in
    let low : x < row = omega (arith, m.2, (soft-come set cycle h m.0 (entries-before l) m.1).row_at_most, taken.above) in
    low in
    subst (AreRising 0) (sym (map-append (λ (s : SoftJob). s.row) (soft_jobs h) (own ∷ [])))
    (AreRising-push 0 rows row (soft-rising set cycle h (entries-before l)) (omega (arith, taken.above)) below)
soft-rising set cycle (what ∷ h) l = soft-rising set cycle h (entries-before l)

-- a job as its key and its declared slots
abbrev of_job : Job → Key × ℕ
of_job job = (job.key, job.declared)

abbrev of_soft : SoftJob → Key × ℕ
of_soft soft = (SoftKey soft.row, soft.declared)

-- all jobs of a history with the offline ones of so many cycles, each so
abbrev pub all_jobs_in : TaskSet → ℕ → ℕ → History → List (Key × ℕ)
all_jobs_in set cycle cycles h =
    map (λ (j : Job). (j.key, j.declared)) (guaranteed_in set cycle cycles h)
    ++ map (λ (s : SoftJob). (SoftKey s.row, s.declared)) (soft_jobs h)

-- no key stands twice among them
pub all_jobs-apart : {S : Slots} (set : TaskSet) (cycles : ℕ) (h : History) → is_sound set ≡ true → Entries S set (cycle_of set) h → IsApart (λ (p : Key × ℕ). p.0) (all_jobs_in set (cycle_of set) cycles h)
all_jobs-apart set cycles h sound l =
    let first = λ (p : Key × ℕ). p.0 in
    let jobs = guaranteed_in set (cycle_of set) cycles h in
    let rows = apart-from_rising (λ (s : SoftJob). s.row) 0 (soft_jobs h) (soft-rising set (cycle_of set) h l) in
    let softs = IsApart-weaker (λ (s : SoftJob). SoftKey s.row) (λ (s : SoftJob). s.row) (soft_jobs h) (λ x y e. ap row_of e) rows in
    IsApart-append
    first
    (map of_job jobs)
    (map of_soft (soft_jobs h))
    (IsApart-map of_job first jobs (guaranteed-apart set cycles h sound l))
    (IsApart-map of_soft first (soft_jobs h) softs)
    (λ x y at_x at_y e.
    let a = Has-map_cases of_job jobs x at_x in
    let b = Has-map_cases of_soft (soft_jobs h) y at_y in
    let hard = (IsGuaranteed-from_listed set cycles h a.0 sound l a.1).not_soft in
    let same : a.0.key ≡ SoftKey b.0.row = ap first a.2 ∙ e ∙ sym (ap first b.2) in
    both_ways (is_soft a.0.key) hard (ap is_soft same))

-- later entries keep the jobs
firm-later : (what : What) (h : History) (job : Job) → Has (firm_jobs h) job → Has (firm_jobs (what ∷ h)) job
firm-later (Firm row slots within Accepted) h job at = inr at
firm-later what h job at = at

sporadic-later : (ss : List Sporadic) (what : What) (h : History) (job : Job) → Has (sporadic_jobs ss h) job → Has (sporadic_jobs ss (what ∷ h)) job
sporadic-later ss (SporadicEntry row index (SporadicTaken due)) h job at = inr at
sporadic-later ss what h job at = at

pub soft-later : (what : What) (h : History) (soft : SoftJob) → Has (soft_jobs h) soft → Has (soft_jobs (what ∷ h)) soft
soft-later (Soft row slots SoftTaken) h soft at = Has-append_left (soft_jobs h) (record { row = row; left = slots; declared = slots } ∷ []) soft at
soft-later what h soft at = at

pub guaranteed-later : (set : TaskSet) (cycles : ℕ) (what : What) (h : History) (job : Job) → Has (guaranteed_in set (cycle_of set) cycles h) job → Has (guaranteed_in set (cycle_of set) cycles (what ∷ h)) job
guaranteed-later set cycles what h job at =
    let planned = offline_jobs set (cycle_of set) cycles in
    let after = what ∷ h in
    elim (Has-append_cases (planned ++ firm_jobs h) (sporadic_jobs set.sporadics h) job at) [
      | inl a ↦ elim (Has-append_cases planned (firm_jobs h) job a) [
        | inl b ↦ guaranteed-offline set cycles after job b
        | inr b ↦ Has-append_left (planned ++ firm_jobs after) (sporadic_jobs set.sporadics after) job (Has-append_right planned (firm_jobs after) job (firm-later what h job b))
      ]
      | inr a ↦ Has-append_right (planned ++ firm_jobs after) (sporadic_jobs set.sporadics after) job (sporadic-later set.sporadics what h job a)
    ]

pub guaranteed-earlier : (set : TaskSet) (cycles : ℕ) (later h : History) (job : Job) → Has (guaranteed_in set (cycle_of set) cycles h) job → Has (guaranteed_in set (cycle_of set) cycles (later ++ h)) job
guaranteed-earlier set cycles [] h job at = at
guaranteed-earlier set cycles (what ∷ later) h job at =
    guaranteed-later set cycles what (later ++ h) job (guaranteed-earlier set cycles later h job at)

pub all_jobs-of_job : (set : TaskSet) (cycles : ℕ) (h : History) (job : Job) → Has (guaranteed_in set (cycle_of set) cycles h) job → Has (all_jobs_in set (cycle_of set) cycles h) (job.key, job.declared)
all_jobs-of_job set cycles h job at =
    Has-append_left (map of_job (guaranteed_in set (cycle_of set) cycles h)) (map of_soft (soft_jobs h)) (job.key, job.declared) (Has-map of_job (guaranteed_in set (cycle_of set) cycles h) job at)

pub all_jobs-of_soft : (set : TaskSet) (cycles : ℕ) (h : History) (soft : SoftJob) → Has (soft_jobs h) soft → Has (all_jobs_in set (cycle_of set) cycles h) (SoftKey soft.row, soft.declared)
all_jobs-of_soft set cycles h soft at =
    Has-append_right (map of_job (guaranteed_in set (cycle_of set) cycles h)) (map of_soft (soft_jobs h)) (SoftKey soft.row, soft.declared) (Has-map of_soft (soft_jobs h) soft at)

all_jobs-later : (set : TaskSet) (cycles : ℕ) (what : What) (h : History) (p : Key × ℕ) → Has (all_jobs_in set (cycle_of set) cycles h) p → Has (all_jobs_in set (cycle_of set) cycles (what ∷ h)) p
all_jobs-later set cycles what h p at =
    let jobs = guaranteed_in set (cycle_of set) cycles h in
    elim (Has-append_cases (map of_job jobs) (map of_soft (soft_jobs h)) p at) [
      | inl a ↦
          let m = Has-map_cases of_job jobs p a in
          subst (Has (all_jobs_in set (cycle_of set) cycles (what ∷ h))) m.2 (all_jobs-of_job set cycles (what ∷ h) m.0 (guaranteed-later set cycles what h m.0 m.1))
      | inr b ↦
          let m = Has-map_cases of_soft (soft_jobs h) p b in
          subst (Has (all_jobs_in set (cycle_of set) cycles (what ∷ h))) m.2 (all_jobs-of_soft set cycles (what ∷ h) m.0 (soft-later what h m.0 m.1))
    ]

pub all_jobs-earlier : (set : TaskSet) (cycles : ℕ) (later h : History) (p : Key × ℕ) → Has (all_jobs_in set (cycle_of set) cycles h) p → Has (all_jobs_in set (cycle_of set) cycles (later ++ h)) p
all_jobs-earlier set cycles [] h p at = at
all_jobs-earlier set cycles (what ∷ later) h p at =
    all_jobs-later set cycles what (later ++ h) p (all_jobs-earlier set cycles later h p at)

-- a key tells the declared slots
pub declared-from_key : {S : Slots} (set : TaskSet) (cycles : ℕ) (h : History) (key : Key) (m n : ℕ) → is_sound set ≡ true → Entries S set (cycle_of set) h → Has (all_jobs_in set (cycle_of set) cycles h) (key, m) → Has (all_jobs_in set (cycle_of set) cycles h) (key, n) → m ≡ n
declared-from_key set cycles h key m n sound l at_m at_n =
    ap (λ (p : Key × ℕ). p.1) (same_member-from_apart (λ (p : Key × ℕ). p.0) (all_jobs_in set (cycle_of set) cycles h) (key, m) (key, n) (all_jobs-apart set cycles h sound l) at_m at_n refl)

-- and the guaranteed job
pub job-from_key : {S : Slots} (set : TaskSet) (cycles : ℕ) (h : History) (a b : Job) → is_sound set ≡ true → Entries S set (cycle_of set) h → Has (guaranteed_in set (cycle_of set) cycles h) a → Has (guaranteed_in set (cycle_of set) cycles h) b → a.key ≡ b.key → a ≡ b
job-from_key set cycles h a b sound l at_a at_b e =
    same_member-from_apart (λ (j : Job). j.key) (guaranteed_in set (cycle_of set) cycles h) a b (guaranteed-apart set cycles h sound l) at_a at_b e
