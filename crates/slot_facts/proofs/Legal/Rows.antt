-- What the entries of a history give: its rows rise, its jobs have come, and no key stands twice.
use Rattle.std.proofs.Common.{◌≡◌, ℕ, zero, suc, ◌+◌, ◌*◌, ◌/◌, ◌<◌, ◌≤◌, true, false, ◌==◌, List, [], ◌∷◌, ◌++◌, length, Some, refl, sym, ap, subst, inl, inr, arith}
use Rattle.std.specs.Prelude.{All, slice_get}
use Rattle.std.specs.Option.{option_map_or}
use Rattle.std.specs.List.{enumerate_from}
use Rattle.std.proofs.lemmas.Bool.{cond_both}
use Rattle.std.proofs.lemmas.List.Elements.{All-from_recursion}
use Rattle.slot_core.specs.declared.jobs.Key.{Key}
use Rattle.slot_core.specs.declared.jobs.Key.TheVariants.{Sporadic as SporadicKey}
use Rattle.slot_core.specs.declared.jobs.Job.{Job}
use Rattle.slot_core.specs.declared.tasks.Sporadic.{Sporadic}
use Rattle.slot_core.specs.declared.tasks.TaskSet.{TaskSet}
use Rattle.slot_core.specs.declared.events.Ran.TheVariants.{Idle as RanIdle, Key as RanKey}
use Rattle.slot_core.specs.declared.events.What.{What}
use Rattle.slot_core.specs.declared.events.What.TheVariants.{Soft, Firm, Sporadic as SporadicEntry, Run, Idle}
use Rattle.slot_core.specs.declared.events.Soft.TheVariants.{Taken as SoftTaken}
use Rattle.slot_core.specs.declared.events.Firm.TheVariants.{Accepted}
use Rattle.slot_core.specs.declared.events.Spo.TheVariants.{Taken as SporadicTaken}
use Rattle.slot_core.specs.Offline.Keys.{is_offline, is_soft, row_of}
use Rattle.slot_core.specs.Sets.Cycles.{cycle_of}
use Rattle.slot_core.specs.Sets.Ranges.{is_sound}
use Rattle.slot_core.specs.Runs.Histories.{History, time_of, last_row, firm_jobs, sporadic_job, sporadic_jobs, next_arrival}
use Rattle.slot_core.specs.Runs.Scenes.{next_arrivals}
use Rattle.slot_facts.proofs.Bounds.CycleDemand.{FitsCycle, FitsCycle-from_Has}
use Rattle.slot_facts.proofs.Sets.Tasks.{slice_get-within}
use Rattle.slot_facts.proofs.Lists.Members.{Has, Has-map_cases, Has-from_slice_get, Has-enumerate_from_at, AllByRecursion-from_Has}
use Rattle.slot_facts.proofs.Offline.Jobs.{cycle-positive}
use Rattle.slot_facts.proofs.Legal.Data.{Accepts, TakesSoft, TakesSporadic, Slots, Entries, at_start, at_end, slot_runs, idles, soft_taken, soft_full, accepted, late, far, no_room, sporadic_taken, soon, job_freed, soft_freed, not_running, withdrawn, no_job}

-- the entries before the last
pub entries-before : {S : Slots} {set : TaskSet} {cycle : ℕ} {what : What} {h : History} → Entries S set cycle (what ∷ h) → Entries S set cycle h
entries-before (at_start l) = l
entries-before (at_end l) = l
entries-before (slot_runs r s l) = l
entries-before (idles r l) = l
entries-before (soft_taken r l) = l
entries-before (soft_full r l) = l
entries-before (accepted r l) = l
entries-before (late r l) = l
entries-before (far r l) = l
entries-before (no_room r l) = l
entries-before (sporadic_taken r l) = l
entries-before (soon r l) = l
entries-before (job_freed r j s l) = l
entries-before (soft_freed r s l) = l
entries-before (not_running r l) = l
entries-before (withdrawn r j l) = l
entries-before (no_job r l) = l

-- those of each earlier history
pub entries-earlier : {S : Slots} {set : TaskSet} {cycle : ℕ} (later h : History) → Entries S set cycle (later ++ h) → Entries S set cycle h
entries-earlier [] h l = l
entries-earlier (what ∷ later) h l = entries-earlier later h (entries-before l)

-- the time does not fall
pub time-rises : (what : What) (h : History) → time_of h ≤ time_of (what ∷ h)
time-rises (Run key) h = omega arith
time-rises Idle h = omega arith
time-rises _ h = omega arith

-- the rows rise
pub rows-rise : {S : Slots} {set : TaskSet} {cycle : ℕ} {what : What} {h : History} → Entries S set cycle (what ∷ h) → last_row h ≤ last_row (what ∷ h)
rows-rise (at_start l) = omega arith
rows-rise (at_end l) = omega arith
rows-rise (slot_runs r s l) = omega arith
rows-rise (idles r l) = omega arith
rows-rise (soft_taken r l) = omega (arith, r.above)
rows-rise (soft_full r l) = omega arith
rows-rise (accepted r l) = omega (arith, r.above)
rows-rise (late r l) = omega arith
rows-rise (far r l) = omega arith
rows-rise (no_room r l) = omega arith
rows-rise (sporadic_taken r l) = omega (arith, r.above)
rows-rise (soon r l) = omega arith
rows-rise (job_freed r j s l) = omega arith
rows-rise (soft_freed r s l) = omega arith
rows-rise (not_running r l) = omega arith
rows-rise (withdrawn r j l) = omega arith
rows-rise (no_job r l) = omega arith

-- what the entries that bring jobs say
pub accepted-says : {S : Slots} {set : TaskSet} {cycle row slots within : ℕ} {h : History} → Entries S set cycle (Firm row slots within Accepted ∷ h) → Accepts set cycle h row slots within
accepted-says (accepted r l) = r

pub sporadic_taken-says : {S : Slots} {set : TaskSet} {cycle row index due : ℕ} {h : History} → Entries S set cycle (SporadicEntry row index (SporadicTaken due) ∷ h) → TakesSporadic set h row index due
sporadic_taken-says (sporadic_taken r l) = r

pub soft_taken-says : {S : Slots} {set : TaskSet} {cycle row slots : ℕ} {h : History} → Entries S set cycle (Soft row slots SoftTaken ∷ h) → TakesSoft set h row slots
soft_taken-says (soft_taken r l) = r

-- what a slot says
pub run-says : {S : Slots} {set : TaskSet} {cycle : ℕ} {key : Key} {h : History} → Entries S set cycle (Run key ∷ h) → S h (RanKey key)
run-says (slot_runs r s l) = s

pub idle-says : {S : Slots} {set : TaskSet} {cycle : ℕ} {h : History} → Entries S set cycle (Idle ∷ h) → S h RanIdle
idle-says (idles s l) = s

-- a job that came at run time, by this time and row
pub record HasCome (t cycle row : ℕ) (job : Job) : Type 0 where
  pub not_offline : is_offline job.key ≡ false
  pub not_soft : is_soft job.key ≡ false
  pub starts : job.est ≤ t
  pub due : job.dl ≤ t + cycle
  pub some : 1 ≤ job.declared
  pub whole : job.left ≡ job.declared
  pub row_some : 1 ≤ row_of job.key
  pub row_at_most : row_of job.key ≤ row

HasCome-later : (t u cycle row last : ℕ) (job : Job) → t ≤ u → row ≤ last → HasCome t cycle row job → HasCome u cycle last job
HasCome-later t u cycle row last job le rises come =
    record {
      not_offline = come.not_offline;
      not_soft = come.not_soft;
      starts = omega (arith, come.starts);
      due = omega (arith, come.due);
      some = come.some;
      whole = come.whole;
      row_some = come.row_some;
      row_at_most = omega (arith, come.row_at_most);
    }

-- the firm jobs have come
pub firm-come : {S : Slots} (set : TaskSet) (cycle : ℕ) (h : History) (job : Job) → Entries S set cycle h → Has (firm_jobs h) job → HasCome (time_of h) cycle (last_row h) job
firm-come set cycle [] job l at = absurd at
firm-come set cycle (Firm row slots within Accepted ∷ h) job l (inl e) =
    let a = accepted-says l in
    subst (HasCome (time_of h) cycle row) e (record {
      not_offline = refl;
      not_soft = refl;
      starts = omega arith;
      due = omega (arith, a.near);
      some = a.some;
      whole = refl;
      row_some = omega (arith, a.above);
      row_at_most = omega arith;
    })
firm-come set cycle (Firm row slots within Accepted ∷ h) job l (inr at) =
    HasCome-later (time_of h) (time_of h) cycle (last_row h) row job (omega arith) (rows-rise l) (firm-come set cycle h job (entries-before l) at)
firm-come set cycle (what ∷ h) job l at =
    HasCome-later (time_of h) (time_of (what ∷ h)) cycle (last_row h) (last_row (what ∷ h)) job (time-rises what h) (rows-rise l) (firm-come set cycle h job (entries-before l) at)

-- a separation is at most the cycle
multiple-at_least : (q d n : ℕ) → q * d ≡ n → 1 ≤ n → d ≤ n
multiple-at_least zero d n e some = absurd (omega arith)
multiple-at_least (suc q) d n e some = omega arith

separation-in_cycle : (set : TaskSet) (s : Sporadic) → is_sound set ≡ true → FitsCycle (cycle_of set) s → s.separation ≤ cycle_of set
separation-in_cycle set s sound fits =
    multiple-at_least (cycle_of set / s.separation) s.separation (cycle_of set) fits.whole (cycle-positive set sound)

-- the job of a sporadic arrival, of the task at its index
pub sporadic_job-at : (ss : List Sporadic) (index row t : ℕ) (s : Sporadic) → slice_get ss index ≡ Some s → sporadic_job ss index row t ≡ record { key = SporadicKey index row; est = t; dl = t + s.deadline; left = s.wcet; declared = s.wcet }
sporadic_job-at ss index row t s at =
    ap (λ o. record { key = SporadicKey index row; est = t; dl = t + option_map_or (λ (s : Sporadic). s.deadline) o 0; left = option_map_or (λ (s : Sporadic). s.wcet) o 0; declared = option_map_or (λ (s : Sporadic). s.wcet) o 0 }) at

-- the sporadic jobs have come
sporadic_job-come : (set : TaskSet) (t row index : ℕ) → is_sound set ≡ true → index < length set.sporadics → 1 ≤ row → HasCome t (cycle_of set) row (sporadic_job set.sporadics index row t)
sporadic_job-come set t row index sound named some =
    let (s, at) = slice_get-within set.sporadics index named in
    let fits = FitsCycle-from_Has set s sound (Has-from_slice_get set.sporadics index s at) in
    subst (HasCome t (cycle_of set) row) (sym (sporadic_job-at set.sporadics index row t s at)) (record {
      not_offline = refl;
      not_soft = refl;
      starts = omega arith;
      due = omega (arith, fits.within, separation-in_cycle set s sound fits);
      some = fits.some;
      whole = refl;
      row_some = some;
      row_at_most = omega arith;
    })

pub sporadic-come : {S : Slots} (set : TaskSet) (h : History) (job : Job) → is_sound set ≡ true → Entries S set (cycle_of set) h → Has (sporadic_jobs set.sporadics h) job → HasCome (time_of h) (cycle_of set) (last_row h) job
sporadic-come set [] job sound l at = absurd at
sporadic-come set (SporadicEntry row index (SporadicTaken due) ∷ h) job sound l (inl e) =
    let a = sporadic_taken-says l in
    subst (HasCome (time_of h) (cycle_of set) row) e (sporadic_job-come set (time_of h) row index sound a.named (omega (arith, a.above)))
sporadic-come set (SporadicEntry row index (SporadicTaken due) ∷ h) job sound l (inr at) =
    HasCome-later (time_of h) (time_of h) (cycle_of set) (last_row h) row job (omega arith) (rows-rise l) (sporadic-come set h job sound (entries-before l) at)
sporadic-come set (what ∷ h) job sound l at =
    HasCome-later (time_of h) (time_of (what ∷ h)) (cycle_of set) (last_row h) (last_row (what ∷ h)) job (time-rises what h) (rows-rise l) (sporadic-come set h job sound (entries-before l) at)

-- the next arrival of a task is at most a separation from now
pub next_arrival-reach : (index separation : ℕ) (h : History) → next_arrival index separation h ≤ time_of h + separation
next_arrival-reach index separation [] = omega arith
next_arrival-reach index separation (SporadicEntry row i (SporadicTaken due) ∷ h) =
    cond_both (index == i) (time_of h + separation) (next_arrival index separation h) (λ n. n ≤ time_of h + separation) (λ _. omega arith) (λ _. next_arrival-reach index separation h)
next_arrival-reach index separation (what ∷ h) =
    omega (arith, next_arrival-reach index separation h, time-rises what h)

-- so those of a sound set are at most a cycle from now
pub next_arrivals-reach : (set : TaskSet) (h : History) → is_sound set ≡ true → All (λ next. next ≤ time_of h + cycle_of set) (next_arrivals set.sporadics h)
next_arrivals-reach set h sound =
    All-from_recursion
    (λ next. next ≤ time_of h + cycle_of set)
    (next_arrivals set.sporadics h)
    (AllByRecursion-from_Has (λ next. next ≤ time_of h + cycle_of set) (next_arrivals set.sporadics h) (λ next at.
    let m = Has-map_cases (λ (s : ℕ × Sporadic). next_arrival s.0 s.1.separation h) (enumerate_from 0 set.sporadics) next at in
    let place = Has-enumerate_from_at 0 set.sporadics m.0.0 m.0.1 m.1 in
    let fits = FitsCycle-from_Has set m.0.1 sound (Has-from_slice_get set.sporadics place.0 m.0.1 place.2) in
    omega (arith, m.2, next_arrival-reach m.0.0 m.0.1.separation h, separation-in_cycle set m.0.1 sound fits)))
