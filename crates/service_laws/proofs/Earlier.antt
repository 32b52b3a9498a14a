-- What stands earlier in a history: its entries, the runs of its jobs, and the jobs that it had.
use Rattle.std.proofs.Common.{◌≡◌, ℕ, suc, ◌<◌, ◌≤◌, true, false, List, [], ◌∷◌, ◌++◌, append_assoc, sym, ap, ◌∙◌, subst, inl, inr, arith}
use Rattle.std.proofs.lemmas.Bool.{both_ways, cases_Bool, cond-false, false_from_ne_true}
use Rattle.slot_core.specs.declared.jobs.Key.{Key}
use Rattle.slot_core.specs.declared.jobs.Job.{Job}
use Rattle.slot_core.specs.declared.jobs.SoftJob.{SoftJob}
use Rattle.slot_core.specs.declared.tasks.Sporadic.{Sporadic}
use Rattle.slot_core.specs.declared.tasks.TaskSet.{TaskSet}
use Rattle.slot_core.specs.declared.events.What.{What}
use Rattle.slot_core.specs.declared.events.What.TheVariants.{Soft, Firm, Sporadic as SporadicEntry, Run}
use Rattle.slot_core.specs.declared.events.Soft.TheVariants.{Taken as SoftTaken}
use Rattle.slot_core.specs.declared.events.Firm.TheVariants.{Accepted}
use Rattle.slot_core.specs.declared.events.Spo.TheVariants.{Taken as SporadicTaken}
use Rattle.slot_core.specs.Offline.Keys.{same_key}
use Rattle.slot_core.specs.Offline.OfflineJobs.{offline_jobs}
use Rattle.slot_core.specs.Sets.Cycles.{cycle_of}
use Rattle.slot_core.specs.Runs.Histories.{History, Follows, time_of, last_row, executed, is_over, firm_jobs, sporadic_jobs, soft_jobs}
use Rattle.slot_core.specs.Runs.Scenes.{guaranteed_in}
use Rattle.slot_facts.proofs.Choice.Earliest.{same_from_key}
use Rattle.slot_facts.proofs.Lists.Members.{Has, Has-append_left, Has-append_right, Has-append_cases}
use Rattle.slot_facts.proofs.Legal.Data.{Slots, Entries}
use Rattle.slot_facts.proofs.Legal.Jobs.{guaranteed-offline}
use Rattle.slot_facts.proofs.Legal.Known.{time-earlier}
use Rattle.slot_facts.proofs.Legal.Owned.{not_over-earlier, over-later}
use Rattle.slot_facts.proofs.Legal.Rows.{entries-before, rows-rise, soft_taken-says}

-- an entry of an earlier history stands in the longer one
pub follows-suffix : (h later earlier : History) (what : What) (before : History) → h ≡ later ++ earlier → Follows earlier what before → Follows h what before
follows-suffix h later earlier what before same (middle, at) =
    (later ++ middle, same ∙ ap (λ k. later ++ k) at ∙ sym (append_assoc later middle (what ∷ before)))

-- so does one that comes before another
pub follows-before : (h : History) (what : What) (earlier : History) (other : What) (before : History) → Follows h what earlier → Follows earlier other before → Follows h other before
follows-before h what earlier other before (later, same) (middle, at) =
    follows-suffix h later (what ∷ earlier) other before same (what ∷ middle, ap (λ k. what ∷ k) at)

pub follows-longer : (next : What) (h : History) (what : What) (earlier : History) → Follows h what earlier → Follows (next ∷ h) what earlier
follows-longer next h what earlier (later, same) = (next ∷ later, ap (λ k. next ∷ k) same)

-- a run takes a slot
pub time-follows : (h : History) (key : Key) (earlier : History) → Follows h (Run key) earlier → time_of earlier < time_of h
time-follows h key earlier (later, same) = omega (arith, ap time_of same, time-earlier later (Run key ∷ earlier))

-- what has not ended had not before an entry
pub unended-before : (h : History) (what : What) (earlier : History) (key : Key) (declared : ℕ) → Follows h what earlier → is_over h key declared ≡ false → is_over earlier key declared ≡ false
unended-before h what earlier key declared (later, same) runs =
    let longer = what ∷ earlier in
    not_over-earlier what earlier key declared (false_from_ne_true (is_over longer key declared) (λ over.
    both_ways (is_over h key declared) runs (subst (λ k. is_over k key declared ≡ true) (sym same) (over-later later longer key declared over))))

-- a job that has started has run
pub run-before : (key : Key) (h : History) → 1 ≤ executed key h → (earlier : History) × Follows h (Run key) earlier
run-before key [] started = absurd (omega (arith, started))
run-before key (Run k ∷ h) started =
    elim (cases_Bool (same_key key k)) [
      | inl same ↦ (h, ([], ap (λ x. Run x ∷ h) (sym (same_from_key key k same))))
      | inr other ↦
          let ran = cond-false (same_key key k) (suc (executed key h)) (executed key h) other in
          let r = run-before key h (omega (arith, ran, started)) in
          (r.0, follows-longer (Run k) h (Run key) r.0 r.1)
    ]
run-before key (what ∷ h) started =
    let r = run-before key h started in
    (r.0, follows-longer what h (Run key) r.0 r.1)

-- a firm job that starts before the time of a history came before it
firm-by : (later h : History) (job : Job) → Has (firm_jobs (later ++ h)) job → job.est < time_of h → Has (firm_jobs h) job
firm-by [] h job at early = at
firm-by (Firm row slots within Accepted ∷ later) h job (inl e) early =
    let starts : time_of (later ++ h) ≡ job.est = ap (λ (j : Job). j.est) e in
    absurd (omega (arith, starts, early, time-earlier later h))
firm-by (Firm row slots within Accepted ∷ later) h job (inr at) early = firm-by later h job at early
firm-by (what ∷ later) h job at early = firm-by later h job at early

-- so did a sporadic job
sporadic-by : (ss : List Sporadic) (later h : History) (job : Job) → Has (sporadic_jobs ss (later ++ h)) job → job.est < time_of h → Has (sporadic_jobs ss h) job
sporadic-by ss [] h job at early = at
sporadic-by ss (SporadicEntry row index (SporadicTaken due) ∷ later) h job (inl e) early =
    let starts : time_of (later ++ h) ≡ job.est = ap (λ (j : Job). j.est) e in
    absurd (omega (arith, starts, early, time-earlier later h))
sporadic-by ss (SporadicEntry row index (SporadicTaken due) ∷ later) h job (inr at) early = sporadic-by ss later h job at early
sporadic-by ss (what ∷ later) h job at early = sporadic-by ss later h job at early

-- so each guaranteed job that starts by then was one
pub guaranteed-by : (set : TaskSet) (cycles : ℕ) (later h : History) (job : Job) → Has (guaranteed_in set (cycle_of set) cycles (later ++ h)) job → job.est < time_of h → Has (guaranteed_in set (cycle_of set) cycles h) job
guaranteed-by set cycles later h job at early =
    let planned = offline_jobs set (cycle_of set) cycles in
    let all = later ++ h in
    elim (Has-append_cases (planned ++ firm_jobs all) (sporadic_jobs set.sporadics all) job at) [
      | inl a ↦ elim (Has-append_cases planned (firm_jobs all) job a) [
        | inl b ↦ guaranteed-offline set cycles h job b
        | inr b ↦ Has-append_left (planned ++ firm_jobs h) (sporadic_jobs set.sporadics h) job (Has-append_right planned (firm_jobs h) job (firm-by later h job b early))
      ]
      | inr a ↦ Has-append_right (planned ++ firm_jobs h) (sporadic_jobs set.sporadics h) job (sporadic-by set.sporadics later h job a early)
    ]

-- the rows rise over many entries
rows-earlier : {S : Slots} {set : TaskSet} {cycle : ℕ} (later h : History) → Entries S set cycle (later ++ h) → last_row h ≤ last_row (later ++ h)
rows-earlier [] h l = omega arith
rows-earlier (what ∷ later) h l = omega (arith, rows-earlier later h (entries-before l), rows-rise l)

-- so a soft job of a row up to the last came before
pub soft-by : {S : Slots} (set : TaskSet) (cycle : ℕ) (later h : History) (soft : SoftJob) → Entries S set cycle (later ++ h) → Has (soft_jobs (later ++ h)) soft → soft.row ≤ last_row h → Has (soft_jobs h) soft
soft-by set cycle [] h soft l at low = at
soft-by set cycle (Soft row slots SoftTaken ∷ later) h soft l at low =
    let own : SoftJob = record { row = row; left = slots; declared = slots } in
    elim (Has-append_cases (soft_jobs (later ++ h)) (own ∷ []) soft at) [
      | inl old ↦ soft-by set cycle later h soft (entries-before l) old low
      | inr new ↦ elim new [
        | inl e ↦
            let same : row ≡ soft.row = ap (λ (s : SoftJob). s.row) e in
            absurd (omega (arith, same, low, (soft_taken-says l).above, rows-earlier later h (entries-before l)))
        | inr none ↦ absurd none
      ]
    ]
soft-by set cycle (what ∷ later) h soft l at low = soft-by set cycle later h soft (entries-before l) at low
