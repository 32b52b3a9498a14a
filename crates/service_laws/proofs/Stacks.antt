-- Guaranteed jobs of a legal history nest, and so do soft jobs.
use Rattle.std.proofs.Common.{◌≡◌, ℕ, ◌+◌, ◌/◌, ◌<◌, ◌≤◌, true, false, List, ◌∷◌, ◌++◌, length, None, refl, sym, ap, ◌∙◌, subst, ◌⊎◌, inl, inr, arith}
use Rattle.std.specs.Prelude.{Contains, nat_le}
use Rattle.std.proofs.lemmas.Bool.{both_ways, cases_lt, le-leb, lt-ltb, ltb-true, true_from_ne_false}
use Rattle.std.proofs.lemmas.List.{take_all}
use Rattle.slot_core.specs.declared.jobs.Key.{Key}
use Rattle.slot_core.specs.declared.jobs.Key.TheVariants.{Soft as SoftKey}
use Rattle.slot_core.specs.declared.jobs.Job.{Job}
use Rattle.slot_core.specs.declared.jobs.SoftJob.{SoftJob}
use Rattle.slot_core.specs.declared.tasks.TaskSet.{TaskSet}
use Rattle.slot_core.specs.declared.events.What.{What}
use Rattle.slot_core.specs.declared.events.What.TheVariants.{Run}
use Rattle.slot_core.specs.Offline.Keys.{is_soft, row_of}
use Rattle.slot_core.specs.Sets.Cycles.{cycle_of}
use Rattle.slot_core.specs.Sets.Ranges.{is_sound}
use Rattle.slot_core.specs.Feasibility.Feasible.{IsFeasible}
use Rattle.slot_core.specs.Runs.Histories.{History, Follows, time_of, last_row, executed, soft_jobs}
use Rattle.slot_core.specs.Runs.Scenes.{guaranteed_in, has_ended, has_started, soft_has_ended, soft_with_left, with_left, unended, waiting_soft}
use Rattle.slot_core.specs.Runs.Choice.{earliest, ready}
use Rattle.slot_core.specs.Runs.Traces.{trace, history_of, IsLegal}
use Rattle.slot_core.specs.Claims.Service.{all_jobs, IsServed}
use Rattle.slot_facts.proofs.Choice.Earliest.{IsNotAfter, IsEarliest-from_earliest, due-from_not_after}
use Rattle.slot_facts.proofs.Choice.SameEarliest.{one_key}
use Rattle.slot_facts.proofs.Histories.Unended.{Has-unended, unended_own}
use Rattle.slot_facts.proofs.Lists.Members.{Has, Has-from_Contains, Contains-from_Has, Has-filter, Has-filter_passes}
use Rattle.slot_facts.proofs.Offline.Jobs.{cycle-positive}
use Rattle.slot_facts.proofs.Legal.Bounds.{Reaches, below_end}
use Rattle.slot_facts.proofs.Legal.Carried.{reaches-tail, carried-legal}
use Rattle.slot_facts.proofs.Legal.Cycles.{ready-guaranteed}
use Rattle.slot_facts.proofs.Legal.Data.{RunsSoft, RunsJob, LegalEntries, first_soft-listed, legal-as_data}
use Rattle.slot_facts.proofs.Legal.Jobs.{IsGuaranteed-from_listed, guaranteed-earlier, all_jobs-of_job, job-from_key, soft-come}
use Rattle.slot_facts.proofs.Legal.Owned.{run-owned}
use Rattle.slot_facts.proofs.Legal.Rows.{entries-before, entries-earlier, run-says}
use Rattle.slot_facts.proofs.Legal.Served.{reaches-earlier, every_legal_history_is_served}
use Rattle.slot_facts.proofs.Legal.SoftOrder.{first_soft-below, waits, job_runs-not_soft}
use Rattle.slot_facts.proofs.Legal.Steps.{waiting_own}
use Rattle.slot_facts.proofs.Legal.Traces.{every_trace_is_legal}
use Rattle.service_laws.specs.Nesting.{pushed, HasFrame, AreTwo, IsWithin, IsNested, EveryLegalHistoryIsNested, EveryTraceIsNested}
use Rattle.service_laws.proofs.Earlier.{follows-suffix, follows-before, time-follows, unended-before, run-before, guaranteed-by, soft-by}
use Rattle.service_laws.proofs.Pushed.{RanOver, above-before, began-over, either-over}

-- the job that runs goes after none that is ready, with the offline jobs of any number of cycles past the time
module _ (set : TaskSet) (cycles : ℕ) (h : History) (sound : is_sound set ≡ true) (reaches : Reaches set h cycles) where
  abbrev jobs : List Job
  jobs = guaranteed_in set (cycle_of set) cycles h

  ready-first : (key : Key) (own other : Job) → LegalEntries set (cycle_of set) h → RunsJob set (cycle_of set) h key → own.key ≡ key → Has jobs own → Has jobs other → other.est ≤ time_of h → has_ended h other ≡ false → IsNotAfter own other
  ready-first key own other before r keyed at at_other starts runs =
      let t = time_of h in
      let few = t / cycle_of set + 3 in
      let early = below_end t (cycle_of set) few (cycle-positive set sound) (omega arith) in
      let same = ready-guaranteed set h few cycles sound (omega (arith, early)) reaches in
      let first = IsEarliest-from_earliest (ready t (unended h jobs)) r.job (ap earliest same ∙ r.first) in
      let test = λ (j : Job). nat_le j.est t in
      let among = Has-filter_passes test (unended h jobs) r.job first.among in
      let m = unended_own h jobs r.job among.0 in
      let key_is : m.0.key ≡ own.key = sym (keyed ∙ r.keyed ∙ ap (λ (j : Job). j.key) m.1.same) in
      let own_is : m.0 ≡ own = job-from_key set cycles h m.0 own sound before m.1.listed at key_is in
      let listed = Has-filter test (unended h jobs) (with_left h other) (Has-unended h jobs other runs at_other) (le-leb other.est t starts) in
      let order : IsNotAfter (with_left h m.0) other = subst (λ (j : Job). IsNotAfter j other) m.1.same (first.first (with_left h other) listed) in
      subst (λ (j : Job). IsNotAfter j other) own_is order

  goes_first : (own other : Job) → LegalEntries set (cycle_of set) (Run own.key ∷ h) → Has jobs own → Has jobs other → other.est ≤ time_of h → has_ended h other ≡ false → IsNotAfter own other
  goes_first own other told at at_other starts runs =
      elim (run-says told) [
        | inl r ↦ absurd (both_ways (is_soft own.key) (IsGuaranteed-from_listed set cycles h own sound (entries-before told) at).not_soft (ap is_soft r.keyed))
        | inr r ↦ ready-first own.key own other (entries-before told) r refl at at_other starts runs
      ]

module _ (set : TaskSet) (h : History) (sound : is_sound set ≡ true) (feasible : IsFeasible set (cycle_of set)) (legal : IsLegal set (cycle_of set) h) where
  abbrev cycles : ℕ
  cycles = time_of h / cycle_of set + 3

  abbrev all : List Job
  all = guaranteed_in set (cycle_of set) cycles h

  abbrev Two : Job → Job → Type 0
  Two one other = AreTwo set (cycle_of set) h one other

  told : LegalEntries set (cycle_of set) h
  told = legal-as_data set (cycle_of set) h legal

  served : IsServed set (cycle_of set) h
  served = (every_legal_history_is_served set h sound feasible legal).0

  reaches : Reaches set h cycles
  reaches = omega arith

  -- before an entry
  told-at : (what : What) (earlier : History) → Follows h what earlier → LegalEntries set (cycle_of set) (what ∷ earlier)
  told-at what earlier (later, same) =
      entries-earlier later (what ∷ earlier) (subst (LegalEntries set (cycle_of set)) same told)

  reaches-at : (what : What) (earlier : History) → Follows h what earlier → Reaches set earlier cycles
  reaches-at what earlier (later, same) =
      reaches-tail set what earlier cycles sound (reaches-earlier set cycles later (what ∷ earlier) sound (subst (λ k. Reaches set k cycles) same reaches))

  listed-at : (key : Key) (earlier : History) (job : Job) → Follows h (Run key) earlier → Has all job → job.est ≤ time_of earlier → Has (guaranteed_in set (cycle_of set) cycles earlier) job
  listed-at key earlier job (later, same) at starts =
      guaranteed-by set cycles later (Run key ∷ earlier) job (subst (λ k. Has (guaranteed_in set (cycle_of set) cycles k) job) same at) (omega (arith, starts))

  -- a job that runs has come, and has not ended
  starts-at : (job : Job) (earlier : History) → Has all job → Follows h (Run job.key) earlier → job.est ≤ time_of earlier
  starts-at job earlier at follows =
      (served.inside job earlier (Contains-from_Has all job at) follows).1

  runs-at : (job : Job) (earlier : History) → Has all job → Follows h (Run job.key) earlier → has_ended earlier job ≡ false
  runs-at job earlier at follows =
      served.not_after_end job.key job.declared earlier (Contains-from_Has (all_jobs set (cycle_of set) h) (job.key, job.declared) (all_jobs-of_job set cycles h job at)) follows

  -- it goes after none that has come and has not ended
  runs-first : (own other : Job) (earlier : History) → Has all own → Has all other → Follows h (Run own.key) earlier → other.est ≤ time_of earlier → has_ended earlier other ≡ false → IsNotAfter own other
  runs-first own other earlier at at_other follows starts runs =
      goes_first set cycles earlier sound (reaches-at (Run own.key) earlier follows) own other (told-at (Run own.key) earlier follows)
      (listed-at own.key earlier own follows at (starts-at own earlier at follows))
      (listed-at own.key earlier other follows at_other starts)
      starts
      runs

  -- a job that has started had come by its last run
  started-at : (job : Job) (what : What) (earlier : History) → Has all job → Follows h what earlier → has_started earlier job ≡ true → (before : History) × Follows earlier (Run job.key) before × (job.est ≤ time_of before)
  started-at job what earlier at follows started =
      let ran = run-before job.key earlier (ltb-true 0 (executed job.key earlier) started) in
      (ran.0, ran.1, starts-at job ran.0 at (follows-before h what earlier (Run job.key) ran.0 follows ran.1))

  -- where a job goes on, each other one that ran since it had started has ended
  goes-on : (below above : Job) (earlier between : History) → Two below above → Follows h (Run below.key) earlier → Follows earlier (Run above.key) between → has_started between below ≡ true → has_ended earlier above ≡ true
  goes-on below above earlier between two goes came started =
      let at_below = Has-from_Contains all below two.one_listed in
      let at_above = Has-from_Contains all above two.other_listed in
      let ran_above = follows-before h (Run below.key) earlier (Run above.key) between goes came in
      let ran_below = started-at below (Run above.key) between at_below ran_above started in
      let starts : below.est ≤ time_of between = omega (arith, ran_below.2, time-follows between below.key ran_below.0 ran_below.1) in
      let runs = unended-before earlier (Run above.key) between below.key below.declared came (runs-at below earlier at_below goes) in
      let first = runs-first above below between at_above at_below ran_above starts runs in
      let came_by : above.est ≤ time_of earlier = omega (arith, starts-at above between at_above ran_above, time-follows earlier above.key between came) in
      true_from_ne_false (has_ended earlier above) (λ unended_above.
      two.apart (one_key below above (runs-first below above earlier at_below at_above goes came_by unended_above) first))

  -- a job that runs while another one has a frame has its window within that one's
  runs-within : (below above : Job) (earlier : History) → Two below above → Follows h (Run above.key) earlier → HasFrame earlier below → IsWithin below above
  runs-within below above earlier two runs frame =
      let at_below = Has-from_Contains all below two.one_listed in
      let at_above = Has-from_Contains all above two.other_listed in
      let ran = started-at below (Run above.key) earlier at_below runs frame.0 in
      let starts : below.est ≤ time_of earlier = omega (arith, ran.2, time-follows earlier below.key ran.0 ran.1) in
      let first = runs-first above below earlier at_above at_below runs starts frame.1 in
      let due = due-from_not_after above below first in
      elim (cases_lt below.est above.est) [
        | inl later ↦ (later, due)
        | inr sooner ↦
            let ran_below = follows-before h (Run above.key) earlier (Run below.key) ran.0 runs ran.1 in
            let waits_above = unended-before earlier (Run below.key) ran.0 above.key above.declared ran.1 (runs-at above earlier at_above runs) in
            let second = runs-first below above ran.0 at_below at_above ran_below (omega (arith, sooner, ran.2)) waits_above in
            absurd (two.apart (one_key below above second first))
      ]

  -- so of two that have frames the one that ran last has its window within the other's
  within-over : (below above : Job) (later earlier : History) → Two below above → h ≡ later ++ earlier → HasFrame earlier below → RanOver earlier above.key below.key → IsWithin below above
  within-over below above later earlier two same frame over =
      let started = lt-ltb 0 (executed below.key over.before) over.started in
      let runs = unended-before earlier (Run above.key) over.before below.key below.declared over.runs frame.1 in
      runs-within below above over.before two (follows-suffix h later earlier (Run above.key) over.before same over.runs) (started, runs)

  windows-chain : (one other : Job) (later earlier : History) → Two one other → h ≡ later ++ earlier → HasFrame earlier one → HasFrame earlier other → IsWithin one other ⊎ IsWithin other one
  windows-chain one other later earlier two same frame_one frame_other =
      let turned : Two other one = record { one_listed = two.other_listed; other_listed = two.one_listed; apart = λ e. two.apart (sym e) } in
      let started = λ (job : Job) (frame : HasFrame earlier job). ltb-true 0 (executed job.key earlier) frame.0 in
      elim (either-over other.key one.key earlier turned.apart (started other frame_other) (started one frame_one)) [
        | inl over ↦ inl (within-over one other later earlier two same frame_one over)
        | inr over ↦ inr (within-over other one later earlier turned same frame_other over)
      ]

  -- the job of a run that is no soft job's
  own-job : (key : Key) (earlier : History) → Follows h (Run key) earlier → is_soft key ≡ false → (own : Job) × Has all own × (own.key ≡ key)
  own-job key earlier (later, same) hard =
      let owned = (carried-legal set sound feasible told cycles reaches).owned in
      elim (run-owned set cycles h key earlier owned (later, same)) [
        | inl may ↦
            let at = guaranteed-earlier set cycles later (Run key ∷ earlier) may.job may.listed in
            (may.job, subst (λ k. Has (guaranteed_in set (cycle_of set) cycles k) may.job) (sym same) at, may.keyed)
        | inr may ↦ absurd (both_ways (is_soft key) hard (ap is_soft (sym may.keyed)))
      ]

  -- where a job runs, each job that was pushed after it has ended
  above-ended : (key : Key) (job : Job) (earlier : History) (above below : List Key) → Follows h (Run key) earlier → is_soft key ≡ false → pushed (Run key ∷ earlier) ≡ above ++ key ∷ below → Contains all job → Has above job.key → has_ended earlier job ≡ true
  above-ended key job earlier above below follows hard split listed over =
      let own = own-job key earlier follows hard in
      let own_key : own.0.key ≡ key = own.2 in
      let split_before = above-before key earlier above below job.key split over in
      let began = began-over earlier above below job.key key split_before over in
      let ran : 1 ≤ executed own.0.key began.0.before = omega (arith, began.0.started, ap (λ k. executed k began.0.before) own_key) in
      let two : Two own.0 job = record {
        one_listed = Contains-from_Has all own.0 own.1;
        other_listed = listed;
        apart = λ e. absurd (omega (arith, ran, began.1, ap (λ k. executed k began.0.before) e));
      } in
      let goes = subst (λ k. Follows h (Run k) earlier) (sym own_key) follows in
      goes-on own.0 job earlier began.0.before two goes began.0.runs (lt-ltb 0 (executed own.0.key began.0.before) ran)

  -- where a soft job runs, each one of a lower row has ended
  soft-first : (first : SoftJob) (row : ℕ) (earlier : History) → RunsSoft set (cycle_of set) earlier (SoftKey row) → LegalEntries set (cycle_of set) earlier → first.row < row → (first.row ≤ last_row earlier → Has (soft_jobs earlier) first) → soft_has_ended earlier first ≡ true
  soft-first first row earlier r before lower listed =
      let own = waiting_own earlier r.soft (first_soft-listed (waiting_soft earlier) r.soft r.first) in
      let come = soft-come set (cycle_of set) earlier own.0 before own.1.listed in
      let row_is : row ≡ r.soft.row = ap row_of r.keyed in
      let own_row : r.soft.row ≡ own.0.row = ap (λ (s : SoftJob). s.row) own.1.same in
      let at = listed (omega (arith, lower, row_is, own_row, come.row_at_most)) in
      true_from_ne_false (soft_has_ended earlier first) (λ runs.
      let least = first_soft-below None (waiting_soft earlier) r.soft (soft_with_left earlier first) r.first (inr (waits earlier first at runs)) in
      absurd (omega (arith, least, lower, row_is)))

  soft-ended : (first : SoftJob) (row : ℕ) (earlier : History) → Contains (soft_jobs h) first → first.row < row → Follows h (Run (SoftKey row)) earlier → soft_has_ended earlier first ≡ true
  soft-ended first row earlier listed lower (later, same) =
      let longer = Run (SoftKey row) ∷ earlier in
      let entries = told-at (Run (SoftKey row)) earlier (later, same) in
      let at = subst (λ k. Has (soft_jobs k) first) same (Has-from_Contains (soft_jobs h) first listed) in
      let all_told = subst (LegalEntries set (cycle_of set)) same told in
      elim (run-says entries) [
        | inl r ↦ soft-first first row earlier r (entries-before entries) lower (λ low. soft-by set (cycle_of set) later longer first all_told at low)
        | inr r ↦ absurd (both_ways (is_soft (SoftKey row)) (job_runs-not_soft set earlier (SoftKey row) sound (entries-before entries) r) refl)
      ]

  pub nested : IsNested set (cycle_of set) h
  nested = record {
    goes_on = goes-on;
    top = λ key job earlier above below follows hard split listed over.
        above-ended key job earlier above below follows hard split listed (Has-from_Contains above job.key over);
    inside = runs-within;
    chain = windows-chain;
    soft = soft-ended;
  }

-- every legal history of a feasible set is nested
pub every_legal_history_is_nested : EveryLegalHistoryIsNested
every_legal_history_is_nested set h sound feasible legal = nested set h sound feasible legal

-- so is every trace
pub every_trace_is_nested : EveryTraceIsNested
every_trace_is_nested set arrivals n sound feasible fits =
    let entries = trace set arrivals n in
    let legal = every_trace_is_legal set arrivals n (length entries) fits in
    let whole = take_all (length entries) entries (omega arith) in
    nested set (history_of entries) sound feasible (subst (λ es. IsLegal set (cycle_of set) (history_of es)) whole legal)
