-- What each kind of entry keeps of what a legal history carries.
use Rattle.std.proofs.Common.{◌≡◌, ℕ, suc, ◌+◌, ◌-◌, ◌*◌, ◌/◌, ◌<◌, ◌≤◌, Bool, true, false, not, ◌&&◌, cond, List, ◌∷◌, ◌++◌, length, filter, Option, Some, None, add-one, refl, sym, ap, ◌∙◌, subst, inl, inr, arith}
use Rattle.std.specs.Prelude.{nat_le, slice_set}
use Rattle.std.specs.Option.{option_map_or}
use Rattle.std.specs.List.{range_with_len}
use Rattle.std.proofs.lemmas.Bool.{cases_lt, true_from_ne_false, not-true, ltb-false, leb-true, le-leb, lt-leb, leb-false, or_parts, and_left}
use Rattle.slot_core.specs.declared.jobs.Key.{Key}
use Rattle.slot_core.specs.declared.jobs.Key.TheVariants.{Sporadic as SporadicKey, Firm as FirmKey, Soft as SoftKey}
use Rattle.slot_core.specs.declared.jobs.Job.{Job}
use Rattle.slot_core.specs.declared.jobs.SoftJob.{SoftJob}
use Rattle.slot_core.specs.declared.tasks.TaskSet.{TaskSet}
use Rattle.slot_core.specs.declared.events.Ran.TheVariants.{Idle as RanIdle, Key as RanKey}
use Rattle.slot_core.specs.declared.events.What.{What}
use Rattle.slot_core.specs.declared.events.What.TheVariants.{Firm, Sporadic as SporadicEntry, Done, Withdraw, Run, Idle}
use Rattle.slot_core.specs.declared.events.Firm.TheVariants.{Accepted}
use Rattle.slot_core.specs.declared.events.Spo.TheVariants.{Taken as SporadicTaken}
use Rattle.slot_core.specs.declared.events.Done.TheVariants.{Freed}
use Rattle.slot_core.specs.declared.events.Gone.TheVariants.{Freed as GoneFreed}
use Rattle.slot_core.specs.Offline.Keys.{is_offline}
use Rattle.slot_core.specs.Sets.Cycles.{cycle_of}
use Rattle.slot_core.specs.Sets.Ranges.{is_sound}
use Rattle.slot_core.specs.Offline.OfflineJobs.{offline_jobs}
use Rattle.slot_core.specs.Offline.Windows.{precedes}
use Rattle.slot_core.specs.Feasibility.Feasible.{IsFeasible}
use Rattle.slot_core.specs.Runs.Histories.{History, time_of, executed, is_freed, is_over, offered_job, firm_jobs, sporadic_jobs, soft_jobs}
use Rattle.slot_core.specs.Runs.Scenes.{Scene, horizon, guaranteed_in, has_ended, with_left, unended, remaining, soft_has_ended, soft_with_left, waiting_soft, next_arrivals, scene_of, scene_in}
use Rattle.slot_core.specs.Runs.Demand.{work_by, work_from, need_by, is_overloaded}
use Rattle.slot_core.specs.Runs.Choice.{ready, earliest, soft_may_run}
use Rattle.slot_core.specs.Claims.Safety.{after_slot, IsSafe}
use Rattle.slot_facts.proofs.Offline.Windows.{precedes-offline}
use Rattle.slot_facts.proofs.Choice.Earliest.{IsEarliest-from_earliest, least_due, same_from_key}
use Rattle.slot_facts.proofs.Demand.OneSlot.{one_slot}
use Rattle.slot_facts.proofs.Histories.Unended.{Has-unended, unended_own, unended_have_left, after_run-unended}
use Rattle.slot_facts.proofs.Lists.Members.{Has, Contains-from_Has, Has-filter, Has-filter_passes, Has-map_cases, Has-range_with_len, passes_from_list_all, Has-from_slice_get}
use Rattle.slot_facts.proofs.Offline.Jobs.{cycle-positive}
use Rattle.slot_facts.proofs.Offline.Windows.{IsBefore-from_precedes}
use Rattle.slot_facts.proofs.Legal.Bounds.{Reaches, below_end, IsCarried, due-later, bounds-carried}
use Rattle.slot_facts.proofs.Legal.Cycles.{guaranteed-more, left_in-guaranteed, ready-guaranteed}
use Rattle.slot_facts.proofs.Legal.Data.{RunsSoft, RunsJob, Accepts, TakesSporadic, Remains, RunningSoft, LegalEntries, first_soft-listed}
use Rattle.slot_facts.proofs.Legal.Extended.{bound-extended}
use Rattle.slot_facts.proofs.Legal.Jobs.{planned-from_offline, guaranteed-offline, all_jobs-of_job, all_jobs-of_soft}
use Rattle.slot_facts.proofs.Legal.Left.{left_in, left_in-append, left_in-cons, left_in-further, left_of-le, due_by, from_by, work_by-unended, work_from-unended, IsFurther}
use Rattle.slot_facts.proofs.Legal.Owned.{JobMayRun, MayEnd, is_further}
use Rattle.slot_facts.proofs.Legal.Rows.{sporadic_job-at}
use Rattle.slot_facts.proofs.Bounds.CycleDemand.{FitsCycle-from_Has}
use Rattle.slot_facts.proofs.Bounds.CycleLater.{one_cycle_later_has_no_less_room}
use Rattle.slot_facts.proofs.Bounds.TakenArrival.{sporadic_demand-taken}
use Rattle.slot_facts.proofs.Sets.Tasks.{slice_get-within}
use Rattle.slot_facts.proofs.Legal.NextArrivals.{next_arrivals-set, length-next_arrivals, sporadic_demand-later_next}

-- each soft job that waits is one of the soft jobs
pub record IsWaiting (h : History) (soft own : SoftJob) : Type 0 where
  pub listed : Has (soft_jobs h) own
  pub runs : soft_has_ended h own ≡ false
  pub same : soft ≡ soft_with_left h own

pub waiting_own : (h : History) (soft : SoftJob) → Has (waiting_soft h) soft → (own : SoftJob) × IsWaiting h soft own
waiting_own h soft at =
    let m = Has-map_cases (soft_with_left h) (filter (λ s. not (soft_has_ended h s)) (soft_jobs h)) soft at in
    let f = Has-filter_passes (λ s. not (soft_has_ended h s)) (soft_jobs h) m.0 m.1 in
    (m.0, record { listed = f.0; runs = not-true (soft_has_ended h m.0) f.1; same = sym m.2 })

-- what has not ended has slots left, and those that ran and those that are left are all
left_is_whole : (h : History) (key : Key) (declared : ℕ) → is_over h key declared ≡ false → executed key h + (declared - executed key h) ≡ declared
left_is_whole h key declared runs =
    let short = leb-false declared (executed key h) (or_parts (nat_le declared (executed key h)) (is_freed key h) runs).0 in
    omega arith

-- a job that remains may end, an offline one where it has started
pub job_may_end : (set : TaskSet) (cycles : ℕ) (h : History) (key : Key) (n : ℕ) → Reaches set h cycles → (j : Remains set (cycle_of set) h key n) → (is_offline key ≡ true → j.job.left < j.job.declared) → MayEnd set cycles h key n
job_may_end set cycles h key n reaches j started =
    let few = guaranteed_in set (cycle_of set) (time_of h / cycle_of set + 3) h in
    let own = unended_own h few j.job j.among in
    let same = own.1.same in
    let key_is : own.0.key ≡ key = sym (ap (λ (j : Job). j.key) same) ∙ same_from_key j.job.key key j.keyed in
    let left_is : j.job.left ≡ own.0.declared - executed own.0.key h = ap (λ (j : Job). j.left) same in
    let declared_is : j.job.declared ≡ own.0.declared = ap (λ (j : Job). j.declared) same in
    let slots : n ≡ own.0.declared - executed own.0.key h = j.slots ∙ left_is in
    let listed = guaranteed-more set (time_of h / cycle_of set + 3) cycles h own.0 reaches own.1.listed in
    subst (λ k. MayEnd set cycles h k n) key_is (record {
      declared = own.0.declared;
      listed = all_jobs-of_job set cycles h own.0 listed;
      runs = own.1.runs;
      slots = omega (arith, left_is_whole h own.0.key own.0.declared own.1.runs);
      started = λ planned. let less = started (ap is_offline (sym key_is) ∙ planned) in omega arith;
    })

-- so may a soft job that has started
pub soft_may_end : (set : TaskSet) (cycles : ℕ) (h : History) (key : Key) (n : ℕ) → RunningSoft h key n → MayEnd set cycles h key n
soft_may_end set cycles h key n r =
    let own = waiting_own h r.soft r.among in
    let same = own.1.same in
    let key_is : SoftKey own.0.row ≡ key = ap (λ (s : SoftJob). SoftKey s.row) (sym same) ∙ same_from_key (SoftKey r.soft.row) key r.keyed in
    let left_is : r.soft.left ≡ own.0.declared - executed (SoftKey own.0.row) h = ap (λ (s : SoftJob). s.left) same in
    subst (λ k. MayEnd set cycles h k n) key_is (record {
      declared = own.0.declared;
      listed = all_jobs-of_soft set cycles h own.0 own.1.listed;
      runs = own.1.runs;
      slots = omega (arith, left_is_whole h (SoftKey own.0.row) own.0.declared own.1.runs, r.slots);
      started = λ planned. absurd (cc planned);
    })

module _ (set : TaskSet) (cycles : ℕ) (h : History) (sound : is_sound set ≡ true) (feasible : IsFeasible set (cycle_of set)) (legal : LegalEntries set (cycle_of set) h) (reaches : Reaches set h cycles) (carried : IsCarried set cycles h) where
  abbrev t : ℕ
  t = time_of h

  abbrev cycle : ℕ
  cycle = cycle_of set

  abbrev end : ℕ
  end = cycles * cycle

  abbrev scene : Scene
  scene = scene_in set cycle cycles h

  abbrev planned : List Job
  planned = offline_jobs set cycle cycles

  abbrev guaranteed : List Job
  guaranteed = guaranteed_in set cycle cycles h

  abbrev jobs : List Job
  jobs = unended h guaranteed

  early : t + 2 * cycle < end
  early = below_end t cycle cycles (cycle-positive set sound) reaches

  -- those that are ready are the ones up to the horizon
  same-ready : ready t jobs ≡ ready t (remaining set cycle h)
  same-ready =
      let past = below_end t cycle (t / cycle + 3) (cycle-positive set sound) (omega arith) in
      ready-guaranteed set h (t / cycle + 3) cycles sound (omega arith) reaches

  -- a slot that runs the earliest ready job, or none
  safe-after_slot : (chosen : Option Job) → earliest (ready t (remaining set cycle h)) ≡ chosen → IsSafe set.sporadics (next_arrivals set.sporadics h) (after_slot (option_map_or (λ (j : Job). RanKey j.key) chosen RanIdle) jobs) (suc t) end
  safe-after_slot chosen e =
      let safe = one_slot set.sporadics scene end (unended_have_left h guaranteed) (omega (arith, early)) carried.safe in
      let first : earliest (ready t jobs) ≡ chosen = ap earliest same-ready ∙ e in
      rw (first, add-one) at safe

  pub carried-idle : earliest (ready t (remaining set cycle h)) ≡ None → IsCarried set cycles (Idle ∷ h)
  carried-idle none = record { safe = safe-after_slot None none; owned = carried.owned }

  -- the job that is chosen may run
  job_may_run : (key : Key) → RunsJob set cycle h key → JobMayRun set cycles h key
  job_may_run key r =
      let best = r.job in
      let first = IsEarliest-from_earliest (ready t jobs) best (ap earliest same-ready ∙ r.first) in
      let in_time = Has-filter_passes (λ (j : Job). nat_le j.est t) jobs best first.among in
      let own = unended_own h guaranteed best in_time.0 in
      let same = own.1.same in
      let due_is : best.dl ≡ own.0.dl = ap (λ (j : Job). j.dl) same in
      let start_is : best.est ≡ own.0.est = ap (λ (j : Job). j.est) same in
      let key_is : best.key ≡ own.0.key = ap (λ (j : Job). j.key) same in
      let due = due-later set cycles h sound legal reaches carried own.0 own.1.listed own.1.runs in
      let started : own.0.est ≤ t = omega (arith, leb-true best.est t in_time.1) in
      record {
        job = own.0;
        listed = own.1.listed;
        keyed = sym (r.keyed ∙ key_is);
        runs = own.1.runs;
        started = started;
        early = due;
        ordered = λ before at listed.
            let second = planned-from_offline set cycles h own.0 sound legal own.1.listed (ap is_offline (sym (r.keyed ∙ key_is)) ∙ (precedes-offline set before.key key listed).1) in
            let windows = IsBefore-from_precedes set cycles before own.0 sound (Contains-from_Has planned before at) (Contains-from_Has planned own.0 second) (subst (λ k. precedes set before.key k ≡ true) (r.keyed ∙ key_is) listed) in
            true_from_ne_false (has_ended h before) (λ runs.
            let waits = Has-unended h guaranteed before runs (guaranteed-offline set cycles h before at) in
            let ready_too = Has-filter (λ (j : Job). nat_le j.est t) jobs (with_left h before) waits (le-leb before.est t (omega (arith, windows.starts, started))) in
            let sooner : before.dl < own.0.dl = windows.due (omega arith) in
            let later : best.dl ≤ before.dl = least_due (ready t jobs) best (with_left h before) first ready_too in
            absurd (omega arith));
      }

  pub carried-job_run : (key : Key) → RunsJob set cycle h key → IsCarried set cycles (Run key ∷ h)
  carried-job_run key r =
      let safe = safe-after_slot (Some r.job) r.first in
      let ran = rw (after_run-unended r.job.key h guaranteed) at safe in
      record {
        safe = subst (λ k. IsSafe set.sporadics (next_arrivals set.sporadics h) (unended (Run k ∷ h) guaranteed) (suc t) end) (sym r.keyed) ran;
        owned = (inl (job_may_run key r), carried.owned);
      }

  -- once in a while all that is needed grows by no more than time
  later-need : (r x : ℕ) → t + cycle ≤ x → need_by set.sporadics scene r (x + cycle) ≤ need_by set.sporadics scene r x + cycle
  later-need r x late =
      let bounds = bounds-carried set cycles h sound legal reaches carried in
      one_cycle_later_has_no_less_room set cycles scene r x sound feasible bounds.planned bounds.apart (λ job at. (bounds.left job at).2) (λ job at other. (bounds.come job at other).2) late

  -- up to the horizon no more is needed than of the scene
  near-need : (r x : ℕ) → x ≤ horizon cycle t → need_by set.sporadics scene r x ≤ need_by set.sporadics (scene_of set cycle h) r x
  near-need r x near =
      let few = guaranteed_in set cycle (t / cycle + 3) h in
      omega (arith, work_by-unended h guaranteed x, work_by-unended h few x, left_in-guaranteed set h (t / cycle + 3) cycles x sound feasible reaches near)

  -- what has room up to the horizon has room for ever
  room-for_ever : (slots r low : ℕ) → t ≤ low → low ≤ t + cycle → ((x : ℕ) → low ≤ x → x ≤ horizon cycle t → slots + need_by set.sporadics (scene_of set cycle h) r x ≤ x - t) → (x : ℕ) → low ≤ x → slots + need_by set.sporadics scene r x ≤ x - t
  room-for_ever slots r low starts near fits =
      let past = below_end t cycle (t / cycle + 3) (cycle-positive set sound) (omega arith) in
      bound-extended
      (λ x. need_by set.sporadics scene r x)
      slots
      t
      low
      (horizon cycle t)
      cycle
      (cycle-positive set sound)
      starts
      (omega (arith, past))
      (omega (arith, past))
      (λ x above within. omega (arith, fits x above within, near-need r x within))
      (λ x late. later-need r x late)

  -- a slot that runs soft work
  soft-fits : soft_may_run set.sporadics cycle (scene_of set cycle h) ≡ true → (x : ℕ) → t + 1 ≤ x → 1 + need_by set.sporadics scene (t + 1) x ≤ x - t
  soft-fits may =
      room-for_ever 1 (t + 1) (t + 1) (omega arith) (omega (arith, cycle-positive set sound)) (λ x above within.
      let test = λ (y : ℕ). not (is_overloaded set.sporadics (scene_of set cycle h) 1 (t + 1) y) in
      let times = range_with_len (t + 1) (horizon cycle t - t) in
      let fits = passes_from_list_all test times x may (Has-range_with_len (t + 1) (horizon cycle t - t) x above (omega arith)) in
      ltb-false (x - t) (1 + need_by set.sporadics (scene_of set cycle h) (t + 1) x) (not-true (is_overloaded set.sporadics (scene_of set cycle h) 1 (t + 1) x) fits))

  -- entries that add no job leave no more work
  less-work : (after : History) (x : ℕ) → IsFurther h after → work_by (unended after guaranteed) x ≤ work_by jobs x
  less-work after x further =
      omega (arith, work_by-unended h guaranteed x, work_by-unended after guaranteed x, left_in-further (due_by x) h after guaranteed further)

  less-to_come : (after : History) (a x : ℕ) → IsFurther h after → work_from (unended after guaranteed) a x ≤ work_from jobs a x
  less-to_come after a x further =
      omega (arith, work_from-unended h guaranteed a x, work_from-unended after guaranteed a x, left_in-further (from_by a x) h after guaranteed further)

  pub carried-soft_run : (key : Key) → RunsSoft set cycle h key → IsCarried set cycles (Run key ∷ h)
  carried-soft_run key r =
      let further = is_further (Run key) h in
      let own = waiting_own h r.soft (first_soft-listed (waiting_soft h) r.soft r.first) in
      let row_is : r.soft.row ≡ own.0.row = ap (λ (s : SoftJob). s.row) own.1.same in
      record {
        safe = record {
          due = λ x low high. rw (← add-one t) (omega (arith, less-work (Run key ∷ h) x further, soft-fits r.may x (omega arith)));
          to_come = λ a x low middle high. omega (arith, less-to_come (Run key ∷ h) a x further, carried.safe.to_come a x (omega arith) middle high);
        };
        owned = (
          inr (record { soft = own.0; listed = own.1.listed; keyed = ap SoftKey (sym row_is) ∙ sym r.keyed; runs = own.1.runs }),
          carried.owned,
        );
      }

  -- an early end and a withdrawal
  safe-freed : (after : History) → IsFurther h after → IsSafe set.sporadics (next_arrivals set.sporadics h) (unended after guaranteed) t end
  safe-freed after further = record {
    due = λ x low high. omega (arith, less-work after x further, carried.safe.due x low high);
    to_come = λ a x low middle high. omega (arith, less-to_come after a x further, carried.safe.to_come a x low middle high);
  }

  pub carried-freed : (row n : ℕ) (key : Key) (j : Remains set cycle h key n) → j.job.left < j.job.declared → IsCarried set cycles (Done row key (Freed n) ∷ h)
  carried-freed row n key j started =
      record { safe = safe-freed (Done row key (Freed n) ∷ h) (is_further (Done row key (Freed n)) h); owned = (job_may_end set cycles h key n reaches j (λ _. started), carried.owned) }

  pub carried-withdrawn : (row firm n : ℕ) → Remains set cycle h (FirmKey firm) n → IsCarried set cycles (Withdraw row firm (GoneFreed n) ∷ h)
  carried-withdrawn row firm n j =
      record { safe = safe-freed (Withdraw row firm (GoneFreed n) ∷ h) (is_further (Withdraw row firm (GoneFreed n)) h); owned = (job_may_end set cycles h (FirmKey firm) n reaches j (λ planned. absurd (cc planned)), carried.owned) }

  pub carried-soft_freed : (row n : ℕ) (key : Key) → RunningSoft h key n → IsCarried set cycles (Done row key (Freed n) ∷ h)
  carried-soft_freed row n key r =
      record { safe = safe-freed (Done row key (Freed n) ∷ h) (is_further (Done row key (Freed n)) h); owned = (soft_may_end set cycles h key n r, carried.owned) }

  -- the work of one job more, in the middle of the guaranteed jobs or behind the firm ones
  work-more_firm : (test : ℕ → ℕ → Bool) (what : What) (job : Job) → left_in test (what ∷ h) ((planned ++ job ∷ firm_jobs h) ++ sporadic_jobs set.sporadics h) ≤ cond (test job.est job.dl) job.declared 0 + left_in test h guaranteed
  work-more_firm test what job =
      let after = what ∷ h in
      let firm = firm_jobs h in
      let sporadic = sporadic_jobs set.sporadics h in
      omega (
        arith,
        left_in-append test after (planned ++ job ∷ firm) sporadic,
        left_in-append test after planned (job ∷ firm),
        left_in-cons test after job firm,
        left_of-le test after job,
        left_in-append test after (planned ++ firm) sporadic,
        left_in-append test after planned firm,
        left_in-further test h after guaranteed (is_further what h),
      )

  work-more_sporadic : (test : ℕ → ℕ → Bool) (what : What) (job : Job) → left_in test (what ∷ h) ((planned ++ firm_jobs h) ++ job ∷ sporadic_jobs set.sporadics h) ≤ cond (test job.est job.dl) job.declared 0 + left_in test h guaranteed
  work-more_sporadic test what job =
      let after = what ∷ h in
      let firm = firm_jobs h in
      let sporadic = sporadic_jobs set.sporadics h in
      omega (
        arith,
        left_in-append test after (planned ++ firm) (job ∷ sporadic),
        left_in-cons test after job sporadic,
        left_of-le test after job,
        left_in-append test after (planned ++ firm) sporadic,
        left_in-further test h after guaranteed (is_further what h),
      )

  -- a job that starts now is none of those to come
  not_to_come : (a x dl slots : ℕ) → t < a → cond (nat_le a t && nat_le dl x) slots 0 ≡ 0
  not_to_come a x dl slots late =
      let before = and_left (nat_le a t) (nat_le dl x) (lt-leb a t late) in
      ap {B = ℕ} (λ b. cond b slots 0) before

  -- a firm offer that is accepted
  pub carried-accepted : (row slots within : ℕ) → Accepts set cycle h row slots within → IsCarried set cycles (Firm row slots within Accepted ∷ h)
  carried-accepted row slots within a =
      let what = Firm row slots within Accepted in
      let after = what ∷ h in
      let offered = offered_job row t slots within in
      let more = (planned ++ offered ∷ firm_jobs h) ++ sporadic_jobs set.sporadics h in
      let room = room-for_ever slots t (t + within) (omega arith) (omega (arith, a.near)) a.room in
      record {
        safe = record {
          due = λ x low high.
              elim (cases_lt x (t + within)) [
                | inl before ↦
                    let none = ap {B = ℕ} (λ b. cond b slots 0) (lt-leb (t + within) x before) in
                    omega (arith, none, work_by-unended after more x, work_by-unended h guaranteed x, work-more_firm (due_by x) what offered, carried.safe.due x low high)
                | inr past ↦
                    let one = ap {B = ℕ} (λ b. cond b slots 0) (le-leb (t + within) x past) in
                    omega (arith, one, work_by-unended after more x, work_by-unended h guaranteed x, work-more_firm (due_by x) what offered, room x past)
              ];
          to_come = λ a x low middle high.
              omega (arith, not_to_come a x (t + within) slots low, work_from-unended after more a x, work_from-unended h guaranteed a x, work-more_firm (from_by a x) what offered, carried.safe.to_come a x low middle high);
        };
        owned = carried.owned;
      }

  -- a sporadic arrival that is taken
  pub carried-sporadic : (row index due : ℕ) → TakesSporadic set h row index due → IsCarried set cycles (SporadicEntry row index (SporadicTaken due) ∷ h)
  carried-sporadic row index due r =
      let what = SporadicEntry row index (SporadicTaken due) in
      let after = what ∷ h in
      let (s, at) = slice_get-within set.sporadics index r.named in
      let fits = FitsCycle-from_Has set s sound (Has-from_slice_get set.sporadics index s at) in
      let nexts = next_arrivals set.sporadics h in
      let count : length nexts ≡ length set.sporadics = length-next_arrivals set.sporadics h 0 in
      let nexts_after = next_arrivals-set set.sporadics h row index due 0 index index s at (omega arith) refl in
      let taken : Job = record { key = SporadicKey index row; est = t; dl = t + s.deadline; left = s.wcet; declared = s.wcet } in
      let more = (planned ++ firm_jobs h) ++ taken ∷ sporadic_jobs set.sporadics h in
      let safe : IsSafe set.sporadics (slice_set nexts index (t + s.separation)) (unended after more) t end =
      record {
        due = λ x low high.
            omega (
              arith,
              work_by-unended after more x,
              work_by-unended h guaranteed x,
              work-more_sporadic (due_by x) what taken,
              sporadic_demand-taken set.sporadics nexts index s t x at count fits.apart r.not_soon,
              carried.safe.due x low high,
            );
        to_come = λ a x low middle high.
            omega (
              arith,
              not_to_come a x (t + s.deadline) s.wcet low,
              work_from-unended after more a x,
              work_from-unended h guaranteed a x,
              work-more_sporadic (from_by a x) what taken,
              sporadic_demand-later_next set.sporadics nexts index (t + s.separation) a x (omega (arith, r.not_soon)),
              carried.safe.to_come a x low middle high,
            );
      } in
      let job_is = sporadic_job-at set.sporadics index row t s at in
      record {
        safe = subst (λ j. IsSafe set.sporadics (next_arrivals set.sporadics after) (unended after ((planned ++ firm_jobs h) ++ j ∷ sporadic_jobs set.sporadics h)) t end) (sym job_is)
            (subst (λ ns. IsSafe set.sporadics ns (unended after more) t end) (sym nexts_after) safe);
        owned = carried.owned;
      }
