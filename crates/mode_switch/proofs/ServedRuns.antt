-- The run after a change that fits: each job has its slots inside its window, and in order.
use Rattle.std.proofs.Common.{◌≡◌, ℕ, zero, suc, ◌+◌, ◌*◌, ◌/◌, ◌<◌, ◌≤◌, true, false, cond, List, [], ◌∷◌, ◌++◌, div-lt_iff_lt-mul, refl, sym, ap, ◌∙◌, subst, inl, inr, arith}
use Rattle.std.specs.Prelude.{map, nat_le}
use Rattle.std.proofs.lemmas.Bool.{both_ways, cases_Bool, or_parts, or_cases, leb-true, leb-false, cond-true, cond-false}
use Rattle.slot_core.specs.declared.jobs.Key.{Key}
use Rattle.slot_core.specs.declared.jobs.Job.{Job}
use Rattle.slot_core.specs.declared.tasks.TaskSet.{TaskSet}
use Rattle.slot_core.specs.declared.events.Ran.{Ran}
use Rattle.slot_core.specs.declared.events.Ran.TheVariants.{Idle as RanIdle, Key as RanKey}
use Rattle.slot_core.specs.declared.events.What.TheVariants.{Run}
use Rattle.slot_core.specs.Offline.OfflineJobs.{offline_jobs}
use Rattle.slot_core.specs.Sets.Cycles.{cycle_of}
use Rattle.slot_core.specs.Sets.Ranges.{is_sound}
use Rattle.slot_core.specs.Feasibility.Feasible.{IsFeasible}
use Rattle.slot_core.specs.Keeping.Kept.{ArePlanned}
use Rattle.slot_core.specs.Runs.Demand.{work_by}
use Rattle.slot_core.specs.Runs.Histories.{History, time_of, executed, is_freed}
use Rattle.slot_core.specs.Runs.Scenes.{has_ended, with_left, unended}
use Rattle.slot_core.specs.Runs.Choice.{earliest, ready}
use Rattle.slot_core.specs.Runs.Traces.{told_of_slot}
use Rattle.slot_core.specs.Claims.Safety.{after_slot, IsSafe}
use Rattle.slot_facts.proofs.Choice.Earliest.{same_from_key}
use Rattle.slot_facts.proofs.Choice.Ready.{ready_in-cycles}
use Rattle.slot_facts.proofs.Demand.OneSlot.{run_keeps_safe, idle_keeps_safe}
use Rattle.slot_facts.proofs.Histories.Unended.{Has-unended, unended_own, unended_have_left, unended_due, unended-start, unended-after_slot, unended-append}
use Rattle.slot_facts.proofs.Lists.ApartKeys.{IsApart-from_count, same_member-from_apart}
use Rattle.slot_facts.proofs.Lists.Members.{Has, Has-from_Contains}
use Rattle.slot_facts.proofs.Offline.Jobs.{cycle-positive}
use Rattle.slot_facts.proofs.Replays.Entries.{time_of-ran}
use Rattle.slot_facts.proofs.Scheduling.Queue.{is_run_of}
use Rattle.slot_facts.proofs.Scheduling.Raw.{IsInRaw-from_planned, IsBefore-from_planned}
use Rattle.change_laws.specs.Carried.{since, jobs_after, AreCarried}
use Rattle.change_laws.specs.Demand.{FitsFor}
use Rattle.mode_switch.specs.Runs.{turn_between, ran_in, turn_at, after_change, IsServedAfter}
use Rattle.change_laws.proofs.GrantExact.{jobs_after-safe}
use Rattle.change_laws.proofs.GrantJobs.{jobs_after-own, jobs_after-to_come}
use Rattle.mode_switch.proofs.ServedChoices.{RunsFirst, turn-runs_first}

-- in n slots n slots pass
pub time_of-after_change : (set : TaskSet) (c n : ℕ) (carried : List Job) → time_of (after_change set c carried n) ≡ n
time_of-after_change set c zero carried = refl
time_of-after_change set c (suc n) carried =
    time_of-ran (ran_in (turn_at set c carried n)) (after_change set c carried n) ∙ ap suc (time_of-after_change set c n carried)

-- no slot ends a job early
is_freed-ran : (ran : Ran) (key : Key) (h : History) → is_freed key (told_of_slot ran ∷ h) ≡ is_freed key h
is_freed-ran RanIdle key h = refl
is_freed-ran (RanKey k) key h = refl

pub none_freed : (set : TaskSet) (c n : ℕ) (carried : List Job) (key : Key) → is_freed key (after_change set c carried n) ≡ false
none_freed set c zero carried key = refl
none_freed set c (suc n) carried key =
    is_freed-ran (ran_in (turn_at set c carried n)) key (after_change set c carried n) ∙ none_freed set c n carried key

-- a run of a slot is what its turn ran
ran-from_told : (ran : Ran) (key : Key) → told_of_slot ran ≡ Run key → ran ≡ RanKey key
ran-from_told RanIdle key e = absurd (cc e)
ran-from_told (RanKey k) key e = cc e

pub ran-from_test : (ran : Ran) (key : Key) → is_run_of key ran ≡ true → ran ≡ RanKey key
ran-from_test RanIdle key e = absurd (cc e)
ran-from_test (RanKey k) key e = ap RanKey (sym (same_from_key key k e))

-- a run counts one slot more
pub executed-ran : (ran : Ran) (key : Key) (h : History) → executed key (told_of_slot ran ∷ h) ≡ cond (is_run_of key ran) (suc (executed key h)) (executed key h)
executed-ran RanIdle key h = refl
executed-ran (RanKey k) key h = refl

-- a job that has not ended has run less than its slots, and one that has, without an early end, all of them
short-from_runs : (h : History) (job : Job) → has_ended h job ≡ false → executed job.key h < job.declared
short-from_runs h job runs =
    leb-false job.declared (executed job.key h) (or_parts (nat_le job.declared (executed job.key h)) (is_freed job.key h) runs).0

whole-from_ended : (h : History) (job : Job) → has_ended h job ≡ true → is_freed job.key h ≡ false → job.declared ≤ executed job.key h
whole-from_ended h job over kept =
    elim (or_cases (nat_le job.declared (executed job.key h)) (is_freed job.key h) over) [
      | inl ran ↦ leb-true job.declared (executed job.key h) ran
      | inr freed ↦ absurd (both_ways (is_freed job.key h) kept freed)
    ]

-- each run is that of some slot
pub record IsRunOf (set : TaskSet) (c n : ℕ) (carried : List Job) (key : Key) (earlier : History) (m : ℕ) : Type 0 where
  pub before : m < n
  pub then : earlier ≡ after_change set c carried m
  pub ran : ran_in (turn_at set c carried m) ≡ RanKey key

slot_of_run : (set : TaskSet) (c n : ℕ) (carried : List Job) (key : Key) (earlier later : History) → after_change set c carried n ≡ later ++ Run key ∷ earlier → (m : ℕ) × IsRunOf set c n carried key earlier m
slot_of_run set c zero carried key earlier [] e = absurd (cc e)
slot_of_run set c zero carried key earlier (what ∷ later) e = absurd (cc e)
slot_of_run set c (suc n) carried key earlier [] e =
    (n, record { before = omega arith; then = cc e; ran = ran-from_told (ran_in (turn_at set c carried n)) key (cc e) })
slot_of_run set c (suc n) carried key earlier (what ∷ later) e =
    let r = slot_of_run set c n carried key earlier later (cc e) in
    (r.0, record { before = omega (arith, r.1.before); then = r.1.then; ran = r.1.ran })

-- a time lies in the cycles begun by then, and these are no more than any that reach past it
cycle_begun : (t cycle n : ℕ) → 1 ≤ cycle → t < n * cycle → (t < (t / cycle + 1) * cycle) × (t / cycle + 1 ≤ n)
cycle_begun t cycle n some early =
    let reached : t / cycle < n = (div-lt_iff_lt-mul some).1 early in
    ((div-lt_iff_lt-mul some).0 (omega arith), omega arith)

module _ (set : TaskSet) (c row cycles : ℕ) (carried : List Job) (sound : is_sound set ≡ true) (feasible : IsFeasible set (cycle_of set)) (may : AreCarried c row carried) (fits : FitsFor set c carried cycles) where
  abbrev end : ℕ
  end = cycles * cycle_of set

  abbrev own : List Job
  own = map (since c) carried

  abbrev planned : List Job
  planned = offline_jobs set (cycle_of set) cycles

  abbrev jobs : List Job
  jobs = jobs_after set c carried cycles

  abbrev so_far : ℕ → History
  so_far n = after_change set c carried n

  abbrev ran : ℕ → Ran
  ran n = ran_in (turn_at set c carried n)

  abbrev left : ℕ → List Job
  left n = unended (so_far n) jobs

  -- a slot before the end of the cycles runs a first job of those that have not ended
  slot-runs_first : (n : ℕ) → n < end → RunsFirst (left n) n (ran n)
  slot-runs_first n early =
      let h = so_far n in
      let t = time_of h in
      let now : t ≡ n = time_of-after_change set c n carried in
      let begun = cycle_begun t (cycle_of set) cycles (cycle-positive set sound) (omega (arith, now)) in
      let same = ready_in-cycles set t h (t / cycle_of set + 1) cycles sound begun.0 begun.1 in
      let both = turn-runs_first t (unended h own) (unended h planned) in
      let turn = subst (λ (js : List Job). RunsFirst (unended h own ++ unended h planned) t (ran_in (turn_between (earliest (ready t (unended h own))) (earliest js)))) same both in
      subst (λ u. RunsFirst (left n) u (ran n)) now (subst (λ (js : List Job). RunsFirst js t (ran n)) (sym (unended-append h own planned)) turn)

  -- so no deadline up to there is ever at risk
  safe-at : (n : ℕ) → n ≤ end → IsSafe set.sporadics [] (left n) n end
  safe-at zero low =
      let start = unended-start jobs (λ job at. let own = jobs_after-to_come set c row cycles carried job sound feasible may at in (own.some, own.whole)) in
      subst (λ (js : List Job). IsSafe set.sporadics [] js 0 end) (sym start) (jobs_after-safe set c row cycles carried sound feasible may fits)
  safe-at (suc n) low =
      let before = safe-at n (omega arith) in
      let step : IsSafe set.sporadics [] (after_slot (ran n) (left n)) (n + 1) end = elim (slot-runs_first n (omega arith)) [
        | inl idle ↦
            subst (λ r. IsSafe set.sporadics [] (after_slot r (left n)) (n + 1) end) (sym idle.0) (idle_keeps_safe set.sporadics [] (left n) n end before idle.1)
        | inr first ↦
            subst (λ r. IsSafe set.sporadics [] (after_slot r (left n)) (n + 1) end) (sym first.2) (run_keeps_safe set.sporadics [] (left n) n end first.0 (unended_have_left (so_far n) jobs) before first.1.among first.1.first)
      ] in
      let next : n + 1 ≡ suc n = omega arith in
      subst (λ u. IsSafe set.sporadics [] (left (suc n)) u end) next (subst (λ (js : List Job). IsSafe set.sporadics [] js (n + 1) end) (sym (unended-after_slot (ran n) (so_far n) jobs)) step)

  -- a job that is due by now has ended
  ended-by_due : (n : ℕ) (job : Job) → n ≤ end → Has jobs job → job.dl ≤ n → has_ended (so_far n) job ≡ true
  ended-by_due n job low at due =
      let none : work_by (left n) n ≤ 0 = omega (arith, (safe-at n low).due n (omega arith) low) in
      elim (cases_Bool (has_ended (so_far n) job)) [
        | inl over ↦ over
        | inr runs ↦ absurd (omega (arith, unended_due (so_far n) jobs job n none at runs))
      ]

  -- what runs is a job that has not ended, inside its window, and due no later than any other that may run
  record RunsAt (n : ℕ) (job : Job) : Type 0 where
    runs : has_ended (so_far n) job ≡ false
    started : job.est ≤ n
    early : n < job.dl
    first : (other : Job) → Has jobs other → has_ended (so_far n) other ≡ false → other.est ≤ n → job.dl ≤ other.dl

  runs-at : (n : ℕ) (job : Job) → n < end → Has jobs job → ran n ≡ RanKey job.key → RunsAt n job
  runs-at n job early at told =
      elim (slot-runs_first n early) [
        | inl idle ↦ absurd (cc (idle.0, told))
        | inr first ↦
            let (j, own, is) = first in
            let same : j.key ≡ job.key = cc (is, told) in
            let (other, listed) = unended_own (so_far n) jobs j own.among in
            let one = same_member-from_apart (λ (k : Job). k.key) jobs other job (IsApart-from_count jobs (jobs_after-own set c row cycles carried sound may).apart) listed.listed at (ap (λ (k : Job). k.key) (sym listed.same) ∙ same) in
            let none : work_by (left n) n ≤ 0 = omega (arith, (safe-at n (omega arith)).due n (omega arith) (omega arith)) in
            subst
            (RunsAt n)
            one
            (record {
              runs = listed.runs;
              started = omega (arith, own.started, ap (λ (k : Job). k.est) listed.same);
              early = unended_due (so_far n) jobs other n none listed.listed listed.runs;
              first = λ later at_later runs come. omega (arith, own.first (with_left (so_far n) later) (Has-unended (so_far n) jobs later runs at_later) come, ap (λ (k : Job). k.dl) listed.same);
            })
      ]

  -- no job has run more than its slots
  at_most : (n : ℕ) (job : Job) → n ≤ end → Has jobs job → executed job.key (so_far n) ≤ job.declared
  at_most zero job low at = omega arith
  at_most (suc n) job low at =
      let before = at_most n job (omega arith) at in
      let slots = executed-ran (ran n) job.key (so_far n) in
      elim (cases_Bool (is_run_of job.key (ran n))) [
        | inl own ↦
            let now = runs-at n job (omega arith) at (ran-from_test (ran n) job.key own) in
            omega (arith, slots, cond-true {A = ℕ} (is_run_of job.key (ran n)) (suc (executed job.key (so_far n))) (executed job.key (so_far n)) own, short-from_runs (so_far n) job now.runs)
        | inr other ↦
            omega (arith, slots, before, cond-false {A = ℕ} (is_run_of job.key (ran n)) (suc (executed job.key (so_far n))) (executed job.key (so_far n)) other)
      ]

  pub served : (n : ℕ) → n ≤ end → IsServedAfter set jobs (so_far n)
  served n low = record {
    inside = λ job earlier at (later, same).
        let (m, run) = slot_of_run set c n carried job.key earlier later same in
        let now = runs-at m job (omega (arith, run.before)) (Has-from_Contains jobs job at) run.ran in
        let raw = IsInRaw-from_planned set cycles jobs job sound planned at in
        let time : time_of earlier ≡ m = ap time_of run.then ∙ time_of-after_change set c m carried in
        (raw.starts, omega (arith, now.started, time), omega (arith, now.early, time), raw.ends);
    in_time = λ job at due.
        let listed = Has-from_Contains jobs job at in
        let over = ended-by_due n job low listed (omega (arith, due, time_of-after_change set c n carried)) in
        omega (arith, at_most n job low listed, whole-from_ended (so_far n) job over (none_freed set c n carried job.key));
    at_most = λ job at. at_most n job low (Has-from_Contains jobs job at);
    ordered = λ before after earlier at_before at_after first (later, same).
        let (m, run) = slot_of_run set c n carried after.key earlier later same in
        let now = runs-at m after (omega (arith, run.before)) (Has-from_Contains jobs after at_after) run.ran in
        let order = IsBefore-from_planned set cycles jobs before after sound planned at_before at_after first in
        elim (cases_Bool (has_ended (so_far m) before)) [
          | inl over ↦ subst (λ k. has_ended k before ≡ true) (sym run.then) over
          | inr runs ↦
              absurd (omega (arith, order.starts, order.due (omega (arith, now.early)), now.started, now.first before (Has-from_Contains jobs before at_before) runs (omega (arith, order.starts, now.started))))
        ];
  }
    where
      planned : ArePlanned set (cycle_of set) cycles jobs
      planned = (jobs_after-own set c row cycles carried sound may).planned
