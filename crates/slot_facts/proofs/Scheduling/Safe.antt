-- Safe jobs have a slot schedule.
use Rattle.std.proofs.Common.{◌≡◌, ℕ, ◌-◌, ◌≤◌, true, List, [], Some, ap, ◌∙◌, arith}
use Rattle.std.specs.Prelude.{Contains, slice_get}
use Rattle.std.proofs.lemmas.List.{length-map}
use Rattle.std.proofs.lemmas.Option.{slice_get_within}
use Rattle.slot_core.specs.declared.jobs.Job.{Job}
use Rattle.slot_core.specs.declared.tasks.TaskSet.{TaskSet}
use Rattle.slot_core.specs.declared.events.Ran.{Ran}
use Rattle.slot_core.specs.Sets.Cycles.{cycle_of}
use Rattle.slot_core.specs.Sets.Ranges.{is_sound}
use Rattle.slot_core.specs.Claims.Safety.{IsSafe}
use Rattle.slot_core.specs.Claims.Schedules.{IsSchedule}
use Rattle.slot_core.specs.Keeping.Kept.{ArePlanned, AreApart}
use Rattle.slot_facts.specs.Schedules.{SafeJobsHaveASchedule}
use Rattle.slot_facts.proofs.Lists.Members.{Contains-from_Has, Has-from_slice_get}
use Rattle.slot_facts.proofs.Lists.ApartKeys.{IsApart-from_count, same_member-from_apart}
use Rattle.slot_facts.proofs.Scheduling.Queue.{runs, IsQueue, length-runs, runs_inside, runs_in_order, runs_served}
use Rattle.slot_facts.proofs.Scheduling.Numbers.{slot_of_run, slots_of_runs, count_by-slots_of_runs, run_at_slot}
use Rattle.slot_facts.proofs.Scheduling.Raw.{IsInRaw-from_planned, IsBefore-from_planned}

module _ (set : TaskSet) (cycles : ℕ) (jobs : List Job) (t end : ℕ) (sound : is_sound set ≡ true) (planned : ArePlanned set (cycle_of set) cycles jobs) (apart : AreApart jobs) (some : (job : Job) → Contains jobs job → 1 ≤ job.left) (low : t ≤ end) (safe : IsSafe [] [] jobs t end) where
  abbrev rans : List Ran
  rans = runs (end - t) t jobs

  -- the jobs are a queue
  queue : IsQueue set jobs t end
  queue =
      record {
        some = λ job at. some job (Contains-from_Has jobs job at);
        apart = λ a b at_a at_b same. same_member-from_apart (λ (j : Job). j.key) jobs a b (IsApart-from_count jobs apart) at_a at_b same;
        before = λ a b at_a at_b first.
            IsBefore-from_planned set cycles jobs a b sound planned (Contains-from_Has jobs a at_a) (Contains-from_Has jobs b at_b) first;
        safe = safe;
      }

  -- its runs, as slots, are a schedule of them
  schedule : IsSchedule set jobs t end (slots_of_runs jobs rans)
  schedule =
      record {
        whole = length-map rans (slot_of_run jobs) ∙ length-runs (end - t) t jobs;
        named = λ u n at. let r = run_at_slot jobs rans u n at in slice_get_within jobs n r.0 r.1.listed;
        served = λ n job at due.
            let own = IsInRaw-from_planned set cycles jobs job sound planned (Contains-from_Has jobs job (Has-from_slice_get jobs n job at)) in
            count_by-slots_of_runs jobs n job rans (IsApart-from_count jobs apart) at ∙ runs_served set (end - t) t end jobs job queue (omega arith) (Has-from_slice_get jobs n job at) (omega (arith, own.ends));
        within = λ u n job at listed.
            let r = run_at_slot jobs rans u n at in
            let i = runs_inside set (end - t) t end jobs u r.0.key queue (omega arith) r.1.run in
            let one : i.0 ≡ job = queue.apart i.0 job i.1.among (Has-from_slice_get jobs n job listed) (i.1.same ∙ same_key_at n r.0 job r.1.listed listed) in
            let own = IsInRaw-from_planned set cycles jobs job sound planned (Contains-from_Has jobs job (Has-from_slice_get jobs n job listed)) in
            (omega (arith, own.starts, i.1.started, ap (λ (j : Job). j.est) one), omega (arith, own.ends, i.1.early, ap (λ (j : Job). j.dl) one));
        ordered = λ u v m n before after at_u at_v listed_m listed_n first.
            let a = run_at_slot jobs rans u m at_u in
            let b = run_at_slot jobs rans v n at_v in
            runs_in_order set (end - t) t end jobs u v a.0.key b.0.key queue (omega arith) a.1.run b.1.run (rw (same_key_at m a.0 before a.1.listed listed_m, same_key_at n b.0 after b.1.listed listed_n) first);
      }
    where
      same_key_at : (n : ℕ) (a b : Job) → slice_get jobs n ≡ Some a → slice_get jobs n ≡ Some b → a.key ≡ b.key
      same_key_at n a b at_a at_b =
          let same : a ≡ b = cc (at_a, at_b) in
          ap (λ (j : Job). j.key) same

-- jobs of which no deadline is at risk have a schedule
pub safe_jobs_have_a_schedule : SafeJobsHaveASchedule
safe_jobs_have_a_schedule set cycles jobs t end sound planned apart some low safe =
    (slots_of_runs jobs (runs (end - t) t jobs), schedule set cycles jobs t end sound planned apart some low safe)
