-- A scene that keeps its bounds is safe: no deadline is at risk, nor any of the jobs that are to come.
use Rattle.std.proofs.Common.{◌≡◌, ℕ, ◌<◌, ◌≤◌, Bool, true, false, cond, ◌&&◌, List, refl, ap, ◌⊎◌, inl, inr, arith}
use Rattle.std.specs.Prelude.{nat_le, Contains}
use Rattle.std.proofs.lemmas.Bool.{cases_Bool}
use Rattle.std.proofs.lemmas.Bool.Decides.{nat_tests}
use Rattle.slot_core.specs.declared.jobs.Key.{Key}
use Rattle.slot_core.specs.declared.jobs.Job.{Job}
use Rattle.slot_core.specs.declared.tasks.TaskSet.{TaskSet}
use Rattle.slot_core.specs.Offline.Keys.{is_offline}
use Rattle.slot_core.specs.Sets.Cycles.{cycle_of}
use Rattle.slot_core.specs.Offline.OfflineJobs.{offline_jobs}
use Rattle.slot_core.specs.Keeping.Kept.{ArePlanned, AreApart}
use Rattle.slot_facts.specs.Bounds.{KeptScenesAreSafe}
use Rattle.slot_facts.proofs.Lists.Members.{Has, Has-from_Contains, Contains-from_Has}
use Rattle.slot_facts.proofs.Lists.Matched.{HasMatch, sum_by-le_matched}
use Rattle.slot_facts.proofs.Lists.ApartKeys.{IsApart-from_count}
use Rattle.slot_facts.proofs.Demand.OneSlot.{work_where}
use Rattle.slot_facts.proofs.Bounds.SafeStart.{offline_jobs-fit}

-- fewer slots of a job that counts
fewer : (b : Bool) (m n : ℕ) → m ≤ n → cond b m 0 ≤ cond b n 0
fewer true m n le = le
fewer false m n le = omega arith

-- where none but offline jobs count, the work that is left is no more than that of the set's offline jobs
pub planned_work-le : (set : TaskSet) (cycle cycles : ℕ) (jobs : List Job) (test : ℕ → ℕ → Bool) → ArePlanned set cycle cycles jobs → AreApart jobs → ((job : Job) → Contains jobs job → job.left ≤ job.declared) → ((job : Job) → Contains jobs job → is_offline job.key ≡ false → test job.est job.dl ≡ false) → work_where test jobs ≤ work_where test (offline_jobs set cycle cycles)
planned_work-le set cycle cycles jobs test planned apart most others =
    sum_by-le_matched
    key
    key
    left
    left
    jobs
    (offline_jobs set cycle cycles)
    (IsApart-from_count jobs apart)
    each
  where
    key : Job → Key
    key j = j.key

    left : Job → ℕ
    left j = cond (test j.est j.dl) j.left 0

    each : (job : Job) → Has jobs job → (left job ≡ 0) ⊎ HasMatch key key left left (offline_jobs set cycle cycles) job
    each job at =
        let listed = Contains-from_Has jobs job at in
        elim (cases_Bool (is_offline job.key)) [
          | inl offline ↦ let own : Job = record job { left = job.declared } in
              inr (own, Has-from_Contains (offline_jobs set cycle cycles) own (planned job listed offline), refl, fewer (test job.est job.dl) job.left job.declared (most job listed))
          | inr come ↦ inl (ap (λ b. cond b job.left 0) (others job listed come))
        ]

starts_before : (a x t est dl : ℕ) → est ≤ t → t < a → (nat_le a est && nat_le dl x) ≡ false
starts_before a x t est dl come later = grind (arith, nat_tests)

-- a scene that keeps its bounds is safe
pub kept_scenes_are_safe : KeptScenesAreSafe
kept_scenes_are_safe set cycles scene sound feasible bounds =
    record {
      due = bounds.fits;
      to_come = λ a x after low high. omega (
        arith,
        planned_work-le set (cycle_of set) cycles scene.jobs (λ est dl. nat_le a est && nat_le dl x) bounds.planned bounds.apart (λ job at. (bounds.left job at).2) (λ job at come. starts_before a x scene.time job.est job.dl (bounds.come job at come).1 after),
        offline_jobs-fit set cycles scene.nexts a x sound feasible low,
      );
    }
