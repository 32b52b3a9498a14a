-- One slot that runs the earliest ready job, or is idle where none is ready, keeps the bounds.
use Rattle.std.proofs.Common.{◌≡◌, ℕ, ◌+◌, ◌-◌, ◌*◌, ◌<◌, ◌≤◌, Bool, true, false, cond, List, map, Option, Some, None, refl, sym, ap, ◌∙◌, subst, inl, inr, arith}
use Rattle.std.specs.Prelude.{Contains, nat_le, nat_lt}
use Rattle.std.specs.Option.{option_map_or}
use Rattle.std.proofs.lemmas.Bool.{cases_Bool, leb-true, ltb-true, le-leb}
use Rattle.std.proofs.lemmas.Bool.Decides.{nat_tests}
use Rattle.std.proofs.lemmas.List.Elements.{All-from_recursion}
use Rattle.std.proofs.lemmas.List.Sums.{sum_by-le-sum_by}
use Rattle.slot_core.specs.declared.jobs.Key.{Key}
use Rattle.slot_core.specs.declared.jobs.Job.{Job}
use Rattle.slot_core.specs.declared.tasks.TaskSet.{TaskSet}
use Rattle.slot_core.specs.declared.events.Ran.TheVariants.{Idle, Key as KeyRan}
use Rattle.slot_core.specs.Offline.Keys.{same_key, is_offline, is_soft}
use Rattle.slot_core.specs.Sets.Cycles.{cycle_of}
use Rattle.slot_core.specs.Sets.Ranges.{is_sound}
use Rattle.slot_core.specs.Offline.OfflineJobs.{offline_jobs}
use Rattle.slot_core.specs.Offline.Windows.{precedes}
use Rattle.slot_core.specs.Runs.Scenes.{Scene}
use Rattle.slot_core.specs.Runs.Demand.{work_by}
use Rattle.slot_core.specs.Runs.Choice.{earliest, ready, earliest_ready}
use Rattle.slot_core.specs.Claims.Safety.{after_run, after_slot, IsSafe}
use Rattle.slot_core.specs.Keeping.Kept.{AreApart, KeepsBounds}
use Rattle.slot_facts.specs.Bounds.{OneSlotKeepsTheBounds}
use Rattle.slot_facts.proofs.Choice.Earliest.{same_from_key, IsEarliest, IsEarliest-from_earliest, least_due}
use Rattle.slot_facts.proofs.Lists.Members.{Has, Has-from_Contains, Contains-from_Has, Has-map, Has-map_cases, Has-filter, Has-filter_passes, AllByRecursion-from_Has}
use Rattle.slot_facts.proofs.Lists.Sums.{sum_by-map, sum_by-filter, cond-le}
use Rattle.slot_facts.proofs.Lists.ApartKeys.{IsApart-from_count, same_member-from_apart}
use Rattle.slot_facts.proofs.Offline.Windows.{IsBefore-from_precedes, precedes-offline}
use Rattle.slot_facts.proofs.Histories.Unended.{later-from_no_work}
use Rattle.slot_facts.proofs.Demand.OneSlot.{job_after, one_slot}
use Rattle.slot_facts.proofs.Bounds.Safe.{kept_scenes_are_safe}

-- a job after a slot: the job of before it, some or all of its slots left
pub record IsLater (own job : Job) : Type 0 where
  pub key : job.key ≡ own.key
  pub est : job.est ≡ own.est
  pub dl : job.dl ≡ own.dl
  pub declared : job.declared ≡ own.declared
  pub left : job.left ≤ own.left
  pub whole : record own { left = own.declared } ≡ record job { left = job.declared }

IsLater-after : (key : Key) (own : Job) → IsLater own (job_after key own)
IsLater-after key own = by_test (same_key own.key key)
  where
    by_test : (b : Bool) → IsLater own (cond b (record own { left = own.left - 1 }) own)
    by_test true = record { key = refl; est = refl; dl = refl; declared = refl; left = omega arith; whole = refl }
    by_test false = record { key = refl; est = refl; dl = refl; declared = refl; left = omega arith; whole = refl }

-- the jobs after a slot are jobs of before it with a slot left; all stay but the one that ran, and no key comes in
pub record IsAfterSlot (t : ℕ) (jobs after : List Job) : Type 0 where
  pub own : (job : Job) → Has after job → (own : Job) × Has jobs own × IsLater own job × (1 ≤ job.left)
  pub stays : (job : Job) → Has jobs job → ((best : Job) → IsEarliest (ready t jobs) best → best ≡ job → ⊥) → Has after job
  pub apart : AreApart after

-- the jobs that a run leaves
after_run-own : (key : Key) (jobs : List Job) (job : Job) → Has (after_run key jobs) job → (own : Job) × Has jobs own × IsLater own job × (1 ≤ job.left)
after_run-own key jobs job at =
    let (listed, some) = Has-filter_passes (λ (j : Job). nat_lt 0 j.left) (map (job_after key) jobs) job at in
    let (own, among, is) = Has-map_cases (job_after key) jobs job listed in
    (own, among, subst (IsLater own) is (IsLater-after key own), ltb-true 0 job.left some)

after_run-stays : (key : Key) (jobs : List Job) (job : Job) → Has jobs job → 1 ≤ job.left → same_key job.key key ≡ false → Has (after_run key jobs) job
after_run-stays key jobs job at some other =
    let same : job_after key job ≡ job = ap (λ b. cond b (record job { left = job.left - 1 }) job) other in
    Has-filter
    (λ (j : Job). nat_lt 0 j.left)
    (map (job_after key) jobs)
    job
    (subst (Has (map (job_after key) jobs)) same (Has-map (job_after key) jobs job at))
    (grind (arith, nat_tests))

-- no key stands more often
after_run-apart : (key : Key) (jobs : List Job) → AreApart jobs → AreApart (after_run key jobs)
after_run-apart key jobs apart k =
    let counts = λ (j : Job). cond {A = ℕ} (same_key j.key k) 1 0 in
    let some = λ (j : Job). nat_lt 0 j.left in
    omega (
      arith,
      sum_by-filter counts some (map (job_after key) jobs),
      sum_by-map (λ j. cond (some j) (counts j) 0) (job_after key) jobs,
      sum_by-le-sum_by (λ j. cond (some (job_after key j)) (counts (job_after key j)) 0) counts jobs each,
      apart k,
    )
  where
    each : (j : Job) → cond (nat_lt 0 (job_after key j).left) (cond (same_key (job_after key j).key k) 1 0) 0 ≤ cond (same_key j.key k) 1 0
    each j =
        let same = ap {B = ℕ} (λ i. cond (same_key i k) 1 0) (IsLater-after key j).key in
        omega (arith, same, cond-le (nat_lt 0 (job_after key j).left) (cond (same_key (job_after key j).key k) 1 0))

-- what a slot leaves
pub IsAfterSlot-from_choice : (t : ℕ) (jobs : List Job) → ((job : Job) → Has jobs job → 1 ≤ job.left) → AreApart jobs → IsAfterSlot t jobs (after_slot (option_map_or (λ (j : Job). KeyRan j.key) (earliest (ready t jobs)) Idle) jobs)
IsAfterSlot-from_choice t jobs some apart = by_chosen (earliest (ready t jobs)) refl
  where
    by_chosen : (c : Option Job) → earliest (ready t jobs) ≡ c → IsAfterSlot t jobs (after_slot (option_map_or (λ (j : Job). KeyRan j.key) c Idle) jobs)
    by_chosen None e =
        record {
          own = λ job at. (job, at, record { key = refl; est = refl; dl = refl; declared = refl; left = omega arith; whole = refl }, some job at);
          stays = λ job at other. at;
          apart = apart;
        }
    by_chosen (Some best) e =
        let most = IsEarliest-from_earliest (ready t jobs) best e in
        let among = Has-filter_passes (λ (j : Job). nat_le j.est t) jobs best most.among in
        record {
          own = after_run-own best.key jobs;
          stays = λ job at other. elim (cases_Bool (same_key job.key best.key)) [
            | inl same ↦ absurd (other best most (sym (same_member-from_apart (λ (j : Job). j.key) jobs job best (IsApart-from_count jobs apart) at among.0 (same_from_key job.key best.key same))))
            | inr another ↦ after_run-stays best.key jobs job at (some job at) another
          ];
          apart = after_run-apart best.key jobs apart;
        }

-- the earliest ready job has no predecessor among the jobs
successor-waits : (set : TaskSet) (cycles : ℕ) (scene : Scene) (before after best : Job) → is_sound set ≡ true → KeepsBounds set (cycle_of set) cycles scene → Has scene.jobs before → Contains scene.jobs after → Contains (offline_jobs set (cycle_of set) cycles) after → precedes set before.key after.key ≡ true → IsEarliest (ready scene.time scene.jobs) best → best ≡ after → ⊥
successor-waits set cycles scene before after best sound bounds at_before at_after offline first most same =
    let planned = bounds.planned before (Contains-from_Has scene.jobs before at_before) (precedes-offline set before.key after.key first).0 in
    let order = IsBefore-from_precedes set cycles (record before { left = before.declared }) after sound planned offline first in
    let chosen = Has-filter_passes (λ (j : Job). nat_le j.est scene.time) scene.jobs best most.among in
    let start : best.est ≤ scene.time = leb-true best.est scene.time chosen.1 in
    let est : best.est ≡ after.est = ap (λ (j : Job). j.est) same in
    let dl : best.dl ≡ after.dl = ap (λ (j : Job). j.dl) same in
    let due = order.due (omega (arith, bounds.left after at_after)) in
    let is_ready = Has-filter (λ (j : Job). nat_le j.est scene.time) scene.jobs before at_before (le-leb before.est scene.time (omega (arith, order.starts))) in
    omega (arith, due, least_due (ready scene.time scene.jobs) best before most is_ready)

-- the bounds after the slot
slot_keeps : (set : TaskSet) (cycles : ℕ) (scene : Scene) (after : List Job) → is_sound set ≡ true → KeepsBounds set (cycle_of set) cycles scene → scene.time < cycles * cycle_of set → IsAfterSlot scene.time scene.jobs after → IsSafe set.sporadics scene.nexts after (scene.time + 1) (cycles * cycle_of set) → KeepsBounds set (cycle_of set) cycles (record scene { time = scene.time + 1; jobs = after })
slot_keeps set cycles scene after sound bounds early slot safe =
    let cycle = cycle_of set in
    let t = scene.time in
    let none : work_by after (t + 1) ≤ 0 = omega (arith, safe.due (t + 1) (omega arith) (omega arith)) in
    let old = λ (own : Job) (at : Has scene.jobs own). Contains-from_Has scene.jobs own at in
    let later = λ (job : Job) (at : Contains after job). slot.own job (Has-from_Contains after job at) in
    record {
      fits = safe.due;
      left = λ job at.
          let (own, listed, is, some) = later job at in
          (later-from_no_work after job (t + 1) none (Has-from_Contains after job at) some, some, omega (arith, is.left, is.declared, bounds.left own (old own listed)));
      planned = λ job at offline.
          let (own, listed, is, some) = later job at in
          subst (Contains (offline_jobs set cycle cycles)) is.whole (bounds.planned own (old own listed) (sym (ap is_offline is.key) ∙ offline));
      come = λ job at online.
          let (own, listed, is, some) = later job at in
          let kept = bounds.come own (old own listed) (sym (ap is_offline is.key) ∙ online) in
          (ap is_soft is.key ∙ kept.0, omega (arith, is.est, kept.1), omega (arith, is.dl, kept.2));
      untouched = λ job offline waits.
          let at = bounds.untouched job offline (omega arith) in
          Contains-from_Has
          after
          job
          (slot.stays job (Has-from_Contains scene.jobs job at) (λ best most same.
          let chosen = Has-filter_passes (λ (j : Job). nat_le j.est t) scene.jobs best most.among in
          absurd (omega (arith, leb-true best.est t chosen.1, ap (λ (j : Job). j.est) same))));
      waiting = λ before next at offline first.
          let (own, listed, is, some) = later before at in
          let first_of_own : precedes set own.key next.key ≡ true = sym (ap (λ k. precedes set k next.key) is.key) ∙ first in
          let at_next = bounds.waiting own next (old own listed) offline first_of_own in
          Contains-from_Has
          after
          next
          (slot.stays next (Has-from_Contains scene.jobs next at_next) (λ best most same. successor-waits set cycles scene own next best sound bounds listed at_next offline first_of_own most same));
      apart = slot.apart;
      one_each = bounds.one_each;
      reach = λ i d within. omega (arith, bounds.reach i d within);
    }

-- one slot keeps the bounds
pub one_slot_keeps_the_bounds : OneSlotKeepsTheBounds
one_slot_keeps_the_bounds set cycles scene sound feasible bounds early =
    let some = λ (job : Job) (at : Has scene.jobs job). (bounds.left job (Contains-from_Has scene.jobs job at)).1 in
    let all = All-from_recursion (λ (j : Job). 1 ≤ j.left) scene.jobs (AllByRecursion-from_Has (λ (j : Job). 1 ≤ j.left) scene.jobs some) in
    slot_keeps
    set
    cycles
    scene
    (after_slot (earliest_ready scene) scene.jobs)
    sound
    bounds
    early
    (IsAfterSlot-from_choice scene.time scene.jobs some bounds.apart)
    (one_slot set.sporadics scene (cycles * cycle_of set) all early (kept_scenes_are_safe set cycles scene sound feasible bounds))
